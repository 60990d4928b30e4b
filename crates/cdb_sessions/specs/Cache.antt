-- The files that are kept in memory.
use Rattle.std.specs.Prelude.{◌≡◌, ℕ, zero, suc, ◌+◌, ◌-◌, ◌*◌, ◌<◌, Bool, true, false, nat_eq, List, []}
use Rattle.std.specs.Prelude.{◌∷◌, ◌++◌, map, take, length, replicate, Option, Some, None, ◌≢◌}
use Rattle.std.specs.List.{flat_map, AllByRecursion, IsDistinct}
use Rattle.lru.specs.LruCache.{LruCache}
use Rattle.cdb_model.specs.Maps.{FileMap, size_of}
use Rattle.cdb_pool.specs.Frames.{Frames, contents}
use Rattle.cdb_pool.specs.declared.frame.Frame.{Frame}
use Rattle.cdb_model.specs.Names.{path}
use Rattle.cdb_sessions.specs.declared.slot.Pair.{Pair}
use Rattle.cdb_sessions.specs.declared.slot.Slot.{Slot}
use Rattle.cdb_sessions.specs.Slots.{NumberedSlot}
use Rattle.cdb_model.specs.declared.limits.TheConstants.{MOST_TILE_BYTES}
use Rattle.cdb_tiff_write.specs.Rasters.{tile_size}

-- a file that is kept: its version and tile, and its bytes
pub record Kept : Type 0 where
  pub pair : Pair
  pub bytes : List ℕ

-- the files that are kept, the one that was used last first, and what the spare frame has
pub record Cache : Type 0 where
  pub kept : List Kept
  pub spare : List ℕ

-- ---- what contracts see

abbrev pub kept_with : Frames ℕ → ℕ → Option Pair → List Kept
kept_with pool frame None = []
kept_with pool frame (Some pair) =
    record { pair = pair; bytes = take (tile_size pair.tile) (contents pool frame) } ∷ []

abbrev pub kept_one : Frames ℕ → NumberedSlot → List Kept
kept_one pool e = kept_with pool e.1.frame e.1.pair

abbrev pub kept_files : Frames ℕ → List NumberedSlot → List Kept
kept_files pool entries = flat_map (kept_one pool) entries

abbrev pub cache_of : Frames ℕ → List NumberedSlot → ℕ → Cache
cache_of pool entries spare = record { kept = kept_files pool entries; spare = contents pool spare }

-- the file is not among those that are kept
abbrev pub HasNone : Pair → List Kept → Type 0
HasNone pair kept = AllByRecursion (λ k. k.pair ≡ pair → ⊥) kept

-- a file that was kept is the first now
pub record IsMovedToFront (pair : Pair) (old new : List Kept) : Type 0 where
  pub before : List Kept
  pub bytes : List ℕ
  pub after : List Kept
  pub was : old ≡ before ++ record { pair = pair; bytes = bytes } ∷ after
  pub now : new ≡ record { pair = pair; bytes = bytes } ∷ (before ++ after)

-- ---- what holds of the parts

-- eight frames, all out
pub record IsPooled (pool : Frames ℕ) : Type 0 where
  pub size : pool.frame_length ≡ MOST_TILE_BYTES
  pub whole : length pool.items ≡ 8 * MOST_TILE_BYTES
  pub out : pool.out ≡ replicate 8 true

-- the frames of slots
abbrev pub frames_of : List NumberedSlot → List ℕ
frames_of entries = map (λ (e : NumberedSlot). e.1.frame) entries

-- a slot without a file has none with a file behind it
abbrev pub FilesFirst : List NumberedSlot → Type 0
FilesFirst [] = Unit {0}
FilesFirst (e ∷ es) = (e.1.pair ≡ None → AllByRecursion (λ (f : NumberedSlot). f.1.pair ≡ None) es) × FilesFirst es

-- so many frames, by their numbers
abbrev pub frame_of : ℕ → Frame
frame_of n = record { number = n }

abbrev pub numbered_frames : ℕ → List Frame
numbered_frames zero = []
numbered_frames (suc n) = numbered_frames n ++ frame_of n ∷ []

pub record IsCache (pool : Frames ℕ) (frames : List Frame) (slots : LruCache ℕ Slot) (spare : ℕ) : Type 0 where
  pub pooled : IsPooled pool
  pub all_frames : frames ≡ numbered_frames 8
  pub count : length slots.entries ≡ 7
  pub cap : slots.cap ≡ 7
  pub apart : IsDistinct nat_eq (spare ∷ frames_of slots.entries)
  pub below : AllByRecursion (λ f. f < 8) (spare ∷ frames_of slots.entries)
  pub files_first : FilesFirst slots.entries

-- ---- parts of calls

-- the flags of eight frames, of which so many are out
abbrev pub flags : ℕ → List Bool
flags n = replicate n true ++ replicate (8 - n) false

-- a file was read and is the first now; of seven files the last one went
pub record IsKept (Tells : Type 0) (present : FileMap) (pair : Pair) (old new : List Kept) : Type 0 where
  pub bytes : List ℕ
  pub len : length bytes ≡ tile_size pair.tile
  pub told : Tells → present (path pair.version pair.tile) ≡ Some bytes
  pub now : new ≡ record { pair = pair; bytes = bytes } ∷ take 6 old

-- a file isn't there or has another size than its form gives
pub record IsDamaged (Tells : Type 0) (present : FileMap) (pair : Pair) (expected : ℕ) (found : Option ℕ) : Type 0 where
  pub form : expected ≡ tile_size pair.tile
  pub other : found ≢ Some expected
  pub told : Tells → found ≡ size_of (present (path pair.version pair.tile))
