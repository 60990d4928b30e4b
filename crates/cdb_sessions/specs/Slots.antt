-- The slots of the cache.
use Rattle.std.specs.Prelude.{◌≡◌, ℕ, zero, suc, Bool, false, ◌&&◌, nat_eq, List, [], ◌∷◌, ◌++◌, Option, Some}
use Rattle.std.specs.Prelude.{None}
use Rattle.std.specs.Ordering.{is_eq}
use Rattle.lru.specs.LruCache.{LruCache, lru_cache}
use Rattle.cdb_grid.specs.Order.{tile_cmp}
use Rattle.cdb_sessions.specs.declared.slot.Pair.{Pair}
use Rattle.cdb_sessions.specs.declared.slot.Slot.{Slot}

-- a slot with its number
abbrev pub NumberedSlot : Type 0
NumberedSlot = ℕ × Slot

-- a slot with a frame and no file, or with a file
abbrev pub fresh_slot : ℕ → Slot
fresh_slot frame = record { frame = frame; pair = None }

abbrev pub filled_slot : ℕ → Pair → Slot
filled_slot frame pair = record { frame = frame; pair = Some pair }

-- so many slots, each with the frame of its number and no file, the last number first
abbrev pub fresh : ℕ → List NumberedSlot
fresh zero = []
fresh (suc n) = (n, fresh_slot n) ∷ fresh n

-- the slot has this file
abbrev pub is_pair : Pair → Option Pair → Bool
is_pair pair None = false
is_pair pair (Some kept) = nat_eq kept.version pair.version && is_eq (tile_cmp kept.tile pair.tile)

abbrev pub holds : Pair → Slot → Bool
holds pair slot = is_pair pair slot.pair

-- the slot that has the file came to the front
pub record IsMoved (pair : Pair) (frame : ℕ) (old new : List NumberedSlot) : Type 0 where
  pub before : List NumberedSlot
  pub number : ℕ
  pub after : List NumberedSlot
  pub was : old ≡ before ++ (number, filled_slot frame pair) ∷ after
  pub now : new ≡ (number, filled_slot frame pair) ∷ (before ++ after)

-- the last slot has this frame and file now, and came to the front; the frame that it had is given
pub record IsRenewed (frame : ℕ) (pair : Pair) (old new : LruCache ℕ Slot) (given : ℕ) : Type 0 where
  pub before : List NumberedSlot
  pub last : NumberedSlot
  pub was : old.entries ≡ before ++ last ∷ []
  pub frame_is : given ≡ last.1.frame
  pub now : new ≡ lru_cache ((last.0, filled_slot frame pair) ∷ before) old.cap
