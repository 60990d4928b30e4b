-- Inside the crate: the files that are kept in memory.
use Rattle.std.specs.Prelude.{◌≡◌, ℕ, ◌-◌, Bool, true, false, List}
use Rattle.std.specs.Prelude.{Some, Result, Ok, Err}
use Rattle.cdb_model.specs.Maps.{Content, FileMap, size_of}
use Rattle.cdb_files.specs.declared.whole.ReadSize.{ReadSize}
use Rattle.cdb_files.specs.declared.whole.ReadSize.TheVariants.{Read, Other}
use Rattle.cdb_pool.specs.Frames.{Frames}
use Rattle.cdb_sessions.specs.declared.errors.TileError.{TileError}
use Rattle.cdb_sessions.specs.declared.errors.TileError.TheVariants.{Fault, Unknown, Damaged}
use Rattle.cdb_sessions.specs.declared.slot.Pair.{Pair}
use Rattle.cdb_sessions.specs.Cache.{Cache, HasNone, IsDamaged, IsKept, IsMovedToFront, Kept, flags}

-- whether a file is kept, and what becomes of the files then
abbrev pub IsUsed : Pair → Cache → Cache → Bool → Type 0
IsUsed pair old new true = IsMovedToFront pair old.kept new.kept
IsUsed pair old new false = HasNone pair old.kept × (new ≡ old)

abbrev pub with_flags : Frames ℕ → ℕ → Frames ℕ
with_flags pool n = record pool { out = flags n }

-- the whole file was read, or it has another size
abbrev pub IsFileRead : Content → List ℕ → ReadSize → Type 0
IsFileRead content bytes Read = content ≡ Some bytes
IsFileRead content bytes (Other size) = size ≡ size_of content

-- what becomes of the files that are kept where one is read
abbrev pub IsReadFrom : Type 0 → FileMap → Pair → List Kept → List Kept → Result Unit TileError → Type 0
IsReadFrom Tells present pair old new (Ok _) = IsKept Tells present pair old new
IsReadFrom Tells present pair old new (Err Fault) = new ≡ old
IsReadFrom Tells present pair old new (Err (Damaged expected found)) =
    IsDamaged Tells present pair expected found × (new ≡ old)
IsReadFrom Tells present pair old new (Err Unknown) = ⊥
