-- What a disk in memory has done, and what it holds by that.
use Rattle.std.specs.Prelude.{ℕ, ◌≤◌, List, [], ◌∷◌, length, take, Some, fold}
use Rattle.cdb_model.specs.Maps.{Text, FileMap, put}
use Rattle.cdb_files.specs.Disk.{State, empty_disk, IsImage, after_create, after_append, after_sync_file, after_sync_dir, after_rename, after_remove, after_make_dir}
use Rattle.cdb_memfiles.specs.declared.call.Call.{Call}
use Rattle.cdb_memfiles.specs.declared.call.Call.TheVariants.{MakeDir, Create, Append, SyncFile, SyncDir, Rename, Remove, Restore}

-- A file that a crash left: it has these bytes, and no other possibility.
unfoldable pub after_restore : Text → List ℕ → State → State
after_restore path bytes s =
    record s { present = put s.present path (Some bytes); may = put s.may path (Some (Some bytes ∷ [])) }

-- What a call makes of a state.
abbrev pub apply : Call → State → State
apply (MakeDir folder) s = after_make_dir folder.bytes s
apply (Create path) s = after_create path.bytes s
apply (Append path piece) s = after_append path.bytes piece.items s
apply (SyncFile path) s = after_sync_file path.bytes s
apply (SyncDir folder) s = after_sync_dir folder.bytes s
apply (Rename from to) s = after_rename from.bytes to.bytes s
apply (Remove path) s = after_remove path.bytes s
apply (Restore path bytes) s = after_restore path.bytes bytes.items s

-- The state that the calls lead to, one after another.
unfoldable pub replay : List Call → State
replay calls = fold (λ s call. apply call s) empty_disk calls

-- A map that a crash may have left before one of the calls from the `t`-th on, or may leave now.
unfoldable pub HasBeen : List Call → ℕ → FileMap → Type 0
HasBeen calls t m = (k : ℕ) × (t ≤ k) × (k ≤ length calls) × IsImage (replay (take k calls)) m
