-- The removals of recovery, over states.
use Rattle.std.specs.Prelude.{ℕ, List, [], ◌∷◌}
use Rattle.cdb_model.specs.Maps.{Text, IsThere, folder_above}
use Rattle.cdb_model.specs.Names.{new_head_path}
use Rattle.cdb_files.specs.Disk.{State, after_sync_dir, after_remove}
use Rattle.cdb_crash.specs.Leftovers.{IsOfVersion}

-- A file is removed and its folder synced.
abbrev pub after_removal : Text → State → State
after_removal path s = after_sync_dir (folder_above path) (after_remove path s)

-- One file after another.
abbrev pub after_removals : List Text → State → State
after_removals [] s = s
after_removals (path ∷ paths) s = after_removals paths (after_removal path s)

-- Each of the paths lies under the version, and has a file when its turn comes.
abbrev pub AreLeft : ℕ → List Text → State → Type 0
AreLeft version [] s = Unit {0}
AreLeft version (path ∷ paths) s = IsOfVersion version path × IsThere (s.present path)
    × AreLeft version paths (after_removal path s)

-- The root is synced, and the new head removed.
abbrev pub after_barrier : State → State
after_barrier s = after_remove new_head_path (after_sync_dir [] s)
