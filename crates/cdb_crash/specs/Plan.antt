-- The steps of a publication before its head, in their order, and what each makes of a disk.
use Rattle.std.specs.Prelude.{◌≡◌, ℕ, ◌+◌, Bool, false, List, [], ◌∷◌, ◌++◌, length, take, map, fold, None, Some}
use Rattle.cdb_grid.specs.declared.tile.Tile.{Tile}
use Rattle.cdb_source.specs.Texts.{source_text}
use Rattle.cdb_source.specs.declared.source.Source.{Source}
use Rattle.cdb_model.specs.Publications.{heads_of, sources_of}
use Rattle.cdb_model.specs.Maps.{Text, FileMap, put, folder_above}
use Rattle.cdb_model.specs.Names.{record_path, source_path, path}
pub use Rattle.cdb_model.specs.Publications.{each_once}
use Rattle.cdb_model.specs.Records.{record_text}
use Rattle.cdb_model.specs.Stands.{Stands}
use Rattle.cdb_model.specs.TileFile.{tile_bytes}
use Rattle.cdb_files.specs.Disk.{State, after_sync_dir}
use Rattle.cdb_files.specs.Whole.{after_write}
use Rattle.cdb_crash.specs.Crash.{IsMid, with_folder}

-- A path and the bytes that are written there.
pub record File : Type 0 where
  pub path : Text
  pub bytes : List ℕ

-- A file is written and synced in its folder, which is made where it isn't there; a folder is synced; or both, one
-- after the other, as for the record.
pub data FileAction : Type 0 where
  write : File → FileAction
  sync : Text → FileAction
  write_and_sync : File → FileAction

-- ---- the plan
-- The files of sources, by their numbers from one on.
abbrev pub source_files : ℕ → ℕ → List Source → List File
source_files version number [] = []
source_files version number (s ∷ sources) = record { path = source_path version number; bytes = source_text s }
    ∷ source_files version (number + 1) sources

-- The files of tiles, with their values of all these sources.
abbrev pub tile_file : ℕ → List Source → Tile → File
tile_file version all t = record { path = path version t; bytes = tile_bytes all t }

-- The files of a publication but its record: its sources, and then the tiles that it touches.
abbrev pub files_of : List (List Source) → List Source → List Tile → List File
files_of P x tiles = source_files (length P + 1) 1 x ++ map (tile_file (length P + 1) (sources_of (P ++ x ∷ []))) tiles

-- Its record.
abbrev pub record_of : List (List Source) → List Source → List Tile → File
record_of P x tiles =
    record { path = record_path (length P + 1); bytes = record_text (length P + 1) (heads_of x) tiles }

-- The folders that these files lie in, each once, in the order of first use.
abbrev pub folders_of : List File → List Text
folders_of files = each_once (map (λ file. folder_above file.path) files)

-- The files one by one, their folders one by one, and the record with its folder. The head is left.
abbrev pub steps_of : List (List Source) → List Source → List Tile → List FileAction
steps_of P x tiles =
    map write (files_of P x tiles)
    ++ (map sync (folders_of (files_of P x tiles)) ++ write_and_sync (record_of P x tiles) ∷ [])

-- ---- what steps make
-- What a step, and steps one after another, make of a disk.
abbrev pub after_step : FileAction → State → State
after_step (write file) s = after_write (folder_above file.path) file.path file.bytes s
after_step (sync folder) s = after_sync_dir folder s
after_step (write_and_sync file) s = after_sync_dir (folder_above file.path)
    (after_write (folder_above file.path) file.path file.bytes s)

abbrev pub after_steps : List FileAction → State → State
after_steps [] s = s
after_steps (step ∷ steps) s = after_steps steps (after_step step s)

-- The files that are there after steps, and the folders that were synced.
abbrev pub with_files : FileMap → FileAction → FileMap
with_files m (write file) = put m file.path (Some file.bytes)
with_files m (sync folder) = m
with_files m (write_and_sync file) = put m file.path (Some file.bytes)

abbrev pub with_synced : (Text → Bool) → FileAction → Text → Bool
with_synced synced (write file) = synced
with_synced synced (sync folder) = with_folder synced folder
with_synced synced (write_and_sync file) = with_folder synced (folder_above file.path)

abbrev pub files_after : List FileAction → FileMap
files_after steps = fold with_files (λ path. None) steps

abbrev pub synced_after : List FileAction → Text → Bool
synced_after steps = fold with_synced (λ folder. false) steps

-- A step writes to the path.
abbrev pub WritesTo : Text → FileAction → Type 0
WritesTo q (write file) = q ≡ file.path
WritesTo q (sync folder) = ⊥
WritesTo q (write_and_sync file) = q ≡ file.path

-- The middle of a publication after so many of its steps.
abbrev pub IsMidAfter : List (List Source) → List Source → List Tile → ℕ → State → Type 0
IsMidAfter P x tiles count s = IsMid Stands P (files_after (take count (steps_of P x tiles)))
    (synced_after (take count (steps_of P x tiles))) s
