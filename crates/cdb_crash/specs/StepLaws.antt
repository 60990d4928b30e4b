-- Laws of the steps of a publication: which step has a number, which files are there, and what a write leaves that
-- failed.
use Rattle.std.specs.Prelude.{◌≡◌, ℕ, ◌+◌, ◌≤◌, ◌<◌, ◌⊎◌, List, [], ◌∷◌, ◌++◌, length, take, slice_get, All, Contains, Some, None, IsTrue}
use Rattle.cdb_grid.specs.declared.tile.Tile.{Tile}
use Rattle.cdb_source.specs.Reached.{Reached, Reaches, IsTouched}
use Rattle.cdb_source.specs.Texts.{source_text}
use Rattle.cdb_source.specs.declared.source.Source.{Source}
use Rattle.cdb_model.specs.Publications.{heads_of, sources_of}
use Rattle.cdb_model.specs.Maps.{Text, FileMap}
use Rattle.cdb_model.specs.Names.{source_path, path, new_head_path}
use Rattle.cdb_model.specs.Stands.{ArePublications, Stands}
use Rattle.cdb_model.specs.TileFile.{tile_bytes}
use Rattle.cdb_files.specs.Disk.{State, IsSettledAt, Fails, after_create, after_make_dir}
use Rattle.cdb_files.specs.Whole.{FailsFill, FailsWrite}
use Rattle.cdb_crash.specs.Crash.{IsClear, head_filled}
use Rattle.cdb_crash.specs.Plan.{FileAction, files_of, folders_of, record_of, tile_file, steps_of, IsMidAfter}

-- The sources come first, then the tiles, then the folders of both, and the record is the last one.
pub record Numbers (P : List (List Source)) (x : List Source) (tiles : List Tile) : Type 0 where
  pub source_at : (i : ℕ) (s : Source) → slice_get x i ≡ Some s
      → slice_get (steps_of P x tiles) i
      ≡ Some (FileAction.write (record { path = source_path (length P + 1) (i + 1); bytes = source_text s }))
  pub tile_at : (i number : ℕ) (t : Tile) → number ≡ length x + i → slice_get tiles i ≡ Some t
      → slice_get (steps_of P x tiles) number
      ≡ Some (FileAction.write (tile_file (length P + 1) (sources_of (P ++ x ∷ [])) t))
  pub folder_at : (i number : ℕ) (folder : Text) → number ≡ length x + length tiles + i
      → slice_get (folders_of (files_of P x tiles)) i ≡ Some folder
      → slice_get (steps_of P x tiles) number ≡ Some (FileAction.sync folder)
  pub record_at : (number : ℕ) → number ≡ length x + length tiles + length (folders_of (files_of P x tiles))
      → slice_get (steps_of P x tiles) number ≡ Some (FileAction.write_and_sync (record_of P x tiles))

abbrev pub StepNumbers : Type 0
StepNumbers = (P : List (List Source)) (x : List Source) (tiles : List Tile) → Numbers P x tiles

-- Lists of tiles, one for each publication: those that it touches.
pub record AreTouched (lists : List (List Tile)) (P : List (List Source)) : Type 0 where
  pub count : length lists ≡ length P
  pub each : (k : ℕ) (tiles : List Tile) (x : List Source) → slice_get lists k ≡ Some tiles → slice_get P k ≡ Some x
      → IsTouched (heads_of x) tiles

-- The file of a tile in the last version that touches it has the bytes that all sources give. No source reaches a tile
-- that no version touches, and a publication that doesn't reach a tile leaves its bytes. In the middle of a publication
-- the file of a tile is there once its step is made.
pub record NewestFiles : Type 0 where
  pub newest_before : (m : FileMap) (lists : List (List Tile)) (P : List (List Source)) (t : Tile) (k : ℕ)
      (tiles : List Tile) → Stands m P → AreTouched lists P
      → slice_get lists k ≡ Some tiles → Contains tiles t
      → ((j : ℕ) (later : List Tile) → k < j → slice_get lists j ≡ Some later → Contains later t → ⊥)
      → m (path (k + 1) t) ≡ Some (tile_bytes (sources_of P) t)
  pub none_before : (lists : List (List Tile)) (P : List (List Source)) (t : Tile) → AreTouched lists P
      → ((j : ℕ) (tiles : List Tile) → slice_get lists j ≡ Some tiles → Contains tiles t → ⊥)
      → All (λ (s : Source). Reaches s.head t → ⊥) (sources_of P)
  pub same_after : (P : List (List Source)) (x : List Source) (t : Tile) → (Reached (heads_of x) t → ⊥)
      → tile_bytes (sources_of P) t ≡ tile_bytes (sources_of P ++ x) t
  pub newest_own : (P : List (List Source)) (x : List Source) (tiles : List Tile) → ArePublications (P ++ x ∷ [])
      → IsTouched (heads_of x) tiles → (number i : ℕ) (s : State) (t : Tile)
      → IsMidAfter P x tiles number s → slice_get tiles i ≡ Some t → length x + i < number
      → s.present (path (length P + 1) t) ≡ Some (tile_bytes (sources_of (P ++ x ∷ [])) t)

-- The new head, once it is written, is there with its bytes, and a crash leaves it so or absent: on any disk.
pub record FilledHead : Type 0 where
  pub there : (text : List ℕ) (s : State) → (head_filled text s).present new_head_path ≡ Some text
  pub settled : (text : List ℕ) (s : State) → IsSettledAt (head_filled text s) new_head_path

-- After a write that failed: made folders stay, and only those of the folder are added; the file is as before, or has a
-- first part of the bytes; and a clear disk is clear, unless it was `create` that failed and the file isn't there.
pub record FailedWrite (folder path : Text) (bytes : List ℕ) (old new : State) : Type 0 where
  pub kept : (q : Text) → IsTrue (old.made q) → IsTrue (new.made q)
  pub added : (q : Text) → IsTrue (new.made q) → IsTrue ((after_make_dir folder old).made q)
  pub file : (new.present path ≡ old.present path)
      ⊎ ((n : ℕ) × (n ≤ length bytes) × (new.present path ≡ Some (take n bytes)))
  pub clear : IsClear old → IsClear new
      ⊎ (Fails (after_make_dir folder old) (after_create path (after_make_dir folder old)) new
      × (new.present path ≡ None))

pub record FailedWrites : Type 0 where
  pub whole : (folder path : Text) (bytes : List ℕ) (old new : State) → FailsWrite folder path bytes old new
      → FailedWrite folder path bytes old new
  pub new_head : (bytes : List ℕ) (old new : State) → FailsFill new_head_path bytes old new → IsClear old → IsClear new
