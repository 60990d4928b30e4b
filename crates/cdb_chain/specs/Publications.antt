-- The records of a list of publications, and what opening and look-ups give for the list.
use Rattle.std.specs.Prelude.{◌≡◌, ℕ, ◌+◌, List, ◌∷◌, ◌++◌, length, slice_get, Option, Some, None, Result, Ok, Err}
use Rattle.cdb_grid.specs.declared.tile.Tile.{Tile}
use Rattle.cdb_source.specs.Reached.{Reached, IsTouched}
use Rattle.cdb_source.specs.declared.source.Source.{Source}
use Rattle.cdb_model.specs.ByteLaws.{BytesByReaching}
use Rattle.cdb_model.specs.Publications.{heads_of, sources_up_to}
use Rattle.cdb_model.specs.Maps.{FileMap}
use Rattle.cdb_model.specs.Names.{path}
use Rattle.cdb_model.specs.Stands.{HasVersion}
use Rattle.cdb_model.specs.TileFile.{tile_bytes}
use Rattle.cdb_manifest.specs.declared.record_.Record.{Record}
use Rattle.cdb_chain.specs.Versions.{Versions, IsFound}
use Rattle.cdb_chain.specs.declared.open_error.OpenError.{OpenError}
use Rattle.cdb_chain.specs.declared.open_error.OpenError.TheVariants.{Memory, Fault, NotAStore}

-- records are those of the publications of a list
pub record AreRecords (records : List Record) (P : List (List Source)) : Type 0 where
  pub count : length records ≡ length P
  pub versions : (k : ℕ) (r : Record) → slice_get records k ≡ Some r → r.version ≡ k + 1
  pub heads : (k : ℕ) (r : Record) (x : List Source) → slice_get records k ≡ Some r → slice_get P k ≡ Some x
      → r.heads ≡ heads_of x
  pub tiles : (k : ℕ) (r : Record) (x : List Source) → slice_get records k ≡ Some r → slice_get P k ≡ Some x
      → IsTouched (heads_of x) r.tiles

-- a map has the files of each version of a list
abbrev pub HasVersions : FileMap → List (List Source) → Type 0
HasVersions files P = (earlier : List (List Source)) (sources : List Source) (later : List (List Source))
    → P ≡ earlier ++ sources ∷ later → HasVersion files earlier sources

-- what opening gives over a store that stands for a list: its records, unless memory is refused or a call of the disk
-- fails
abbrev pub OpensTo : List (List Source) → Result Versions OpenError → Type 0
OpensTo P (Ok chain) = AreRecords chain.records P
OpensTo P (Err (NotAStore version place)) = ⊥
OpensTo P (Err Memory) = Unit {0}
OpensTo P (Err Fault) = Unit {0}

-- ---- look-ups

-- a look-up finds a version exactly where a source of the publications up to the given one reaches the tile
abbrev pub MeetsSources : List (List Source) → ℕ → Tile → Option ℕ → Type 0
MeetsSources P version tile None = Reached (heads_of (sources_up_to version P)) tile → ⊥
MeetsSources P version tile (Some found) = Reached (heads_of (sources_up_to version P)) tile

abbrev pub LookUpsMeetSources : Type 0
LookUpsMeetSources = (chain : Versions) (P : List (List Source)) (version : ℕ) (tile : Tile) (found : Option ℕ)
    → AreRecords chain.records P → IsFound chain version tile found → MeetsSources P version tile found

-- where the files of the versions are there, that of the version that a look-up finds has the bytes that all sources up
-- to the given version give
abbrev pub LookUpsNameFiles : Type 0
LookUpsNameFiles = BytesByReaching
    → (files : FileMap) (chain : Versions) (P : List (List Source)) (version : ℕ) (tile : Tile) (found : ℕ)
    → HasVersions files P → AreRecords chain.records P → IsFound chain version tile (Some found)
    → files (path found tile) ≡ Some (tile_bytes (sources_up_to version P) tile)
