-- Laws of what a check answers.
use Rattle.std.specs.Prelude.{◌≡◌, ℕ, ◌+◌, List, ◌∷◌, ◌++◌, length, slice_get, Some}
use Rattle.cdb_grid.specs.declared.tile.Tile.{Tile}
use Rattle.cdb_model.specs.Maps.{Text, FileMap}
use Rattle.cdb_model.specs.Publications.{Publication, sources_of, Touches, IsPublication, IsEntryCount}
use Rattle.cdb_model.specs.Stands.{IsVersionFile, Stands}
use Rattle.cdb_manifest.specs.declared.record_.Record.{Record}
use Rattle.cdb_chain.specs.Publications.{AreRecords}
use Rattle.cdb_check.specs.Expected.{Expected, AllAsExpected, FirstOther, Agrees, expected_files}

-- all files are as expected, or one of them is the first that isn't: not both, and there is one such path
pub record FindsOne : Type 0 where
  pub not_both : (m : FileMap) (files : List Expected) (q : Text) → AllAsExpected m files → FirstOther m files q → ⊥
  pub one_path : (m : FileMap) (files : List Expected) (p q : Text)
      → FirstOther m files p → FirstOther m files q → p ≡ q

-- ---- a store that stands for publications agrees

-- publications have so many files besides the one that names the newest: a record each, their sources, and the tiles
-- that each touches
pub record IsFileCount (list : List Publication) (count : ℕ) : Type 0 where
  pub entries : ℕ
  pub entries_are : IsEntryCount list entries
  pub count_is : count ≡ length list + length (sources_of list) + entries

-- where a map stands for a list of publications with these records, all files are as expected, and as many as the
-- publications have
pub record StoresAgree : Type 0 where
  pub agrees : (m : FileMap) (list : List Publication) (records : List Record)
      → Stands m list → AreRecords records list → Agrees m records
  pub counted : (list : List Publication) (records : List Record)
      → AreRecords records list → IsFileCount list (length (expected_files records))

-- ---- a store that agrees keeps publications

-- a map has the files of the version that comes after earlier ones; it may have others
pub record HasVersionFiles (m : FileMap) (earlier : List Publication) (x : Publication) : Type 0 where
  pub tiles : List Tile
  pub touched : Touches x tiles
  pub there : (q : Text) (bytes : List ℕ) → IsVersionFile earlier x tiles q bytes → m q ≡ Some bytes

-- records are those of publications whose files are all there
pub record HaveTheirFiles (m : FileMap) (records : List Record) : Type 0 where
  pub list : List Publication
  pub are : AreRecords records list
  pub each : (earlier : List Publication) (x : Publication) (later : List Publication)
      → list ≡ earlier ++ x ∷ later → IsPublication x × HasVersionFiles m earlier x

-- the versions of records go up from 1
abbrev pub AreNumbered : List Record → Type 0
AreNumbered records = (k : ℕ) (r : Record) → slice_get records k ≡ Some r → r.version ≡ k + 1

-- where all files are as the records of versions from 1 on expect, the records are those of publications that are kept
abbrev pub AgreeingStoresAreKept : Type 0
AgreeingStoresAreKept = (m : FileMap) (records : List Record) → AreNumbered records → Agrees m records
    → HaveTheirFiles m records
