-- The files that a store must have by its records, in the order in which they are looked at, and the first of them that
-- differs.
use Rattle.std.specs.Prelude.{◌≡◌, ℕ, ◌+◌, ◌≤◌, ◌⊎◌, List, [], ◌∷◌, ◌++◌, map, Some}
use Rattle.cdb_grid.specs.declared.tile.Tile.{Tile}
use Rattle.cdb_source.specs.declared.head.SourceHead.{SourceHead}
use Rattle.cdb_source.specs.declared.source.Source.{Source}
use Rattle.cdb_source.specs.declared.limits.TheConstants.{MOST_LOAD}
use Rattle.cdb_source.specs.Reached.{IsTouched, IsLoad}
use Rattle.cdb_source.specs.Texts.{source_text}
use Rattle.cdb_model.specs.Maps.{Text, FileMap}
use Rattle.cdb_model.specs.Names.{record_path, source_path, path}
use Rattle.cdb_model.specs.TileFile.{tile_bytes}
use Rattle.cdb_manifest.specs.Records.{record_bytes}
use Rattle.cdb_manifest.specs.declared.record_.Record.{Record}

-- a source file that a record names: its version, its number from one on, and its head
pub record SourceFile : Type 0 where
  pub version : ℕ
  pub number : ℕ
  pub head : SourceHead

-- a file that must be there: a record; a source file; or a tile of a version, which takes its values from the sources
-- of these files
pub data Expected : Type 0 where
  a_record : Record → Expected
  a_source : SourceFile → Expected
  a_tile : List SourceFile → ℕ → Tile → Expected

abbrev pub path_of : Expected → Text
path_of (a_record r) = record_path r.version
path_of (a_source file) = source_path file.version file.number
path_of (a_tile files version t) = path version t

-- ---- which files, in their order

-- the source files of a version, by their numbers from one on
abbrev pub source_files_from : ℕ → ℕ → List SourceHead → List SourceFile
source_files_from version number [] = []
source_files_from version number (head ∷ heads) =
    record { version = version; number = number; head = head } ∷ source_files_from version (number + 1) heads

abbrev pub source_files_of : Record → List SourceFile
source_files_of r = source_files_from r.version 1 r.heads

-- the files of a version that comes after these source files: its record, its sources, its tiles
abbrev pub expected_of : List SourceFile → Record → List Expected
expected_of earlier r =
    a_record r ∷ (map a_source (source_files_of r) ++ map (a_tile (earlier ++ source_files_of r) r.version) r.tiles)

-- the files of versions one after another
abbrev pub expected_after : List SourceFile → List Record → List Expected
expected_after earlier [] = []
expected_after earlier (r ∷ records) = expected_of earlier r ++ expected_after (earlier ++ source_files_of r) records

abbrev pub expected_files : List Record → List Expected
expected_files records = expected_after [] records

-- ---- what each must be

-- the file is that of a source with the head that the record gives
pub record Spells (m : FileMap) (file : SourceFile) (s : Source) : Type 0 where
  pub head : s.head ≡ file.head
  pub there : m (source_path file.version file.number) ≡ Some (source_text s)

-- source files spell sources, one each
abbrev pub SpellAll : FileMap → List SourceFile → List Source → Type 0
SpellAll m [] [] = Unit {0}
SpellAll m (file ∷ files) (s ∷ ss) = Spells m file s × SpellAll m files ss
SpellAll m _ _ = ⊥

-- heads may be published together: their load is small enough, and these are the tiles that they touch
pub record MayTouch (heads : List SourceHead) (tiles : List Tile) : Type 0 where
  pub load : ℕ
  pub load_is : IsLoad heads load
  pub fits : load ≤ MOST_LOAD
  pub touched : IsTouched heads tiles

-- a file is what it must be: a record has its bytes, and lists the tiles that its heads touch; a source file is that of
-- a source with the head that the record gives; a tile has the bytes for the sources that the source files spell
abbrev pub IsAsExpected : FileMap → Expected → Type 0
IsAsExpected m (a_record r) = (m (record_path r.version) ≡ Some (record_bytes r)) × MayTouch r.heads r.tiles
IsAsExpected m (a_source file) = (s : Source) × Spells m file s
IsAsExpected m (a_tile files version t) =
    (ss : List Source) × SpellAll m files ss × (m (path version t) ≡ Some (tile_bytes ss t))

-- ---- all of them, or the first that isn't

abbrev pub AllAsExpected : FileMap → List Expected → Type 0
AllAsExpected m [] = Unit {0}
AllAsExpected m (file ∷ rest) = IsAsExpected m file × AllAsExpected m rest

-- the first that isn't what it must be has this path
abbrev pub FirstOther : FileMap → List Expected → Text → Type 0
FirstOther m [] q = ⊥
FirstOther m (file ∷ rest) q =
    ((IsAsExpected m file → ⊥) × (q ≡ path_of file)) ⊎ (IsAsExpected m file × FirstOther m rest q)

-- all files of a store agree with its records and with each other
abbrev pub Agrees : FileMap → List Record → Type 0
Agrees m records = AllAsExpected m (expected_files records)
