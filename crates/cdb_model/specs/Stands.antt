-- What a map of files stands for: a list of publications, oldest first.
use Rattle.std.specs.Prelude.{◌≡◌, ℕ, ◌+◌, ◌≤◌, ◌⊎◌, List, [], ◌∷◌, ◌++◌, length, slice_get, Contains, Some, None, IsTrue}
use Rattle.cdb_grid.specs.declared.tile.Tile.{Tile}
use Rattle.cdb_source.specs.Reached.{Reached}
use Rattle.cdb_source.specs.Texts.{source_text}
use Rattle.cdb_source.specs.declared.source.Source.{Source}
use Rattle.cdb_model.specs.Maps.{Text, Content, FileMap, IsThere, is_under}
use Rattle.cdb_model.specs.Names.{version_folder, record_path, source_path, path, head_path, new_head_path}
use Rattle.cdb_model.specs.Records.{record_text, head_file_text}
use Rattle.cdb_model.specs.Publications.{Publication, sources_in, sources_of, heads_of, Touches}
use Rattle.cdb_model.specs.TileFile.{tile_bytes}
pub use Rattle.cdb_model.specs.Publications.{IsPublication, IsEntryCount, ArePublications}

-- ---- the files of a version

-- a file of the version that comes after earlier ones, with its bytes: its record, one of its sources, or one of the
-- tiles that they touch, which takes its values from all sources up to this version
pub data IsVersionFile (earlier : List Publication) (x : Publication) (tiles : List Tile) : Text → List ℕ → Type 0 where
  of_record : IsVersionFile earlier x tiles (record_path (length earlier + 1))
      (record_text (length earlier + 1) (heads_of (sources_in x)) tiles)
  of_source : (i : ℕ) (s : Source) → slice_get (sources_in x) i ≡ Some s
      → IsVersionFile earlier x tiles (source_path (length earlier + 1) (i + 1)) (source_text s)
  of_tile : (t : Tile) → Reached (heads_of (sources_in x)) t
      → IsVersionFile earlier x tiles (path (length earlier + 1) t) (tile_bytes (sources_of (earlier ++ x ∷ [])) t)

-- a map has exactly the files of the version that comes after earlier ones
pub record HasVersion (files : FileMap) (earlier : List Publication) (x : Publication) : Type 0 where
  pub tiles : List Tile
  pub touched : Touches x tiles
  pub there : (q : Text) (bytes : List ℕ) → IsVersionFile earlier x tiles q bytes → files q ≡ Some bytes
  pub only : (q : Text) → IsTrue (is_under (version_folder (length earlier + 1)) q) → IsThere (files q)
      → (bytes : List ℕ) × IsVersionFile earlier x tiles q bytes

-- ---- a store

-- what the file that names the newest version has: it isn't there where there is none
abbrev pub head_content : List Publication → Content
head_content [] = None
head_content (x ∷ list) = Some (head_file_text (length (x ∷ list)))

-- the file lies in a version up to the one after the newest; a list has at most 4,096, so this is at most 4,097
pub record IsInVersions (newest : ℕ) (q : Text) : Type 0 where
  pub version : ℕ
  pub from_one : 1 ≤ version
  pub to_next : version ≤ newest + 1
  pub under : IsTrue (is_under (version_folder version) q)

-- paths of a set are at most so many: a list of so many has them all
pub record AtMost (most : ℕ) (Member : Text → Type 0) : Type 0 where
  pub paths : List Text
  pub few : length paths ≤ most
  pub all : (q : Text) → Member q → Contains paths q

-- a map of files stands for a list of publications: its head names the newest version, each version has exactly its
-- files, and all other files are the one that is to take the head's place, or at most 65,536 under the next version
pub record Stands (files : FileMap) (list : List Publication) : Type 0 where
  pub publications : ArePublications list
  pub head : files head_path ≡ head_content list
  pub versions : (earlier : List Publication) (x : Publication) (later : List Publication)
      → list ≡ earlier ++ x ∷ later → HasVersion files earlier x
  pub others : (q : Text) → IsThere (files q) → (q ≡ head_path) ⊎ ((q ≡ new_head_path) ⊎ IsInVersions (length list) q)
  pub leftovers : AtMost 65536 (λ q. IsTrue (is_under (version_folder (length list + 1)) q) × IsThere (files q))
