-- Publications: the sources that they bring, the tiles that they touch, their load, and how many steps each has.
use Rattle.std.specs.Prelude.{ℕ, ◌≡◌, ◌+◌, ◌≤◌, not, List, [], ◌∷◌, ◌++◌, length, take, map, filter, All}
use Rattle.std.specs.List.{flat_map}
use Rattle.std.specs.Str.{bytes_eq}
use Rattle.cdb_grid.specs.declared.tile.Tile.{Tile}
use Rattle.cdb_source.specs.Reached.{IsTouched, IsLoad}
use Rattle.cdb_source.specs.declared.head.SourceHead.{SourceHead}
use Rattle.cdb_source.specs.declared.source.Source.{Source}
use Rattle.cdb_source.specs.declared.limits.TheConstants.{MOST_LOAD}
use Rattle.cdb_model.specs.Maps.{Text, folder_above}
use Rattle.cdb_model.specs.Names.{source_path, path}
use Rattle.cdb_model.specs.declared.limits.TheConstants.{MOST_VERSIONS}

-- ---- what a publication is

-- a publication: its sources, oldest first
abbrev pub Publication : Type 0
Publication = List Source

-- pending sources that are published together, and the sources of a publication
abbrev pub publication_of : List Source → Publication
publication_of sources = sources

abbrev pub sources_in : Publication → List Source
sources_in x = x

-- the sources of publications, and of the first of them up to a version, oldest first
abbrev pub sources_of : List Publication → List Source
sources_of list = flat_map sources_in list

abbrev pub sources_up_to : ℕ → List Publication → List Source
sources_up_to version list = sources_of (take version list)

-- the heads of sources, in their order
abbrev pub heads_of : List Source → List SourceHead
heads_of ss = map (λ s. s.head) ss

-- the tiles that a publication touches, and its load
abbrev pub Touches : Publication → List Tile → Type 0
Touches x tiles = IsTouched (heads_of (sources_in x)) tiles

abbrev pub HasLoad : Publication → ℕ → Type 0
HasLoad x load = IsLoad (heads_of (sources_in x)) load

-- ---- which lists of them a store has

-- 1 to 64 sources whose load is at most 16,384
pub record IsPublication (x : Publication) : Type 0 where
  pub some : 1 ≤ length (sources_in x)
  pub few : length (sources_in x) ≤ 64
  pub load : ℕ
  pub load_is : HasLoad x load
  pub fits : load ≤ MOST_LOAD

-- the tiles that publications touch, each counted as often as it is touched
abbrev pub IsEntryCount : List Publication → ℕ → Type 0
IsEntryCount [] count = count ≡ 0
IsEntryCount (x ∷ list) count =
    (tiles : List Tile) × (rest : ℕ) × (Touches x tiles × IsEntryCount list rest × (count ≡ length tiles + rest))

-- at most 4,096 publications, which touch at most 1,000,000 tiles together
pub record ArePublications (list : List Publication) : Type 0 where
  pub each : All IsPublication list
  pub few : length list ≤ MOST_VERSIONS
  pub entries : ℕ
  pub entries_are : IsEntryCount list entries
  pub entries_fit : entries ≤ 1000000

-- ---- the steps of one

-- the paths of sources of a version, by their numbers from one on
abbrev pub source_paths : ℕ → ℕ → List Source → List Text
source_paths version number [] = []
source_paths version number (s ∷ sources) = source_path version number ∷ source_paths version (number + 1) sources

-- the paths of a publication's files but its record, in their order: its sources, and then the tiles that it touches
abbrev pub file_paths : List Publication → Publication → List Tile → List Text
file_paths earlier x tiles = source_paths (length earlier + 1) 1 (sources_in x) ++ map (path (length earlier + 1)) tiles

-- each folder once, where it stands first
abbrev pub each_once : List Text → List Text
each_once [] = []
each_once (folder ∷ folders) = folder ∷ filter (λ other. not (bytes_eq other folder)) (each_once folders)

-- the folders in which paths lie directly, each once, in the order of first use
abbrev pub folders_above : List Text → List Text
folders_above paths = each_once (map folder_above paths)

-- how many steps the publication after earlier ones has: its sources, the tiles that it touches, the folders of both,
-- its record and the head
abbrev pub step_count : List Publication → Publication → List Tile → ℕ
step_count earlier x tiles =
    length (sources_in x) + length tiles + length (folders_above (file_paths earlier x tiles)) + 2
