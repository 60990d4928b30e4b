-- Names and paths of tiles, as texts put together from their fields (OGC CDB 1.2 Volume 1, tile naming).
use Rattle.std.specs.Prelude.{◌≡◌, ℕ, suc, ◌+◌, ◌/◌, ◌%◌, ◌≤◌, ℤ, pos, negsuc, Bool, true, false, not, List, [], ◌∷◌, ◌++◌, length, take, drop, codes, IsTrue, ◌==◌}
use Rattle.std.specs.Char.{is_ascii_digit}
use Rattle.std.specs.Fmt.{decimal}
use Rattle.cdb_grid.specs.declared.family.Family.{Family}
use Rattle.cdb_grid.specs.declared.family.Family.TheVariants.{Elev, Low, High, Mat}
use Rattle.cdb_grid.specs.declared.tile.Tile.{Tile}
pub use Rattle.cdb_model.specs.Text.{Text}
use Rattle.cdb_model.specs.declared.limits.TheConstants.{MOST_VERSIONS}

-- a number below 100 in two digits, one below 1,000 in three, one below 10,000 in four, and one below 100,000,000 in
-- eight
abbrev pub two : ℕ → Text
two n = (48 + n / 10) ∷ (48 + n % 10) ∷ []

abbrev pub three : ℕ → Text
three n = (48 + n / 100) ∷ two (n % 100)

abbrev pub four : ℕ → Text
four n = two (n / 100) ++ two (n % 100)

abbrev pub eight : ℕ → Text
eight n = four (n / 10000) ++ four (n % 10000)

-- the south edge of a geocell: N and its degrees from the equator on, S and its degrees below it
abbrev pub lat_text : ℤ → Text
lat_text (pos n) = 78 ∷ two n
lat_text (negsuc n) = 83 ∷ two (n + 1)

-- the west edge of a geocell: E and its degrees from the meridian of Greenwich on, W and its degrees before it
abbrev pub lon_text : ℤ → Text
lon_text (pos n) = 69 ∷ three n
lon_text (negsuc n) = 87 ∷ three (n + 1)

-- the numbers of a family's dataset and of its components
abbrev pub dataset_text : Family → Text
dataset_text Elev = codes "_D001_S001_T001"
dataset_text Low = codes "_D002_S001_T001"
dataset_text High = codes "_D002_S001_T002"
dataset_text Mat = codes "_D005_S001_T001"

-- a level from 0 on behind L, and one below it behind LC
abbrev pub level_text : ℤ → Text
level_text (pos n) = 95 ∷ 76 ∷ two n
level_text (negsuc n) = 95 ∷ 76 ∷ 67 ∷ two (n + 1)

-- the row and the column of a tile, without leading zeros
abbrev pub up_text : ℕ → Text
up_text n = 95 ∷ 85 ∷ decimal n

abbrev pub right_text : ℕ → Text
right_text n = 95 ∷ 82 ∷ decimal n

-- the fields of a tile's file name, in their order
abbrev pub name_fields : Tile → List Text
name_fields t =
    lat_text t.cell.lat ∷ lon_text t.cell.lon ∷ dataset_text t.family ∷ level_text t.level.number ∷ up_text t.up ∷
    right_text t.right ∷ codes ".tif" ∷ []

-- these fields, and then this rest
abbrev pub spell : List Text → Text → Text
spell [] rest = rest
spell (field ∷ fields) rest = field ++ spell fields rest

-- the file name of a tile
abbrev pub name : Tile → Text
name t = spell (name_fields t) []

-- the text begins with a digit
abbrev pub begins_with_digit : Text → Bool
begins_with_digit [] = false
begins_with_digit (c ∷ rest) = is_ascii_digit c

-- what may follow the fields so far, by the fields that are left: nothing after the tail, and no digit after a number
abbrev pub may_follow : List Text → Text → Bool
may_follow [] rest = length rest == 0
may_follow (tail ∷ []) rest = not (begins_with_digit rest)
may_follow (right ∷ tail ∷ []) rest = not (begins_with_digit rest)
may_follow (f ∷ g ∷ h ∷ fields) rest = true

-- the text begins with so many of these fields, and this rest may follow them
pub record BeginsWith (fields : List Text) (text : Text) (count : ℕ) (rest : Text) : Type 0 where
  pub parts : text ≡ spell (take count fields) rest
  pub follows : IsTrue (may_follow (drop count fields) rest)

-- the text begins with some fields of a value, which this rest follows, and with one more field of no value
pub record StopsBefore {X : Type 0} (fields : X → List Text) (text rest : Text) : Type 0 where
  pub value : X
  pub count : ℕ
  pub begins : BeginsWith (fields value) text count rest
  pub no_more : (other : X) (after : Text) → BeginsWith (fields other) text (suc count) after → ⊥

-- the first wrong field of a text begins at this place
pub record FirstWrong {X : Type 0} (fields : X → List Text) (text : Text) (place : ℕ) : Type 0 where
  pub rest : Text
  pub stops : StopsBefore fields text rest
  pub place_is : place + length rest ≡ length text

-- the folder of a version
abbrev pub version_folder : ℕ → Text
version_folder version = 86 ∷ eight version

-- the folder of a family's dataset, and of a level
abbrev pub dataset_folder : Family → Text
dataset_folder Elev = codes "001_Elevation"
dataset_folder Low = codes "002_MinMaxElevation"
dataset_folder High = codes "002_MinMaxElevation"
dataset_folder Mat = codes "005_RMTexture"

abbrev pub level_folder : ℤ → Text
level_folder (pos n) = 76 ∷ two n
level_folder (negsuc n) = codes "LC"

-- the folders above a tile's file, from that of the version on
abbrev pub folders : ℕ → Tile → List Text
folders version t =
    version_folder version ∷ codes "Tiles" ∷ lat_text t.cell.lat ∷ lon_text t.cell.lon ∷ dataset_folder t.family ∷
    level_folder t.level.number ∷ (85 ∷ decimal t.up) ∷ []

-- each of these texts with a slash after it, and then these
abbrev pub with_slashes : List Text → List Text → List Text
with_slashes [] others = others
with_slashes (part ∷ parts) others = (part ++ 47 ∷ []) ∷ with_slashes parts others

-- these texts with a slash between each two
abbrev pub joined : List Text → Text
joined [] = []
joined (part ∷ []) = part
joined (part ∷ next ∷ parts) = part ++ 47 ∷ joined (next ∷ parts)

-- a version from 1 to 4,096, and a tile
pub record VersionTile : Type 0 where
  pub version : ℕ
  pub tile : Tile
  pub from_one : 1 ≤ version
  pub to_last : version ≤ MOST_VERSIONS

-- the fields of a path: the folders, each with its slash, and the fields of the file name
abbrev pub fields_of_path : ℕ → Tile → List Text
fields_of_path version t = with_slashes (folders version t) (name_fields t)

abbrev pub path_fields : VersionTile → List Text
path_fields p = fields_of_path p.version p.tile

-- the path of a version's tile
abbrev pub path : ℕ → Tile → Text
path version t = spell (fields_of_path version t) []

-- the folder of a version's tile: its path without the file name
abbrev pub tile_folder : ℕ → Tile → Text
tile_folder version t = joined (folders version t)

-- the other folders and files of a version
abbrev pub sources_folder : ℕ → Text
sources_folder version = version_folder version ++ codes "/Sources"

abbrev pub source_path : ℕ → ℕ → Text
source_path version number = sources_folder version ++ codes "/S" ++ four number

abbrev pub metadata_folder : ℕ → Text
metadata_folder version = version_folder version ++ codes "/Metadata"

abbrev pub record_path : ℕ → Text
record_path version = metadata_folder version ++ codes "/record"

-- the two heads: the file that names the newest version, and the one that is to take its place
abbrev pub head_path : Text
head_path = codes "HEAD"

abbrev pub new_head_path : Text
new_head_path = codes "HEAD.tmp"

-- the path stands under the folder
abbrev pub IsUnder : Text → Text → Type 0
IsUnder folder path = (rest : Text) × (path ≡ folder ++ 47 ∷ rest)
