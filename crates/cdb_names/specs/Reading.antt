-- Reading a file name from left to right, field by field, up to the first wrong one.
use Rattle.std.specs.Prelude.{◌≡◌, ℕ, ◌-◌, ℤ, pos, negsuc, Bool, true, false, length, codes, Option, Some, None, Result, Ok, Err, ◌==◌, if◌then◌else◌}
use Rattle.std.specs.Ordering.{int_eq}
use Rattle.std.specs.Str.{bytes_eq}
use Rattle.cdb_grid.specs.declared.family.Family.{Family}
use Rattle.cdb_grid.specs.declared.family.Family.TheVariants as family
use Rattle.cdb_grid.specs.declared.tile.Tile.{Tile}
use Rattle.cdb_model.specs.declared.name_error.NameError.{NameError}
use Rattle.cdb_model.specs.Names.{Text}
use Rattle.cdb_names.specs.declared.folder.Folder.{Folder}
use Rattle.cdb_names.specs.declared.folder.DatasetFolder.{DatasetFolder}
use Rattle.cdb_names.specs.declared.folder.DatasetFolder.TheVariants.{Elevation, MinMaxElevation, RmTexture}
use Rattle.cdb_names.specs.declared.folder.LevelFolder.{LevelFolder}
use Rattle.cdb_names.specs.declared.folder.LevelFolder.TheVariants.{BelowZero, At}
use Rattle.cdb_names.specs.Fields.{lat_at, lon_at, family_at, level_at, across, numbered_at}

infixl 10 ◌>>=◌
abbrev pub ◌>>=◌ : {A B : Type 0} → Result A NameError → (A → Result B NameError) → Result B NameError
(Ok x) >>= f = f x
(Err e) >>= f = Err e

-- the error at the place where this rest of a text begins
abbrev pub wrong_at : Text → Text → NameError
wrong_at text rest = record { place = length text - length rest }

-- a field that was read, or the place where it begins
abbrev pub field_or_place : {X : Type 0} → Text → Text → Option X → Result X NameError
field_or_place text rest None = Err (wrong_at text rest)
field_or_place text rest (Some x) = Ok x

-- the folder of a family's dataset, and of a level
abbrev pub dataset_folder_of : Family → DatasetFolder
dataset_folder_of family.Elev = Elevation
dataset_folder_of family.Low = MinMaxElevation
dataset_folder_of family.High = MinMaxElevation
dataset_folder_of family.Mat = RmTexture

abbrev pub level_folder_of : ℤ → LevelFolder
level_folder_of (pos n) = At n
level_folder_of (negsuc n) = BelowZero

abbrev pub same_dataset : DatasetFolder → DatasetFolder → Bool
same_dataset Elevation Elevation = true
same_dataset MinMaxElevation MinMaxElevation = true
same_dataset RmTexture RmTexture = true
same_dataset _ _ = false

abbrev pub same_level : LevelFolder → LevelFolder → Bool
same_level BelowZero BelowZero = true
same_level (At m) (At n) = m == n
same_level _ _ = false

-- what the folder says of a tile in it; without a folder, anything goes
abbrev pub has_lat : Option Folder → ℤ → Bool
has_lat None lat = true
has_lat (Some f) lat = int_eq f.lat lat

abbrev pub has_lon : Option Folder → ℤ → Bool
has_lon None lon = true
has_lon (Some f) lon = int_eq f.lon lon

abbrev pub has_dataset : Option Folder → Family → Bool
has_dataset None family = true
has_dataset (Some f) family = same_dataset f.dataset (dataset_folder_of family)

abbrev pub has_level : Option Folder → ℤ → Bool
has_level None level = true
has_level (Some f) level = same_level f.level (level_folder_of level)

abbrev pub has_up : Option Folder → ℕ → Bool
has_up None up = true
has_up (Some f) up = f.up == up

-- a value that was read, where it passes a test
abbrev pub passing : {X : Type 0} → (X → Bool) → Option (X × Text) → Option (X × Text)
passing test None = None
passing test (Some p) = if test p.0 then Some p else None

-- the fields of a tile in the folder
unfoldable pub lat_in : Option Folder → Text → Option (ℤ × Text)
lat_in folder text = passing (has_lat folder) (lat_at text)

unfoldable pub lon_in : Option Folder → ℤ → Text → Option (ℤ × Text)
lon_in folder lat text = passing (has_lon folder) (lon_at lat text)

unfoldable pub family_in : Option Folder → Text → Option (Family × Text)
family_in folder text = passing (has_dataset folder) (family_at text)

unfoldable pub level_in : Option Folder → Text → Option (ℤ × Text)
level_in folder text = passing (has_level folder) (level_at text)

unfoldable pub up_in : Option Folder → ℕ → Text → Option (ℕ × Text)
up_in folder limit text = passing (has_up folder) (numbered_at (codes "_U") limit text)

-- a tile as the numbers of its name
pub record Spelled : Type 0 where
  pub family : Family
  pub lat : ℤ
  pub lon : ℤ
  pub level : ℤ
  pub up : ℕ
  pub right : ℕ

abbrev pub spelled_tile : Tile → Spelled
spelled_tile t = record {
  family = t.family;
  lat = t.cell.lat;
  lon = t.cell.lon;
  level = t.level.number;
  up = t.up;
  right = t.right;
}

-- the tile in the folder whose file name is this end of a text, or the place of the first wrong field in the text
unfoldable pub name_at : Option Folder → Text → Text → Result Spelled NameError
name_at folder text end = do
  lat ← field_or_place text end (lat_in folder end)
  lon ← field_or_place text lat.1 (lon_in folder lat.0 lat.1)
  family ← field_or_place text lon.1 (family_in folder lon.1)
  level ← field_or_place text family.1 (level_in folder family.1)
  up ← field_or_place text level.1 (up_in folder (across level.0) level.1)
  right ← field_or_place text up.1 (numbered_at (codes "_R") (across level.0) up.1)
  if bytes_eq right.1 (codes ".tif")
      then Ok (record { family = family.0; lat = lat.0; lon = lon.0; level = level.0; up = up.0; right = right.0 })
      else Err (wrong_at text right.1)

-- what was returned is what reading gives, as numbers
abbrev pub IsReadAs : {X Y : Type 0} → (X → Y) → Result X NameError → Result Y NameError → Type 0
IsReadAs view (Ok x) read = read ≡ Ok (view x)
IsReadAs view (Err e) read = read ≡ Err e
