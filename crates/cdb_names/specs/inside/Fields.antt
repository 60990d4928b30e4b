-- Inside the crate: the fields of names and paths, each read from the front of a text: its value, and the rest of the
-- text.
use Rattle.std.specs.Prelude.{ℕ, ◌+◌, ◌-◌, ◌*◌, ℤ, negsuc, ◌&&◌, drop, codes, Option, Some, None, option_map, option_and_then, nat_eq, nat_lt, nat_le, if◌then◌else◌}
use Rattle.std.specs.List.{starts_with}
use Rattle.cdb_model.specs.Names.{Text}
use Rattle.cdb_names.specs.declared.folder.DatasetFolder.{DatasetFolder}
use Rattle.cdb_names.specs.declared.folder.DatasetFolder.TheVariants.{Elevation, MinMaxElevation, RmTexture}
use Rattle.cdb_names.specs.Fields.{after, fine_of, lat_at, lon_at, numbered_at, two_at}
use Rattle.cdb_model.specs.Words.{◌>>=◌}
use Rattle.cdb_model.specs.declared.limits.TheConstants.{MOST_VERSIONS}

-- a field with a slash after it
abbrev pub slashed : {X : Type 0} → Option (X × Text) → Option (X × Text)
slashed read = option_and_then (λ p. option_map (λ rest. (p.0, rest)) (after (codes "/") p.1)) read

unfoldable pub four_at : Text → Option (ℕ × Text)
four_at text = do
  high ← two_at text
  low ← two_at high.1
  Some (high.0 * 100 + low.0, low.1)

-- a version from 1 to 4,096, in eight digits
abbrev pub version_of : ℕ → ℕ → Option ℕ
version_of high low = if nat_lt 0 (high * 10000 + low) && nat_le (high * 10000 + low) MOST_VERSIONS
    then Some (high * 10000 + low) else None

unfoldable pub version_at : Text → Option (ℕ × Text)
version_at text = do
  rest ← after (codes "V") text
  high ← four_at rest
  low ← four_at high.1
  version ← version_of high.0 low.0
  Some (version, low.1)

unfoldable pub version_folder_at : Text → Option (ℕ × Text)
version_folder_at text = slashed (version_at text)

unfoldable pub lat_folder_at : Text → Option (ℤ × Text)
lat_folder_at text = slashed (lat_at text)

unfoldable pub lon_folder_at : ℤ → Text → Option (ℤ × Text)
lon_folder_at lat text = slashed (lon_at lat text)

unfoldable pub dataset_folder_at : Text → Option (DatasetFolder × Text)
dataset_folder_at text =
    if starts_with nat_eq text (codes "001_Elevation/") then Some (Elevation, drop 14 text) else
    if starts_with nat_eq text (codes "002_MinMaxElevation/") then Some (MinMaxElevation, drop 20 text) else
    if starts_with nat_eq text (codes "005_RMTexture/") then Some (RmTexture, drop 14 text) else None

-- the folder of a level from 0 on
unfoldable pub fine_folder_at : Text → Option (ℤ × Text)
fine_folder_at text = do
  rest ← after (codes "L") text
  n ← two_at rest
  level ← fine_of n.0
  Some (level, n.1)

-- a level of the folder: -1 stands for all below 0
unfoldable pub level_folder_at : Text → Option (ℤ × Text)
level_folder_at text = if starts_with nat_eq text (codes "LC/") then Some (negsuc 0, drop 3 text)
    else slashed (fine_folder_at text)

unfoldable pub up_folder_at : ℕ → Text → Option (ℕ × Text)
up_folder_at limit text = slashed (numbered_at (codes "U") limit text)
