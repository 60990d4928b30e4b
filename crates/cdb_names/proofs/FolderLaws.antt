-- Tiles that may stand in a folder, and one of them with a field changed.
use Rattle.std.proofs.Common.{◌≡◌, ℕ, ◌+◌, ◌-◌, ◌<◌, ◌^◌, true, Option, Some, None, refl, ap, subst, arith, ℤ, pos, negsuc}
use Rattle.std.specs.Cmp.{signed_Decides}
use Rattle.std.proofs.lemmas.Bool.{eqb-true, eq-eqb}
use Rattle.std.proofs.lemmas.Int.{ints}
use Rattle.std.proofs.lemmas.Nat.{pow_pos}
use Rattle.std.proofs.Math.Nat.{zero-mod}
use Rattle.cdb_grid.specs.Units.{width_at, row_of, height_of}
use Rattle.cdb_grid.specs.declared.family.Family.{Family}
use Rattle.cdb_grid.specs.declared.family.Family.TheVariants.{Elev, Low, Mat}
use Rattle.cdb_grid.specs.declared.tile.Tile.{Tile}
use Rattle.cdb_names.specs.declared.folder.Folder.{Folder}
use Rattle.cdb_names.specs.declared.folder.DatasetFolder.{DatasetFolder}
use Rattle.cdb_names.specs.declared.folder.DatasetFolder.TheVariants.{Elevation, MinMaxElevation, RmTexture}
use Rattle.cdb_names.specs.declared.folder.LevelFolder.{LevelFolder}
use Rattle.cdb_names.specs.declared.folder.LevelFolder.TheVariants.{BelowZero, At}
use Rattle.cdb_names.specs.Fields.{across}
use Rattle.cdb_names.specs.Reading.{has_lat, has_lon, has_dataset, has_level, has_up, same_dataset, same_level, dataset_folder_of, level_folder_of}
use Rattle.cdb_names.proofs.FieldLaws.{IsLat, IsLon, IsLevel}

-- a tile that may stand in the folder
pub record InFolder (folder : Option Folder) : Type 0 where
  pub tile : Tile
  pub lat : has_lat folder tile.cell.lat ≡ true
  pub lon : has_lon folder tile.cell.lon ≡ true
  pub dataset : has_dataset folder tile.family ≡ true
  pub level : has_level folder tile.level.number ≡ true
  pub up : has_up folder tile.up ≡ true

-- some level and some family of a folder
abbrev pub some_level : LevelFolder → ℤ
some_level BelowZero = negsuc 0
some_level (At n) = pos n

abbrev pub some_family : DatasetFolder → Family
some_family Elevation = Elev
some_family MinMaxElevation = Low
some_family RmTexture = Mat

-- a folder that has a tile
pub record IsFolder (f : Folder) : Type 0 where
  pub lat : IsLat f.lat
  pub lon : IsLon f.lat f.lon
  pub level : IsLevel (some_level f.level)
  pub up : f.up < across (some_level f.level)

abbrev pub IsSound : Option Folder → Type 0
IsSound None = Unit {0}
IsSound (Some f) = IsFolder f

pub across_pos : (l : ℤ) → 0 < across l
across_pos l = pow_pos (24 - height_of l)

pub across_coarse : (n : ℕ) → across (negsuc n) ≡ 1
across_coarse n = let e : 24 - (25 + n) ≡ 0 = omega arith in ap (λ (k : ℕ). 2 ^ k) e

-- the latitude of the folder
abbrev pub lat_for : Option Folder → ℤ
lat_for None = pos 0
lat_for (Some f) = f.lat

pub lat_for_is : (folder : Option Folder) → IsSound folder → IsLat (lat_for folder)
    × (has_lat folder (lat_for folder) ≡ true)
lat_for_is None sound = ((omega (arith, ints), omega (arith, ints)), refl)
lat_for_is (Some f) sound = (sound.lat, (signed_Decides f.lat f.lat).1 refl)

-- a longitude of the folder
abbrev pub lon_for : Option Folder → ℤ
lon_for None = negsuc 179
lon_for (Some f) = f.lon

pub lon_for_is : (folder : Option Folder) → IsSound folder → (l : ℤ) → has_lat folder l ≡ true
    → IsLon l (lon_for folder) × (has_lon folder (lon_for folder) ≡ true)
lon_for_is None sound l h = ((omega (arith, ints), omega (arith, ints), zero-mod (width_at (row_of l))), refl)
lon_for_is (Some f) sound l h =
    let same : f.lat ≡ l = (signed_Decides f.lat l).0 h in
    (subst (λ z. IsLon z f.lon) same sound.lon, (signed_Decides f.lon f.lon).1 refl)

-- a family of the folder
abbrev pub family_for : Option Folder → Family
family_for None = Elev
family_for (Some f) = some_family f.dataset

pub family_for_is : (folder : Option Folder) → has_dataset folder (family_for folder) ≡ true
family_for_is None = refl
family_for_is (Some f) = by f.dataset
  where
    by : (d : DatasetFolder) → same_dataset d (dataset_folder_of (some_family d)) ≡ true
    by Elevation = refl
    by MinMaxElevation = refl
    by RmTexture = refl

-- a level of the folder
abbrev pub level_for : Option Folder → ℤ
level_for None = pos 0
level_for (Some f) = some_level f.level

pub level_for_is : (folder : Option Folder) → IsSound folder → IsLevel (level_for folder)
    × (has_level folder (level_for folder) ≡ true)
level_for_is None sound = ((omega (arith, ints), omega (arith, ints)), refl)
level_for_is (Some f) sound = (sound.level, by f.level)
  where
    by : (d : LevelFolder) → same_level d (level_folder_of (some_level d)) ≡ true
    by BelowZero = refl
    by (At n) = eq-eqb n n refl

-- the row of the folder, at each of its levels
abbrev pub up_for : Option Folder → ℕ
up_for None = 0
up_for (Some f) = f.up

pub up_for_is : (folder : Option Folder) → IsSound folder → (l : ℤ) → has_level folder l ≡ true
    → (up_for folder < across l) × (has_up folder (up_for folder) ≡ true)
up_for_is None sound l h = (across_pos l, refl)
up_for_is (Some f) sound l h = (by f.level l h sound.up, eq-eqb f.up f.up refl)
  where
    by : (d : LevelFolder) (l : ℤ) → same_level d (level_folder_of l) ≡ true → f.up < across (some_level d)
        → f.up < across l
    by BelowZero (pos n) h up = absurd cc
    by BelowZero (negsuc n) h up = omega (arith, across_coarse n, across_coarse 0, up)
    by (At m) (pos n) h up = let e : m ≡ n = eqb-true m n h in subst (λ (k : ℕ). f.up < across (pos k)) e up
    by (At m) (negsuc n) h up = absurd cc

-- some tile of the folder
unfoldable pub some_tile : (folder : Option Folder) → IsSound folder → InFolder folder
some_tile folder sound =
    let lat = lat_for_is folder sound in
    let lon = lon_for_is folder sound (lat_for folder) lat.1 in
    let level = level_for_is folder sound in
    let up = up_for_is folder sound (level_for folder) level.1 in
    record {
      tile = record {
        family = family_for folder;
        cell = record {
          lat = lat_for folder;
          lon = lon_for folder;
          south = lat.0.0;
          north = lat.0.1;
          west = lon.0.0;
          east = lon.0.1;
          on_grid = lon.0.2;
        };
        level = record { number = level_for folder; coarsest = level.0.0; finest = level.0.1 };
        up = up_for folder;
        right = 0;
        up_in_range = up.0;
        right_in_range = across_pos (level_for folder);
      };
      lat = lat.1;
      lon = lon.1;
      dataset = family_for_is folder;
      level = level.1;
      up = up.1;
    }

-- a tile of the folder with another latitude, and some longitude of it
unfoldable pub with_lat : (folder : Option Folder) → IsSound folder → InFolder folder → (l : ℤ) → IsLat l
    → has_lat folder l ≡ true → InFolder folder
with_lat folder sound x l is has =
    let lon = lon_for_is folder sound l has in
    record {
      tile = record {
        family = x.tile.family;
        cell = record {
          lat = l;
          lon = lon_for folder;
          south = is.0;
          north = is.1;
          west = lon.0.0;
          east = lon.0.1;
          on_grid = lon.0.2;
        };
        level = x.tile.level;
        up = x.tile.up;
        right = x.tile.right;
        up_in_range = x.tile.up_in_range;
        right_in_range = x.tile.right_in_range;
      };
      lat = has;
      lon = lon.1;
      dataset = x.dataset;
      level = x.level;
      up = x.up;
    }

unfoldable pub with_lon : (folder : Option Folder) → (x : InFolder folder) → (l : ℤ) → IsLon x.tile.cell.lat l
    → has_lon folder l ≡ true → InFolder folder
with_lon folder x l is has = record {
  tile = record {
    family = x.tile.family;
    cell = record {
      lat = x.tile.cell.lat;
      lon = l;
      south = x.tile.cell.south;
      north = x.tile.cell.north;
      west = is.0;
      east = is.1;
      on_grid = is.2;
    };
    level = x.tile.level;
    up = x.tile.up;
    right = x.tile.right;
    up_in_range = x.tile.up_in_range;
    right_in_range = x.tile.right_in_range;
  };
  lat = x.lat;
  lon = has;
  dataset = x.dataset;
  level = x.level;
  up = x.up;
}

unfoldable pub with_family : (folder : Option Folder) → InFolder folder → (f : Family) → has_dataset folder f ≡ true
    → InFolder folder
with_family folder x f has = record {
  tile = record {
    family = f;
    cell = x.tile.cell;
    level = x.tile.level;
    up = x.tile.up;
    right = x.tile.right;
    up_in_range = x.tile.up_in_range;
    right_in_range = x.tile.right_in_range;
  };
  lat = x.lat;
  lon = x.lon;
  dataset = has;
  level = x.level;
  up = x.up;
}

-- a tile of the folder with another level, and some row and column of it
unfoldable pub with_level : (folder : Option Folder) → IsSound folder → InFolder folder → (l : ℤ) → IsLevel l
    → has_level folder l ≡ true → InFolder folder
with_level folder sound x l is has =
    let up = up_for_is folder sound l has in
    record {
      tile = record {
        family = x.tile.family;
        cell = x.tile.cell;
        level = record { number = l; coarsest = is.0; finest = is.1 };
        up = up_for folder;
        right = 0;
        up_in_range = up.0;
        right_in_range = across_pos l;
      };
      lat = x.lat;
      lon = x.lon;
      dataset = x.dataset;
      level = has;
      up = up.1;
    }

unfoldable pub with_up : (folder : Option Folder) → (x : InFolder folder) → (n : ℕ) → n < across x.tile.level.number
    → has_up folder n ≡ true → InFolder folder
with_up folder x n small has = record {
  tile = record {
    family = x.tile.family;
    cell = x.tile.cell;
    level = x.tile.level;
    up = n;
    right = x.tile.right;
    up_in_range = small;
    right_in_range = x.tile.right_in_range;
  };
  lat = x.lat;
  lon = x.lon;
  dataset = x.dataset;
  level = x.level;
  up = has;
}

unfoldable pub with_right : (folder : Option Folder) → (x : InFolder folder) → (n : ℕ) → n < across x.tile.level.number
    → InFolder folder
with_right folder x n small = record {
  tile = record {
    family = x.tile.family;
    cell = x.tile.cell;
    level = x.tile.level;
    up = x.tile.up;
    right = n;
    up_in_range = x.tile.up_in_range;
    right_in_range = small;
  };
  lat = x.lat;
  lon = x.lon;
  dataset = x.dataset;
  level = x.level;
  up = x.up;
}
