-- Inside the crate: reading a file name from left to right, field by field, up to the first wrong one.
use Rattle.std.specs.Prelude.{ℕ, ◌-◌, codes, Some, Result, Ok}
use Rattle.cdb_grid.specs.declared.family.Family.TheVariants as family
use Rattle.cdb_model.specs.declared.name_error.NameError.{NameError}
use Rattle.cdb_model.specs.Names.{Text}
use Rattle.cdb_names.specs.declared.folder.Folder.{Folder}
use Rattle.cdb_names.specs.Fields.{after, across}
use Rattle.cdb_names.specs.inside.Fields.{version_folder_at, lat_folder_at, lon_folder_at, dataset_folder_at, level_folder_at, up_folder_at}
use Rattle.cdb_names.specs.Reading.{Spelled, field_or_place, level_folder_of, name_at, ◌>>=◌}

-- the version, what the folders say of the tile, and the file name, or the place of the first wrong folder
unfoldable pub folders_at : Text → Result (ℕ × Folder × Text) NameError
folders_at text = do
  version ← field_or_place text text (version_folder_at text)
  tiles ← field_or_place text version.1 (after (codes "Tiles/") version.1)
  lat ← field_or_place text tiles (lat_folder_at tiles)
  lon ← field_or_place text lat.1 (lon_folder_at lat.0 lat.1)
  dataset ← field_or_place text lon.1 (dataset_folder_at lon.1)
  level ← field_or_place text dataset.1 (level_folder_at dataset.1)
  up ← field_or_place text level.1 (up_folder_at (across level.0) level.1)
  Ok (
    version.0,
    record { lat = lat.0; lon = lon.0; dataset = dataset.0; level = level_folder_of level.0; up = up.0 },
    up.1,
  )

-- the version and the tile whose path the text is, or the place of the first wrong field
unfoldable pub path_at : Text → Result (ℕ × Spelled) NameError
path_at text = do
  above ← folders_at text
  tile ← name_at (Some above.1) text above.2
  Ok (above.0, tile)
