-- The length of a tile's file.
use Rattle.std.specs.Prelude.{◌≡◌, ℕ, ◌+◌, ◌*◌, ◌≤◌, List, length}
use Rattle.cdb_grid.specs.Tiles.{tile_side}
use Rattle.cdb_grid.specs.declared.family.Family.TheVariants.{Mat}
use Rattle.cdb_grid.specs.declared.tile.Tile.{Tile}
use Rattle.cdb_source.specs.Reached.{kind_of}
use Rattle.cdb_source.specs.declared.kind.Kind.TheVariants.{Elevation}
use Rattle.cdb_source.specs.declared.source.Source.{Source}
use Rattle.cdb_model.specs.TileFile.{tile_bytes}
use Rattle.cdb_tiff_write.specs.Rasters.{tile_size}
use Rattle.cdb_model.specs.declared.limits.TheConstants.{MOST_TILE_BYTES, TILE_HEAD_BYTES}

-- it follows from the tile alone: two bytes for each elevation and one for each material after a head of 186 bytes, and
-- 2,097,338 bytes at most
pub record TilesAreSized : Type 0 where
  pub length_is : (ss : List Source) (t : Tile) → length (tile_bytes ss t) ≡ tile_size t
  pub elevations : (t : Tile) → kind_of t.family ≡ Elevation
      → tile_size t ≡ TILE_HEAD_BYTES + 2 * tile_side t * tile_side t
  pub materials : (t : Tile) → t.family ≡ Mat → tile_size t ≡ TILE_HEAD_BYTES + tile_side t * tile_side t
  pub most : (t : Tile) → tile_size t ≤ MOST_TILE_BYTES
