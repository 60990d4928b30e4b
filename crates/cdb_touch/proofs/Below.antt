-- The tiles that a source reaches, up to a height or up to a row of geocells: what a loop has gone through.
use Rattle.std.specs.Prelude.{◌≡◌, ℕ, ◌<◌}
use Rattle.cdb_grid.specs.Units.{row_of}
use Rattle.cdb_grid.specs.Tiles.{tile_height}
use Rattle.cdb_grid.specs.declared.family.Family.{Family}
use Rattle.cdb_grid.specs.declared.tile.Tile.{Tile}
use Rattle.cdb_source.specs.declared.head.SourceHead.{SourceHead}
use Rattle.cdb_source.specs.Reached.{Reaches}

-- a tile of a family, below a height
pub record IsBelowHeight (head : SourceHead) (family : Family) (height : ℕ) (t : Tile) : Type 0 where
  pub reaches : Reaches head t
  pub family_is : t.family ≡ family
  pub height_below : tile_height t < height

-- one of a height south of a row of geocells, which counts from the south pole
pub record IsBelowRow (head : SourceHead) (family : Family) (height row : ℕ) (t : Tile) : Type 0 where
  pub reaches : Reaches head t
  pub family_is : t.family ≡ family
  pub height_is : tile_height t ≡ height
  pub row_below : row_of t.cell.lat < row
