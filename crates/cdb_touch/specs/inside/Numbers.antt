-- The tiles of a height, numbered in rows from the south pole and in columns from the meridian of -180 degrees.
use Rattle.std.specs.Prelude.{◌≡◌, ℕ, ◌+◌, ◌*◌, ◌/◌, ◌<◌, ◌≤◌}
use Rattle.cdb_grid.specs.Units.{tiles_of, width_at, row_of, column_of}
use Rattle.cdb_grid.specs.Tiles.{tile_height}
use Rattle.cdb_grid.specs.declared.family.Family.{Family}
use Rattle.cdb_grid.specs.declared.tile.Tile.{Tile}
use Rattle.cdb_touch.specs.declared.axis.Run.{Run}

-- the width in degrees of a tile's geocell
abbrev pub tile_width : Tile → ℕ
tile_width t = width_at (row_of t.cell.lat)

-- the number of a tile's row among all rows of its height
abbrev pub row_number : Tile → ℕ
row_number t = row_of t.cell.lat * tiles_of (tile_height t) + t.up

-- the number of a tile's column among all columns of its height in its row of geocells
abbrev pub column_number : Tile → ℕ
column_number t = column_of t.cell.lon / tile_width t * tiles_of (tile_height t) + t.right

-- a tile of a family and a height, by its numbers
pub record IsNumbered (family : Family) (height row column : ℕ) (t : Tile) : Type 0 where
  pub family_is : t.family ≡ family
  pub height_is : tile_height t ≡ height
  pub row_is : row_number t ≡ row
  pub column_is : column_number t ≡ column

-- a tile of a family and a height, in a rectangle of rows and columns
pub record IsInRectangle (family : Family) (height : ℕ) (rows columns : Run) (t : Tile) : Type 0 where
  pub family_is : t.family ≡ family
  pub height_is : tile_height t ≡ height
  pub row_from : rows.first ≤ row_number t
  pub row_below : row_number t < rows.end
  pub column_from : columns.first ≤ column_number t
  pub column_below : column_number t < columns.end

-- a tile of a family and a height, in one row and a run of columns
pub record IsInRow (family : Family) (height row : ℕ) (columns : Run) (t : Tile) : Type 0 where
  pub family_is : t.family ≡ family
  pub height_is : tile_height t ≡ height
  pub row_is : row_number t ≡ row
  pub column_from : columns.first ≤ column_number t
  pub column_below : column_number t < columns.end
