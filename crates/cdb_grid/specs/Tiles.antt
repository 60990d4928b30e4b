-- Tiles as sets of places, and the elements of a tile (OGC CDB 1.2 Volume 1, tiling).
use Rattle.std.specs.Prelude.{◌≡◌, ℕ, ◌+◌, ◌-◌, ◌*◌, ◌<◌, ◌≤◌, pos, negsuc}
use Rattle.cdb_grid.specs.Units.{degree, height_of, step, side_of, row_of, column_of, from_pole, from_west, width_at}
use Rattle.cdb_grid.specs.Grid.{Place, centre}
use Rattle.cdb_grid.specs.declared.arc.Arc.{Arc}
use Rattle.cdb_grid.specs.declared.family.Family.{Family}
use Rattle.cdb_grid.specs.declared.family.Family.TheVariants.{Elev, Low, High, Mat}
use Rattle.cdb_grid.specs.declared.geocell.Geocell.{Geocell}
use Rattle.cdb_grid.specs.declared.tile.Tile.{Tile}

-- the point at a latitude and a longitude of the globe
abbrev pub point_of : Arc → Arc → Place
point_of lat lon = record { north = from_pole lat.units; east = from_west lon.units }

-- the box of a geocell: it has its south and west edges and not its north and east edges
pub record IsInGeocell (g : Geocell) (p : Place) : Type 0 where
  pub south : row_of g.lat * degree ≤ p.north
  pub north : p.north < (row_of g.lat + 1) * degree
  pub west : column_of g.lon * degree ≤ p.east
  pub east : p.east < (column_of g.lon + width_at (row_of g.lat)) * degree

-- the height of a tile's level, and how many elements stand along its side
abbrev pub tile_height : Tile → ℕ
tile_height t = height_of t.level.number

abbrev pub tile_side : Tile → ℕ
tile_side t = side_of (tile_height t)

-- the step of a tile's level in longitude
abbrev pub tile_step_east : Tile → ℕ
tile_step_east t = width_at (row_of t.cell.lat) * step (tile_height t)

-- the south-west corner of the cell at a row and a column of a tile, from the south and from the west
abbrev pub element_corner : Tile → ℕ → ℕ → Place
element_corner t row col = record {
  north = row_of t.cell.lat * degree + (t.up * tile_side t + row) * step (tile_height t);
  east = column_of t.cell.lon * degree + (t.right * tile_side t + col) * tile_step_east t;
}

-- how far north of its cell's corner an element stands: half a step for material
abbrev pub inset : Family → ℕ → ℕ
inset Elev h = 0
inset Low h = 0
inset High h = 0
inset Mat h = step (h - 1)

-- where an element stands: at the corner of its cell, or for material at the centre
abbrev pub place_in : Family → ℕ → Place → Place
place_in Elev h c = c
place_in Low h c = c
place_in High h c = c
place_in Mat h c = centre h c

abbrev pub element_place : Tile → ℕ → ℕ → Place
element_place t row col = place_in t.family (tile_height t) (element_corner t row col)

-- the box of a tile: it has its south and west edges and not its north and east edges
pub record IsInTile (t : Tile) (p : Place) : Type 0 where
  pub south : (element_corner t 0 0).north ≤ p.north
  pub north : p.north < (element_corner t (tile_side t) 0).north
  pub west : (element_corner t 0 0).east ≤ p.east
  pub east : p.east < (element_corner t 0 (tile_side t)).east

-- a place is the corner of exactly one element of a tile
pub record HasOneElement (t : Tile) (p : Place) : Type 0 where
  pub row : ℕ
  pub col : ℕ
  pub row_below : row < tile_side t
  pub col_below : col < tile_side t
  pub at : element_corner t row col ≡ p
  pub only : (r c : ℕ) → r < tile_side t → c < tile_side t → element_corner t r c ≡ p → (r ≡ row) × (c ≡ col)

-- the elevation tile of N00E000 at level -10
pub record IsDefault (t : Tile) : Type 0 where
  pub family : t.family ≡ Elev
  pub lat : t.cell.lat ≡ pos 0
  pub lon : t.cell.lon ≡ pos 0
  pub level : t.level.number ≡ negsuc 9
  pub up : t.up ≡ 0
  pub right : t.right ≡ 0
