-- The head of a source: its steps, its rows and columns, and its box on the globe.
use Rattle.std.specs.Prelude.{ℕ, ◌+◌, ◌-◌, ◌*◌, ◌≤◌, ℤ, negsuc, ◌≤ℤ◌}
use Rattle.cdb_grid.specs.Units.{degree, raised, from_pole, from_west}
use Rattle.cdb_source.specs.declared.kind.Kind.{Kind}
use Rattle.cdb_source.specs.declared.kind.Kind.TheVariants.{Elevation, Material}

-- a step as a plain number of arc units, 0 for a negative one
abbrev pub magnitude : ℤ → ℕ
magnitude units = raised 0 units

-- how far so many rows or columns reach: from the first post to the last, or over all cells
abbrev pub span : Kind → ℕ → ℕ → ℕ
span Elevation count size = (count - 1) * size
span Material count size = count * size

-- a step is from 1 unit to 12 degrees
pub record IsStep (units : ℤ) : Type 0 where
  pub least : 1 ≤ magnitude units
  pub greatest : magnitude units ≤ 12 * degree

-- 1 to 65,536 rows and columns, and at most 16,777,216 posts
pub record IsRaster (rows cols : ℕ) : Type 0 where
  pub rows_least : 1 ≤ rows
  pub rows_most : rows ≤ 65536
  pub cols_least : 1 ≤ cols
  pub cols_most : cols ≤ 65536
  pub posts_most : rows * cols ≤ 16777216

-- the rows lie between -90 and 90 degrees, ends included
pub record IsLatitude (kind : Kind) (lat dlat : ℤ) (rows : ℕ) : Type 0 where
  pub south : negsuc 3131031158783999 ≤ℤ lat
  pub north : from_pole lat + span kind rows (magnitude dlat) ≤ 180 * degree

-- the columns lie between -180 and 180 degrees, ends included
pub record IsLongitude (kind : Kind) (lon dlon : ℤ) (cols : ℕ) : Type 0 where
  pub west : negsuc 6262062317567999 ≤ℤ lon
  pub east : from_west lon + span kind cols (magnitude dlon) ≤ 360 * degree

-- what the fields of a head must be
pub record IsHead (kind : Kind) (lat lon dlat dlon : ℤ) (rows cols : ℕ) : Type 0 where
  pub row_step : IsStep dlat
  pub column_step : IsStep dlon
  pub raster : IsRaster rows cols
  pub latitude : IsLatitude kind lat dlat rows
  pub longitude : IsLongitude kind lon dlon cols
