-- Places and cells of the globe (OGC CDB 1.2 Volume 1, tiling).
use Rattle.std.specs.Prelude.{ℕ, ◌+◌, ◌-◌, ◌*◌, ◌/◌, ◌<◌, ◌≤◌}
use Prim.Native.Nat.{◌∣◌}
use Rattle.cdb_grid.specs.Units.{degree, step, width_at}

-- a point of the globe: arc units north of the south pole, and east of the meridian of -180 degrees
pub record Place : Type 0 where
  pub north : ℕ
  pub east : ℕ

-- the width in degrees of the geocells at a place
unfoldable pub width_of : Place → ℕ
width_of p = width_at (p.north / degree)

-- the step of a height in longitude, at a place
abbrev pub step_east : ℕ → Place → ℕ
step_east h p = width_of p * step h

-- a south-west corner of a cell of a height: both coordinates are whole multiples of its steps
pub record IsCorner (h : ℕ) (p : Place) : Type 0 where
  pub on_row : step h ∣ p.north
  pub on_column : step_east h p ∣ p.east
  pub north_within : p.north < 180 * degree
  pub east_within : p.east < 360 * degree

-- the cell of a height at a corner: it has its south and west edges and not its north and east edges
pub record IsInCell (h : ℕ) (c q : Place) : Type 0 where
  pub south : c.north ≤ q.north
  pub north : q.north < c.north + step h
  pub west : c.east ≤ q.east
  pub east : q.east < c.east + step_east h c

-- the corner that stands i steps north and j steps east of a corner
abbrev pub beside : ℕ → Place → ℕ → ℕ → Place
beside h c i j = record { north = c.north + i * step h; east = c.east + j * step_east h c }

-- the centre of the cell at a corner; half a step is the step of the next finer level
abbrev pub centre : ℕ → Place → Place
centre h c = beside (h - 1) c 1 1
