-- Units, levels and zones, over plain numbers (OGC CDB 1.2 Volume 1, tiling: zones and levels of detail).
--
-- Geometry is counted in whole arc units from the south pole and from the meridian of -180 degrees, and in whole
-- degrees from the same two. A level l has the height 24 - l: 1 at level 23 and 34 at level -10.
use Rattle.std.specs.Prelude.{◌≡◌, ℕ, suc, ◌+◌, ◌-◌, ◌*◌, ◌%◌, ◌^◌, ℤ, pos, negsuc, ◌*ℤ◌, ◌≤ℤ◌, ◌<ℤ◌, min, nat_lt, if◌then◌else◌}

-- the arc units of one degree, which are 2025 * 2 ^ 34
abbrev pub degree : ℕ
degree = 34789235097600

-- the height of a level: a coarser level is higher
abbrev pub height_of : ℤ → ℕ
height_of (pos l) = 24 - l
height_of (negsuc l) = 25 + l

-- the step of a height in latitude, in arc units
abbrev pub step : ℕ → ℕ
step h = 2025 * 2 ^ h

-- how many tiles of a height stand along one side of a geocell: 1 below level 0, else 2 to the power of the level
abbrev pub tiles_of : ℕ → ℕ
tiles_of h = 2 ^ (24 - h)

-- how many elements stand along one side of a tile of a height: 1,024 from level 0 on, and half as many at each coarser
-- level
abbrev pub side_of : ℕ → ℕ
side_of h = 2 ^ min 10 (34 - h)

-- k more than a signed number that is at least -k
abbrev pub raised : ℕ → ℤ → ℕ
raised k (pos n) = n + k
raised k (negsuc n) = k - suc n

-- whole degrees from the south pole, and from the meridian of -180 degrees
abbrev pub row_of : ℤ → ℕ
row_of lat = raised 90 lat

abbrev pub column_of : ℤ → ℕ
column_of lon = raised 180 lon

-- arc units from the south pole, and from the meridian of -180 degrees
abbrev pub from_pole : ℤ → ℕ
from_pole lat = raised (90 * degree) lat

abbrev pub from_west : ℤ → ℕ
from_west lon = raised (180 * degree) lon

-- the width in degrees of the geocells whose south edge is so many degrees from the south pole
unfoldable pub width_at : ℕ → ℕ
width_at y =
    if nat_lt y 1 then 12 else
    if nat_lt y 10 then 6 else
    if nat_lt y 15 then 4 else
    if nat_lt y 20 then 3 else
    if nat_lt y 40 then 2 else
    if nat_lt y 140 then 1 else
    if nat_lt y 160 then 2 else
    if nat_lt y 165 then 3 else
    if nat_lt y 170 then 4 else
    if nat_lt y 179 then 6 else 12

-- whole degrees of the south-west corner of a geocell: on the globe, and a whole multiple of its zone's width from the
-- meridian of -180 degrees
pub record IsGeocell (lat lon : ℤ) : Type 0 where
  pub south : negsuc 89 ≤ℤ lat
  pub north : lat ≤ℤ pos 89
  pub west : negsuc 179 ≤ℤ lon
  pub east : lon ≤ℤ pos 179
  pub on_grid : column_of lon % width_at (row_of lat) ≡ 0

-- so many units are n/d degrees, d is above 0, and they are at most 360 degrees to either side
pub record IsFraction (n d units : ℤ) : Type 0 where
  pub positive : pos 0 <ℤ d
  pub value : units *ℤ d ≡ n *ℤ pos degree
  pub least : negsuc (360 * degree - 1) ≤ℤ units
  pub most : units ≤ℤ pos (360 * degree)

-- a latitude and a longitude, in units, from -90 to below 90 and from -180 to below 180 degrees
pub record IsOnGlobe (lat lon : ℤ) : Type 0 where
  pub south : negsuc (90 * degree - 1) ≤ℤ lat
  pub north : lat <ℤ pos (90 * degree)
  pub west : negsuc (180 * degree - 1) ≤ℤ lon
  pub east : lon <ℤ pos (180 * degree)
