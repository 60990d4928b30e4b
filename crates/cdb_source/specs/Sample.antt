-- What one source has at a place.
use Rattle.std.specs.Prelude.{ℕ, ◌+◌, ◌-◌, ◌*◌, ◌/◌, ◌%◌, ◌≤◌, ◌<◌, ℤ, pos, negsuc, ◌+ℤ◌, ◌*ℤ◌, int_le, Bool, ◌&&◌, nat_eq, nat_lt, nat_le, if◌then◌else◌, Option, Some, None, option_and_then, slice_get}
use Rattle.std.specs.Option.{option_map}
use Rattle.std.specs.Ordering.{int_eq}
use Rattle.std.specs.Int.{int_div_euclid}
use Rattle.cdb_grid.specs.Grid.{Place}
use Rattle.cdb_grid.specs.Tiles.{point_of}
use Rattle.cdb_grid.specs.declared.arc.Arc.{Arc}
use Rattle.cdb_source.specs.declared.kind.Kind.{Kind}
use Rattle.cdb_source.specs.declared.kind.Kind.TheVariants.{Elevation, Material}
use Rattle.cdb_source.specs.declared.head.SourceHead.{SourceHead}
use Rattle.cdb_source.specs.declared.source.Source.{Source}
use Rattle.cdb_source.specs.Head.{magnitude, span}
use Rattle.cdb_source.specs.Posts.{none_of}

-- the south-west corner of a source as a place, and its steps as plain numbers
abbrev pub corner_of : SourceHead → Place
corner_of head = point_of head.lat head.lon

abbrev pub row_step : SourceHead → ℕ
row_step head = magnitude head.dlat.units

abbrev pub column_step : SourceHead → ℕ
column_step head = magnitude head.dlon.units

-- how far the box reaches north and east of its corner
abbrev pub box_height : SourceHead → ℕ
box_height head = span head.kind head.rows (row_step head)

abbrev pub box_width : SourceHead → ℕ
box_width head = span head.kind head.cols (column_step head)

-- not past the far edge of a box, which belongs to a box of elevation and not to one of material
abbrev pub IsBefore : Kind → ℕ → ℕ → Type 0
IsBefore Elevation x edge = x ≤ edge
IsBefore Material x edge = x < edge

abbrev pub is_before : Kind → ℕ → ℕ → Bool
is_before Elevation x edge = nat_le x edge
is_before Material x edge = nat_lt x edge

-- the box of a source
pub record IsInBox (head : SourceHead) (p : Place) : Type 0 where
  pub south : (corner_of head).north ≤ p.north
  pub north : IsBefore head.kind p.north ((corner_of head).north + box_height head)
  pub west : (corner_of head).east ≤ p.east
  pub east : IsBefore head.kind p.east ((corner_of head).east + box_width head)

abbrev pub is_in_box : SourceHead → Place → Bool
is_in_box head p =
    nat_le (corner_of head).north p.north && is_before head.kind p.north ((corner_of head).north + box_height head) &&
    nat_le (corner_of head).east p.east && is_before head.kind p.east ((corner_of head).east + box_width head)

-- a post as a value
abbrev pub value_of : Kind → ℤ → Option ℤ
value_of kind number = if int_eq number (none_of kind) then None else Some number

-- the value of the post at a row from the south and a column from the west; past the last there is none
abbrev pub post_at : Source → ℕ → ℕ → Option ℤ
post_at s row col =
    if nat_lt row s.head.rows && nat_lt col s.head.cols then option_and_then (value_of s.head.kind)
    (slice_get s.posts (row * s.head.cols + col))
    else None

-- a sum with one post more, so many times; a post of weight zero isn't looked at
abbrev pub plus : ℕ → Option ℤ → Option ℤ → Option ℤ
plus weight post sum = if nat_eq weight 0 then sum
    else option_and_then (λ n. option_map (λ v. n +ℤ pos weight *ℤ v) post) sum

-- the sum of the four posts around a point, each as often as its weight says, where up and right are the point's
-- distances to the first row and the first column
unfoldable pub weighted_sum : (ℕ → ℕ → Option ℤ) → ℕ → ℕ → ℕ → ℕ → Option ℤ
weighted_sum post dlat dlon up right =
    let i = up / dlat in let j = right / dlon in let a = up % dlat in let b = right % dlon in
    plus (a * b) (post (i + 1) (j + 1))
    (plus (a * (dlon - b)) (post (i + 1) j)
    (plus ((dlat - a) * b) (post i (j + 1))
    (plus ((dlat - a) * (dlon - b)) (post i j) (Some (pos 0)))))

-- the quotient rounded to the nearest whole number, a half upward: the floor of (2n + d) / (2d)
unfoldable pub rounded : ℕ → ℤ → ℤ
rounded d n = int_div_euclid (pos 2 *ℤ n +ℤ pos d) (pos (2 * d))

-- the weighted mean of the four posts around a place of the box, rounded
abbrev pub mean_at : Source → Place → Option ℤ
mean_at s p =
    option_map (rounded (row_step s.head * column_step s.head))
    (weighted_sum (post_at s) (row_step s.head) (column_step s.head) (p.north - (corner_of s.head).north)
    (p.east - (corner_of s.head).east))

-- the value of the cell that holds a place of the box
abbrev pub covering_at : Source → Place → Option ℤ
covering_at s p = post_at s ((p.north - (corner_of s.head).north) / row_step s.head)
    ((p.east - (corner_of s.head).east) / column_step s.head)

-- what a source has at a place of its box, by its kind: the mean of four posts, or for material the value of the cell
abbrev pub value_in : Kind → Source → Place → Option ℤ
value_in Elevation s p = mean_at s p
value_in Material s p = covering_at s p

-- what a source has at a place
unfoldable pub sample_at : Source → Place → Option ℤ
sample_at s p = if is_in_box s.head p then value_in s.head.kind s p else None

-- a latitude and a longitude that aren't south of the pole or west of -180 degrees
abbrev pub is_on_globe : Arc → Arc → Bool
is_on_globe lat lon = int_le (negsuc 3131031158783999) lat.units && int_le (negsuc 6262062317567999) lon.units

-- what a source has at a latitude and a longitude
abbrev pub sample_of : Source → Arc → Arc → Option ℤ
sample_of s lat lon = if is_on_globe lat lon then sample_at s (point_of lat lon) else None
