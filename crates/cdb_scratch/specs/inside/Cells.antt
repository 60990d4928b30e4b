-- Cells of which a source has a place.
use Rattle.std.specs.Prelude.{◌≡◌, ℕ, ◌+◌, ◌-◌, ◌≤◌, ◌<◌, List, slice_get, Some}
use Prim.Native.Nat.{◌∣◌}
use Rattle.cdb_grid.specs.Units.{step}
use Rattle.cdb_grid.specs.Grid.{Place, IsCorner, IsInCell, centre}
use Rattle.cdb_source.specs.declared.kind.Kind.{Kind}
use Rattle.cdb_source.specs.declared.kind.Kind.TheVariants.{Elevation, Material}
use Rattle.cdb_source.specs.declared.head.SourceHead.{SourceHead}
use Rattle.cdb_source.specs.declared.source.Source.{Source}
use Rattle.cdb_source.specs.Sample.{IsInBox, IsBefore}
use Rattle.cdb_source.specs.Reached.{source_height}

-- a multiple of a step lies from a number on and below another
pub record HasMultiple (step low high : ℕ) : Type 0 where
  pub at : ℕ
  pub multiple : step ∣ at
  pub from : low ≤ at
  pub below : at < high

-- where a source of a kind has the place of a cell: at its corner, or for material at its centre
abbrev pub place_of : Kind → ℕ → Place → Place
place_of Elevation h c = c
place_of Material h c = centre h c

-- how far north of the corner that is
abbrev pub inset_at : Kind → ℕ → ℕ
inset_at Elevation h = 0
inset_at Material h = step (h - 1)

-- one past the greatest number that isn't past the far edge of a box
abbrev pub past_edge : Kind → ℕ → ℕ
past_edge Elevation far = far + 1
past_edge Material far = far

-- along one axis: a corner, which is a multiple of a step, stands from low on and below high, and its place, an inset
-- further, lies in the box of a source
pub record HasPlaceOnGrid (kind : Kind) (step inset near far low high : ℕ) : Type 0 where
  pub at : ℕ
  pub multiple : step ∣ at
  pub from : low ≤ at
  pub below : at < high
  pub after_near : near ≤ at + inset
  pub before_far : IsBefore kind (at + inset) far

-- a source of a kind reaches the cell of a height at a corner: its level is at least as fine, and the place of some
-- cell of its level, whose corner lies in the cell, lies in its box
pub record ReachesCell (kind : Kind) (h : ℕ) (c : Place) (head : SourceHead) : Type 0 where
  pub kind_is : head.kind ≡ kind
  pub level : source_height head ≤ h
  pub corner : Place
  pub on_grid : IsCorner (source_height head) corner
  pub in_cell : IsInCell h c corner
  pub in_box : IsInBox head (place_of kind (source_height head) corner)

-- some source of a list does
pub record CellReached (kind : Kind) (h : ℕ) (c : Place) (sources : List Source) : Type 0 where
  pub number : ℕ
  pub source : Source
  pub there : slice_get sources number ≡ Some source
  pub reaches : ReachesCell kind h c source.head
