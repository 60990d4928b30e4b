-- Places of a source along one axis, over plain numbers of arc units.
use Rattle.std.specs.Prelude.{ℕ, ◌+◌, ◌*◌, ◌/◌, ◌≤◌, ◌<◌}
use Prim.Native.Nat.{◌∣◌}
use Rattle.cdb_source.specs.declared.kind.Kind.{Kind}
use Rattle.cdb_source.specs.declared.kind.Kind.TheVariants.{Elevation, Material}
use Rattle.cdb_source.specs.Sample.{IsBefore}

-- how far from its cell's corner a place stands: half a step for material, whose places are the centres of cells
abbrev pub inset_of : Kind → ℕ → ℕ
inset_of Elevation step = 0
inset_of Material step = step / 2

-- the part of an axis with this number, where all parts have one extent, has a place that lies in the box of a
-- source from its near edge to its far edge
pub record HasPlaceOnAxis (kind : Kind) (step near far extent number : ℕ) : Type 0 where
  pub corner : ℕ
  pub on_grid : step ∣ corner
  pub from_low : number * extent ≤ corner + inset_of kind step
  pub below_high : corner + inset_of kind step < number * extent + extent
  pub from_near : near ≤ corner + inset_of kind step
  pub to_far : IsBefore kind (corner + inset_of kind step) far

-- the part of an axis with this number, where all parts have one extent, holds a multiple of a step from low on and
-- below high
pub record HoldsMultiple (step low high extent number : ℕ) : Type 0 where
  pub at : ℕ
  pub multiple : step ∣ at
  pub above : low ≤ at
  pub below : at < high
  pub south : number * extent ≤ at
  pub north : at < number * extent + extent
