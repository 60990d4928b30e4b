-- 180 degrees are a whole number of widths.
use Rattle.std.proofs.Common.{refl}
use Rattle.cdb_grid.specs.Units.{width_at}
use Rattle.cdb_grid.proofs.tile.TileDefault.default.Goals as goal

pub invariant_of-cell-clause-on_grid : goal.invariant_of-cell-clause-on_grid
unfolding width_at
invariant_of-cell-clause-on_grid c = refl
