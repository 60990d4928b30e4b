use Rattle.cdb_grid.proofs.UnitLaws.{tiles_below_zero, tiles_from_zero}
use Rattle.cdb_grid.proofs.laws.tiles_double_with_each_level.Goals as goal

pub returns-clause-coarse : goal.returns-clause-coarse
returns-clause-coarse c = tiles_below_zero

pub returns-clause-fine : goal.returns-clause-fine
returns-clause-fine c = tiles_from_zero
