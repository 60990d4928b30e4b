use Rattle.cdb_grid.proofs.TileOrder.{tile_self, same_of_equal, child_before, precedes}
use Rattle.cdb_grid.proofs.laws.tiles_are_ordered.Goals as goal

pub returns-clause-itself : goal.returns-clause-itself
returns-clause-itself c = tile_self

pub returns-clause-same : goal.returns-clause-same
returns-clause-same c = same_of_equal

pub returns-clause-finer_first : goal.returns-clause-finer_first
returns-clause-finer_first c = child_before

pub returns-clause-ascending : goal.returns-clause-ascending
returns-clause-ascending c = precedes
