use Rattle.cdb_grid.proofs.ChildPlaces.{is_refined}
use Rattle.cdb_grid.proofs.laws.child_elements_are_finer_cells.Goals as goal

pub returns : goal.returns
returns c = is_refined
