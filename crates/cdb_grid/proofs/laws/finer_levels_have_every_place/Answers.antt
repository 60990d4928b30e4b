use Rattle.cdb_grid.proofs.GridLaws.{IsCorner_finer}
use Rattle.cdb_grid.proofs.laws.finer_levels_have_every_place.Goals as goal

pub returns : goal.returns
returns c = IsCorner_finer
