use Rattle.std.proofs.Common.{arith}
use Rattle.cdb_grid.proofs.GridLaws.{IsCorner_finer}
use Rattle.cdb_source.proofs.laws.finer_places.Goals as goal

pub returns : goal.returns
returns c = λ h p corner. IsCorner_finer h _ p (omega arith) corner
