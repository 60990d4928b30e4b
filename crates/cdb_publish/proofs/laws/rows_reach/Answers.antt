use Rattle.cdb_publish.proofs.RowsReach.{rows_reach}
use Rattle.cdb_publish.proofs.laws.rows_reach.Goals as goal

pub returns : goal.returns
returns c = rows_reach
