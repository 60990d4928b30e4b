use Rattle.cdb_crash.proofs.Own as own
use Rattle.cdb_crash.proofs.laws.filled_head.Goals as goal

pub returns : goal.returns
returns c = own.filled_head
