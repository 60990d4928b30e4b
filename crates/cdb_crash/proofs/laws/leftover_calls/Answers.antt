use Rattle.cdb_crash.proofs.Own as own
use Rattle.cdb_crash.proofs.laws.leftover_calls.Goals as goal

pub returns : goal.returns
returns c = own.leftover_calls
