use Rattle.cdb_crash.proofs.Own as own
use Rattle.cdb_crash.proofs.laws.head_step.Goals as goal

pub returns : goal.returns
returns c = own.head_step
