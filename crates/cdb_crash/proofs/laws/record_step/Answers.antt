use Rattle.cdb_crash.proofs.Own as own
use Rattle.cdb_crash.proofs.laws.record_step.Goals as goal

pub returns : goal.returns
returns c = own.record_step
