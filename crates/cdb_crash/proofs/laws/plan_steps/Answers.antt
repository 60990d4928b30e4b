use Rattle.cdb_crash.proofs.Own as own
use Rattle.cdb_crash.proofs.laws.plan_steps.Goals as goal

pub returns : goal.returns
returns c = own.plan_steps
