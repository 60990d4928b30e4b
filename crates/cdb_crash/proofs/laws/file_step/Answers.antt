use Rattle.cdb_crash.proofs.Own as own
use Rattle.cdb_crash.proofs.laws.file_step.Goals as goal

pub returns : goal.returns
returns c = own.file_step
