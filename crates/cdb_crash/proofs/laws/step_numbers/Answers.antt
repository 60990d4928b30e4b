use Rattle.cdb_crash.proofs.Own as own
use Rattle.cdb_crash.proofs.laws.step_numbers.Goals as goal

pub returns : goal.returns
returns c = own.step_numbers
