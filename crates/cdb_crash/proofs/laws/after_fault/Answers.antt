use Rattle.cdb_crash.proofs.Own as own
use Rattle.cdb_crash.proofs.laws.after_fault.Goals as goal

pub returns : goal.returns
returns c = own.after_fault
