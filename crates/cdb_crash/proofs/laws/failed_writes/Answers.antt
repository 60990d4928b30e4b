use Rattle.cdb_crash.proofs.Own as own
use Rattle.cdb_crash.proofs.laws.failed_writes.Goals as goal

pub returns : goal.returns
returns c = own.failed_writes
