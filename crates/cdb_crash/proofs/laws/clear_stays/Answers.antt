use Rattle.cdb_crash.proofs.Own as own
use Rattle.cdb_crash.proofs.laws.clear_stays.Goals as goal

pub returns : goal.returns
returns c = own.clear_stays
