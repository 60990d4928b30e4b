use Rattle.cdb_crash.proofs.Own as own
use Rattle.cdb_crash.proofs.laws.whole_stays.Goals as goal

pub returns : goal.returns
returns c = own.whole_stays
