use Rattle.cdb_crash.proofs.Own as own
use Rattle.cdb_crash.proofs.laws.every_list.Goals as goal

pub returns : goal.returns
returns c = own.every_list
