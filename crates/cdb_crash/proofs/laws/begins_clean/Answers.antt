use Rattle.cdb_crash.proofs.Own as own
use Rattle.cdb_crash.proofs.laws.begins_clean.Goals as goal

pub returns : goal.returns
returns c = own.begins_clean
