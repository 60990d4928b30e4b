use Rattle.cdb_crash.proofs.Own as own
use Rattle.cdb_crash.proofs.laws.own_paths.Goals as goal

pub returns : goal.returns
returns c = own.own_paths
