use Rattle.cdb_crash.proofs.Own as own
use Rattle.cdb_crash.proofs.laws.newest_files.Goals as goal

pub returns : goal.returns
returns c = own.newest_files
