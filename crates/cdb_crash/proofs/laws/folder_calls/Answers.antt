use Rattle.cdb_crash.proofs.Own as own
use Rattle.cdb_crash.proofs.laws.folder_calls.Goals as goal

pub returns : goal.returns
returns c = own.folder_calls
