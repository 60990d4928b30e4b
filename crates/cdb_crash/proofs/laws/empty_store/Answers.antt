use Rattle.cdb_crash.proofs.Own as own
use Rattle.cdb_crash.proofs.laws.empty_store.Goals as goal

pub returns : goal.returns
returns c = own.empty_store
