use Rattle.cdb_crash.proofs.Own as own
use Rattle.cdb_crash.proofs.laws.room.Goals as goal

pub returns : goal.returns
returns c = own.room
