use Rattle.cdb_front.proofs.Continuing as continuing
use Rattle.cdb_front.proofs.run_laws.continues.Goals as goal

pub returns : goal.returns
returns g c = continuing.continues _
