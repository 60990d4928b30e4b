use Rattle.cdb_front.proofs.Completing as complete
use Rattle.cdb_front.proofs.run_laws.completeness.Goals as goal

pub returns : goal.returns
returns g c = complete.completes _ _
