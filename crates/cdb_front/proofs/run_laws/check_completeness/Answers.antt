use Rattle.cdb_front.proofs.Checking as checking
use Rattle.cdb_front.proofs.run_laws.check_completeness.Goals as goal

pub returns : goal.returns
returns g c = checking.completes_check _ _ _ _ _ _ _
