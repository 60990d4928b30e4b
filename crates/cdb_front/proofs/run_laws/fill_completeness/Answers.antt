use Rattle.cdb_front.proofs.Generating as generating
use Rattle.cdb_front.proofs.run_laws.fill_completeness.Goals as goal

pub returns : goal.returns
returns g c = generating.completes_fill _ _ _ _ _ _ _
