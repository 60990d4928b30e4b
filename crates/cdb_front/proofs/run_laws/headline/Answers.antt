use Rattle.cdb_front.proofs.Many as many
use Rattle.cdb_front.proofs.run_laws.headline.Goals as goal

pub returns : goal.returns
returns g c = many.many _
