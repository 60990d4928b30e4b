use Rattle.cdb_front.proofs.Serving as serving
use Rattle.cdb_front.proofs.run_laws.serves_tiles.Goals as goal

pub returns : goal.returns
returns g c = serving.serves_tiles _
