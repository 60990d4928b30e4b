use Rattle.cdb_source.proofs.LoadLaws.{within_load}
use Rattle.cdb_source.proofs.laws.touched_within_load.Goals as goal

pub returns : goal.returns
returns c = within_load
