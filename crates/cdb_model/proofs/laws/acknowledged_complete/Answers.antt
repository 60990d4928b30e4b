use Rattle.cdb_model.proofs.BegunLaws as law
use Rattle.cdb_model.specs.RunLaws.{AnyShelf}
use Rattle.cdb_model.proofs.laws.acknowledged_complete.Goals as goal

pub returns : goal.returns
returns c = law.acknowledged_complete AnyShelf
