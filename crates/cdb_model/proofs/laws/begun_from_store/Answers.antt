use Rattle.cdb_model.proofs.BegunLaws as law
use Rattle.cdb_model.specs.RunLaws.{AnyShelf}
use Rattle.cdb_model.proofs.laws.begun_from_store.Goals as goal

pub returns : goal.returns
returns c = law.begun_from_store AnyShelf
