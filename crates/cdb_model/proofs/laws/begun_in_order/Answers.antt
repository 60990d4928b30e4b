use Rattle.cdb_model.proofs.BegunLaws as law
use Rattle.cdb_model.specs.RunLaws.{AnyShelf}
use Rattle.cdb_model.proofs.laws.begun_in_order.Goals as goal

pub returns : goal.returns
returns c = law.begun_in_order AnyShelf
