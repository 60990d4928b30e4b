use Rattle.cdb_model.proofs.HaltLaws as law
use Rattle.cdb_model.specs.RunLaws.{AnyShelf}
use Rattle.cdb_model.proofs.laws.plain_answers.Goals as goal

pub returns : goal.returns
returns c = law.plain_answers AnyShelf
