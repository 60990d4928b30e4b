use Rattle.cdb_model.proofs.HaltLaws as law
use Rattle.cdb_model.specs.RunLaws.{AnyShelf}
use Rattle.cdb_model.proofs.laws.halted_begins_none.Goals as goal

pub returns : goal.returns
returns c = law.halted_begins_none AnyShelf
