use Rattle.cdb_model.proofs.HaltLaws as law
use Rattle.cdb_model.specs.RunLaws.{AnyShelf}
use Rattle.cdb_model.proofs.laws.halts_by_fault.Goals as goal

pub returns : goal.returns
returns c = law.halts_by_fault AnyShelf
