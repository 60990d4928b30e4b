use Rattle.cdb_model.proofs.SessionLaws as law
use Rattle.cdb_model.specs.RunLaws.{AnyShelf}
use Rattle.cdb_model.proofs.laws.sessions_stay.Goals as goal

pub returns : goal.returns
returns c = law.sessions_stay AnyShelf
