use Rattle.cdb_check.proofs.KeptLaws.{are_kept}
use Rattle.cdb_check.proofs.laws.agreeing_stores_are_kept.Goals as goal

pub returns : goal.returns
returns c = are_kept
