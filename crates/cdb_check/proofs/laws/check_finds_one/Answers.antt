use Rattle.cdb_check.proofs.ExpectedLaws.{one_or_other, one_first}
use Rattle.cdb_check.proofs.laws.check_finds_one.Goals as goal

pub returns : goal.returns
returns c = record { not_both = one_or_other; one_path = one_first }
