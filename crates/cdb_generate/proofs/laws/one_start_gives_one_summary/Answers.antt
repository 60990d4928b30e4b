use Rattle.cdb_generate.proofs.OneLaws.{one_summary}
use Rattle.cdb_generate.proofs.laws.one_start_gives_one_summary.Goals as goal

pub returns : goal.returns
returns c = one_summary
