use Rattle.cdb_generate.proofs.SumLaws.{sums_in_order}
use Rattle.cdb_generate.proofs.laws.sums_grow_in_order.Goals as goal

pub returns : goal.returns
returns c = sums_in_order
