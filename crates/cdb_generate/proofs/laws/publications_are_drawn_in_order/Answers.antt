use Rattle.cdb_generate.proofs.ListLaws.{in_order}
use Rattle.cdb_generate.proofs.laws.publications_are_drawn_in_order.Goals as goal

pub returns : goal.returns
returns c = in_order
