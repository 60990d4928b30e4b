use Rattle.std.proofs.Common.{◌∙◌, sym}
use Rattle.cdb_touch.proofs.OrderLaws.{tile_eq-exact}
use Rattle.cdb_check.proofs.kept.is_same.Goals as goal

pub returns : goal.returns
returns c same = tile_eq-exact c.args.a.now c.args.b.now (sym c.eq.ensures ∙ same)
