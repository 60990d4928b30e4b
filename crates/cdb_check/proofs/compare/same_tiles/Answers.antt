use Rattle.std.proofs.lemmas.Slice.Eq.{slice_eq-Decides}
use Rattle.cdb_touch.proofs.OrderLaws.{tile_eq}
use Rattle.cdb_check.proofs.TouchLaws.{same_decides}
use Rattle.cdb_check.proofs.compare.same_tiles.Goals as goal

pub returns : goal.returns
returns c = slice_eq-Decides {E = tile_eq} same_decides c.args.a.now c.args.b.now c.eq.result c.eq.ensures
