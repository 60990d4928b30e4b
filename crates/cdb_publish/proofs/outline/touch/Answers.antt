use Rattle.std.proofs.Common.{arith}
use Rattle.cdb_source.proofs.LoadLaws.{within_load}
use Rattle.cdb_publish.proofs.outline.touch.Goals as goal

pub returns-clause-few : goal.returns-clause-few
returns-clause-few c = omega (
  arith,
  c.if-prove.false,
  within_load c.args.heads.now c.load.result c.in-Ok.tiles.items c.load.ensures.load
      (record { exact = c.in-Ok.ensures.listed.exact; ordered = c.in-Ok.ensures.order }),
)
