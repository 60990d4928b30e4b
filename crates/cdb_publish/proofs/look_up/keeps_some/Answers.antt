use Rattle.std.proofs.Common.{sym}
use Rattle.cdb_publish.proofs.look_up.keeps_some.Goals as goal

pub returns-then-is_kept : goal.returns-then-is_kept
returns-then-is_kept c found = (
  c.loop-tile.tile-index,
  c.tile-item.result,
  c.loop-tile-test.true,
  sym c.tile-item.is,
  c.is_kept.ensures c.if-is_kept.true,
)
