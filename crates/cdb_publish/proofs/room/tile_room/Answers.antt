use Rattle.std.proofs.Common.{arith}
use Rattle.cdb_crash.proofs.PlanNumbers.{got}
use Rattle.cdb_publish.proofs.RoomLaws.{one_head, all_heads}
use Rattle.cdb_publish.proofs.room.tile_room.Goals as goal

pub loop-head-preserved : goal.loop-head-preserved
loop-head-preserved c = record {
  room = one_head c.args.heads.now c.args.tile.now c.loop-head.head-index c.loop-head.room c.window_size.result
      c.max-room.result c.head-item.result
      (got c.args.heads.now c.loop-head.head-index c.head-item.result c.loop-head-test.true c.head-item.is)
      (omega (arith, c.max-room.ensures)) (omega (arith, c.max-room.ensures))
      c.window_size.ensures.room c.loop-head.invariant.room;
  most = omega (arith, c.max-room.ensures, c.window_size.ensures.most, c.loop-head.invariant.most);
}

pub returns-clause-room : goal.returns-clause-room
returns-clause-room c =
    all_heads c.args.heads.now c.args.tile.now c.loop-head.head-index c.loop-head.room c.loop-head-test.false
    c.loop-head.invariant.room
