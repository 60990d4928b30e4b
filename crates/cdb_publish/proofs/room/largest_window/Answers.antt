use Rattle.std.proofs.Common.{arith}
use Rattle.cdb_crash.proofs.PlanNumbers.{got}
use Rattle.cdb_publish.proofs.RoomLaws.{one_tile, all_tiles}
use Rattle.cdb_publish.proofs.room.largest_window.Goals as goal

pub loop-tile-preserved : goal.loop-tile-preserved
loop-tile-preserved c = record {
  room = one_tile c.args.heads.now c.args.tiles.now c.loop-tile.tile-index c.loop-tile.room c.tile_room.result
      c.max-room.result c.tile-item.result
      (got c.args.tiles.now c.loop-tile.tile-index c.tile-item.result c.loop-tile-test.true c.tile-item.is)
      (omega (arith, c.max-room.ensures)) (omega (arith, c.max-room.ensures))
      c.tile_room.ensures.room c.loop-tile.invariant.room;
  most = omega (arith, c.max-room.ensures, c.tile_room.ensures.most, c.loop-tile.invariant.most);
}

pub returns-clause-room : goal.returns-clause-room
returns-clause-room c =
    all_tiles c.args.heads.now c.args.tiles.now c.loop-tile.tile-index c.loop-tile.room c.loop-tile-test.false
    c.loop-tile.invariant.room
