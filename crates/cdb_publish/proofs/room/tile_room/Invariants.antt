use Rattle.std.proofs.Common.{◌≤◌}
use Rattle.cdb_publish.proofs.RoomLaws.{HasRoomUpTo}
use Rattle.cdb_publish.proofs.room.tile_room.Given as goal

abbrev pub invariant-loop-head : goal.invariant-loop-head
invariant-loop-head l = record {
  room : HasRoomUpTo l.heads l.tile l.head-index l.room;
  most : l.room ≤ 16777216;
}
