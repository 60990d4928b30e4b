use Rattle.std.proofs.Common.{◌≤◌}
use Rattle.cdb_publish.proofs.RoomLaws.{HasRoomToTile}
use Rattle.cdb_publish.proofs.room.largest_window.Given as goal

abbrev pub invariant-loop-tile : goal.invariant-loop-tile
invariant-loop-tile l = record {
  room : HasRoomToTile l.heads l.tiles l.tile-index l.room;
  most : l.room ≤ 16777216;
}
