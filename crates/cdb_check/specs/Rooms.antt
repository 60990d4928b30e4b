-- The memory that the check of a store needs.
use Rattle.std.specs.Prelude.{◌≤◌, length}
use Rattle.cdb_check.specs.declared.room.Room.{Room}
use Rattle.cdb_model.specs.declared.limits.TheConstants.{MOST_TILE_BYTES, MOST_TILE_VALUES}

-- a tile of 1,024 by 1,024 elements fits in the frame, and its file, and the longest record, in the bytes
pub record IsRoomy (room : Room) : Type 0 where
  pub frame : MOST_TILE_VALUES ≤ length room.frame.items
  pub bytes : MOST_TILE_BYTES ≤ length room.bytes.items
  pub found : MOST_TILE_BYTES ≤ length room.found.items
