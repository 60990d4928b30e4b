use Rattle.std.proofs.Common.{◌*◌, refl}
use Rattle.cdb_publish.proofs.RoomLaws.{window_room}
use Rattle.cdb_publish.proofs.room.window_size.Goals as goal

pub returns-in-Some-clause-room : goal.returns-in-Some-clause-room
returns-in-Some-clause-room c =
    window_room c.args.head.now c.args.tile.now c.in-Some.rows.first c.in-Some.rows.count
    (c.in-Some.rows.count * c.args.head.now.cols) c.in-Some.ensures refl
