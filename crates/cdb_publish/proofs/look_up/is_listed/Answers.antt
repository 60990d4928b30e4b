use Rattle.cdb_publish.proofs.LookLaws.{listed_at, not_listed}
use Rattle.cdb_publish.proofs.look_up.is_listed.Goals as goal

pub returns-in-Ok : goal.returns-in-Ok
returns-in-Ok c = listed_at c.args.tiles.now c.args.tile.now c.in-Ok.field-0 c.in-Ok.ensures.bound c.in-Ok.ensures.ok

pub returns-in-Err : goal.returns-in-Err
returns-in-Err c = not_listed c.args.tiles.now c.args.tile.now c.in-Err.field-0 c.requires c.in-Err.ensures.position
