use Rattle.std.proofs.Common.{Some}
use Rattle.cdb_memfiles.proofs.StandingLaws.{shown-update}
use Rattle.cdb_memfiles.proofs.standings.store.Goals as goal

pub returns-in-Ok : goal.returns-in-Ok
returns-in-Ok c = shown-update c.args.table.now c.insert.new.self c.args.path.now (Some c.args.standing)
    c.in-Ok.ensures.updates
