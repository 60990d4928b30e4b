use Rattle.std.proofs.Common.{◌∙◌, ap}
use Rattle.std.specs.Option.{is_some}
use Rattle.cdb_engine.proofs.StayLaws.{stays_shows}
use Rattle.cdb_front.proofs.engine_calls.EngineStoreCalls.halted.Goals as goal

pub returns : goal.returns
returns g c = λ d w origin s stays.
    c.is_some.ensures ∙ ap is_some c.halted.ensures
    ∙ (stays_shows g.D.Disk.tells g.D.Disk.clock g.D.Disk.fault_count g.D.Disk.since g.D.Disk.state origin
    d c.args.self.now w s stays).halted
