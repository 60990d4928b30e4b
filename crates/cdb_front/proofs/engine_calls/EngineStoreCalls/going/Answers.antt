use Rattle.std.proofs.Common.{◌∙◌}
use Rattle.cdb_engine.proofs.StayLaws.{stays_shows}
use Rattle.cdb_front.proofs.engine_calls.EngineStoreCalls.going.Goals as goal

pub returns : goal.returns
returns g c = λ d w origin s stays.
    c.going.ensures ∙ (stays_shows g.D.Disk.tells g.D.Disk.clock g.D.Disk.fault_count g.D.Disk.since g.D.Disk.state
    origin d c.args.self.now w s stays).going
