use Rattle.std.proofs.Common.{ℕ, sym, subst}
use Rattle.cdb_model.specs.Stores.{store_kind}
use Rattle.cdb_engine.specs.StoreAnswers.{LeftIn}
use Rattle.cdb_engine.proofs.StayLaws.{stays_left}
use Rattle.cdb_front.proofs.engine_calls.EngineStoreCalls.left.Goals as goal

pub returns : goal.returns
returns g c = λ d w origin s stays.
    subst (λ (n : ℕ). LeftIn (store_kind w) s.going n) (sym c.left.ensures)
    (stays_left g.D.Disk.tells g.D.Disk.clock g.D.Disk.fault_count g.D.Disk.since g.D.Disk.state origin d
    c.args.self.now w s stays)
