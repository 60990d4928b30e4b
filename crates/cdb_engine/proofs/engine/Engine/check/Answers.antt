use Rattle.std.proofs.Common.{IfOk, subst}
use Rattle.cdb_check.specs.Expected.{expected_files}
use Rattle.cdb_check.specs.Outcome.{FirstDiffering, TellsCounts}
use Rattle.cdb_engine.specs.Held.{Held}
use Rattle.cdb_engine.proofs.CheckLaws.{tracked_agrees, stays_looked}
use Rattle.cdb_engine.proofs.engine.Engine.check.Goals as goal

pub returns-clause-agrees : goal.returns-clause-agrees
returns-clause-agrees g c = λ told s tracks running.
    tracked_agrees c.args.self.now (g.D.Disk.state c.args.disk.now) s c.check.result tracks running
    (g.met.D.Disk.present_possible c.args.disk.now told)
    (subst (λ (h : Held). FirstDiffering (g.D.Disk.state c.args.disk.now).present (expected_files h.chain.records)
    c.check.result) c.self.view_is (c.check.ensures.finds told))
    (subst (λ (h : Held). IfOk c.check.result (TellsCounts h.chain.records)) c.self.view_is c.check.ensures.told)

pub returns-clause-stays : goal.returns-clause-stays
returns-clause-stays g c = λ w origin s stays.
    stays_looked g.D.Disk.tells g.D.Disk.clock g.D.Disk.fault_count g.D.Disk.since g.D.Disk.state origin
    c.args.disk.now c.check.new.disk c.args.self.now c.check.ensures.looks w s stays
