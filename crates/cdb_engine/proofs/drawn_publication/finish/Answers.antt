use Rattle.std.proofs.Common.{ℕ, None, Some, sym, subst, arith}
use Rattle.cdb_model.specs.Stores.{store_kind}
use Rattle.cdb_engine.specs.StoreAnswers.{LeftIn}
use Rattle.cdb_engine.specs.Stays.{Stays}
use Rattle.cdb_engine.proofs.StayLaws.{stays_left}
use Rattle.cdb_engine.proofs.StepLaws.{partly_none, stepped_by, not_all}
use Rattle.cdb_engine.proofs.drawn_publication.finish.Goals as goal

pub loop-init : goal.loop-init
loop-init g c =
    let D = g.D.Disk in
    record {
      steps = λ w origin s now stays going running some.
          partly_none (store_kind w) s now c.left-left.result
          (Stays D.tells D.clock D.fault_count D.since D.state origin c.args.disk.now c.args.engine.now w)
          (subst (λ (n : ℕ). LeftIn (store_kind w) s.going n) (sym c.left-left.ensures)
          (stays_left D.tells D.clock D.fault_count D.since D.state origin c.args.disk.now c.args.engine.now w s stays))
          going some stays;
      later = omega arith;
    }

pub loop-preserved : goal.loop-preserved
loop-preserved g c =
    let D = g.D.Disk in
    record {
      steps = λ w origin s now stays going running some.
          stepped_by w s now c.left-left.result c.loop.counter
          (Stays D.tells D.clock D.fault_count D.since D.state origin c.loop.disk c.loop.engine w)
          (Stays D.tells D.clock D.fault_count D.since D.state origin c.step.new.disk c.step.new.self w)
          (c.loop.invariant.steps w origin s now stays going running some) c.step.result None c.in-None.ensures.ended
          (λ mid there. c.step.ensures.step w origin mid there);
      later = omega (arith, c.step.ensures.later, c.loop.invariant.later);
    }

pub returns-in-Some-clause-finishes : goal.returns-in-Some-clause-finishes
returns-in-Some-clause-finishes g c = λ w origin s now stays going running some.
    let D = g.D.Disk in
    stepped_by w s now c.left-left.result c.loop.counter
    (Stays D.tells D.clock D.fault_count D.since D.state origin c.loop.disk c.loop.engine w)
    (Stays D.tells D.clock D.fault_count D.since D.state origin c.step.new.disk c.step.new.self w)
    (c.loop.invariant.steps w origin s now stays going running some) c.step.result
    (Some c.in-Some.end) c.in-Some.ensures.ended
    (λ mid there. c.step.ensures.step w origin mid there)

pub returns-clause-finishes : goal.returns-clause-finishes
returns-clause-finishes g c = λ w origin s now stays going running some.
    let D = g.D.Disk in
    absurd (not_all (store_kind w) s now c.left-left.result c.loop.counter
    (Stays D.tells D.clock D.fault_count D.since D.state origin c.loop.disk c.loop.engine w)
    (c.loop.invariant.steps w origin s now stays going running some) c.loop-test.false)
