use Rattle.std.proofs.Common.{rules, ◌≡◌, ◌+◌, ◌*◌, ℤ, pos, ◌+ℤ◌, ◌≤ℤ◌, w64, to_z, of_z, ℕ, Ok, Err, [], refl, sym, ◌∙◌}
use Rattle.std.proofs.Common.{ap, subst, arith}
use Rattle.cdb_model.specs.Stores.{any}
use Rattle.cdb_engine.specs.Stays.{Stays, bare_of}
use Rattle.cdb_engine.specs.Tracks.{Origin, Leads}
use Rattle.cdb_generate.specs.Generator.{state_next}
use Rattle.cdb_engine.specs.Filling.{AreMade}
use Rattle.cdb_engine.specs.Populating.{PublishesIn}
use Rattle.cdb_engine.proofs.FillLaws.{none_made, one_more_made, stopped_after, rests_by, passed_more, least_more}
use Rattle.cdb_engine.proofs.FillLaws.{most_more}
use Rattle.cdb_engine.proofs.filling.fill.Goals as goal

pub loop-init : goal.loop-init
loop-init g c =
    let D = g.D.Disk in
    record {
      made = λ w origin s stays at.
          none_made w s c.args.start
          (Stays D.tells D.clock D.fault_count D.since D.state origin c.args.disk.now c.args.engine.now w) at stays;
      state = refl;
      few = omega arith;
      least = search rules;
      most = search rules;
      frame = c.requires.frame;
      later = omega arith;
    }

pub publish_one-requires-clause-rest : goal.publish_one-requires-clause-rest
publish_one-requires-clause-rest g c =
    let D = g.D.Disk in
    let origin : Origin = record {
      store = record { list = []; early = []; moment = 0 };
      opened = 0;
      faults = 0;
    } in
    rests_by D.tells D.clock D.fault_count D.since D.state origin c.loop.disk c.loop.engine (bare_of c.args.engine.now)
    c.args.start c.loop.counter c.loop.files (to_z w64 c.loop.sum-bits)
    (c.loop.invariant.made any origin (bare_of c.args.engine.now) (record { is = refl }) c.requires.rest)

pub loop-preserved : goal.loop-preserved
loop-preserved g c =
    let D = g.D.Disk in
    let i = c.loop.counter in
    let old : ℤ = to_z w64 c.loop.sum-bits in
    let more : ℤ = c.in-Ok.published.sum in
    let next : to_z w64 (of_z w64 (old +ℤ to_z w64 (of_z w64 more))) ≡ old +ℤ more = search rules in
    record {
      made = λ w origin s stays at.
          let New = Stays D.tells D.clock D.fault_count D.since D.state origin c.publish_one.new.disk
          c.publish_one.new.engine w in
          let made = c.loop.invariant.made w origin s stays at in
          subst (λ (z : ℤ). Leads (AreMade w s c.args.start (i + 1) (c.loop.files + c.in-Ok.published.files) z) New)
          (sym next)
          (one_more_made w s c.args.start i c.loop.files old
          (Stays D.tells D.clock D.fault_count D.since D.state origin c.loop.disk c.loop.engine w) New made
          c.in-Ok.published
          (subst (λ (x : ℕ). Leads (PublishesIn w made.next x (Ok c.in-Ok.published)) New) c.loop.invariant.state
          (c.in-Ok.ensures.publishes w origin made.next made.now made.step.at_rest)));
      state = c.in-Ok.ensures.state ∙ ap state_next c.loop.invariant.state ∙ sym (passed_more i c.args.start);
      few =
          let a = c.in-Ok.ensures.few in
          let b = c.loop.invariant.few in
          omega (arith, a, b);
      least = subst (λ (z : ℤ). pos 0 ≤ℤ (z +ℤ pos (562949953421312 * (i + 1)))) (sym next)
          (least_more old more i c.loop.invariant.least c.in-Ok.ensures.least);
      most = subst (λ (z : ℤ). z ≤ℤ pos (562949953421312 * (i + 1))) (sym next)
          (most_more old more i c.loop.invariant.most c.in-Ok.ensures.most);
      frame = c.in-Ok.ensures.frame ∙ c.loop.invariant.frame;
      later = omega (arith, c.in-Ok.ensures.later, c.loop.invariant.later);
    }

pub returns-in-Err-clause-fills : goal.returns-in-Err-clause-fills
returns-in-Err-clause-fills g c = λ w origin s stays at.
    let D = g.D.Disk in
    let New = Stays D.tells D.clock D.fault_count D.since D.state origin c.publish_one.new.disk
    c.publish_one.new.engine w in
    let made = c.loop.invariant.made w origin s stays at in
    stopped_after w s c.args.start c.loop.counter c.loop.files (to_z w64 c.loop.sum-bits)
    (Stays D.tells D.clock D.fault_count D.since D.state origin c.loop.disk c.loop.engine w) New made
    c.args.count c.in-Err.error c.loop-test.true
    (subst (λ (x : ℕ). Leads (PublishesIn w made.next x (Err c.in-Err.error)) New) c.loop.invariant.state
    (c.in-Err.ensures.publishes w origin made.next made.now made.step.at_rest))

pub returns-clause-fills : goal.returns-clause-fills
returns-clause-fills g c = λ w origin s stays at.
    let D = g.D.Disk in
    let same : c.loop.counter ≡ c.args.count = omega arith in
    subst (λ (n : ℕ). Leads (AreMade w s c.args.start n c.loop.files (to_z w64 c.loop.sum-bits))
    (Stays D.tells D.clock D.fault_count D.since D.state origin c.loop.disk c.loop.engine w)) same
    (c.loop.invariant.made w origin s stays at)
