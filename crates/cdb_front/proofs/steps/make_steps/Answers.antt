use Rattle.std.proofs.Common.{◌≡◌, ℕ, suc, ◌-◌, ◌+◌, refl, ◌∙◌, subst, arith, Some, None, []}
use Rattle.cdb_front.specs.AnswerMeanings.{meant}
use Rattle.cdb_model.specs.Stores.{store_kind}
use Rattle.cdb_front.proofs.Walk.{Partway, partway_begins, partway_out, stepped_by}
use Rattle.cdb_front.proofs.steps.make_steps.Goals as goal

pub loop-init : goal.loop-init
loop-init g c = record {
  partway = λ w origin s stays.
      let Now = g.E.StoreCalls.stays c.args.engine.now c.args.disk.now origin w in
      let e : c.args.most ≡ c.args.most - 0 = omega arith in
      subst (λ (n : ℕ). Partway (store_kind w) c.args.most n s Now) e
      (partway_begins (store_kind w) c.args.most s Now stays);
  reply = refl;
  later = omega arith;
}

pub loop-preserved : goal.loop-preserved
loop-preserved g c = record {
  partway = λ w origin s stays.
      let Old = g.E.StoreCalls.stays c.loop.engine c.loop.disk origin w in
      let New = g.E.StoreCalls.stays c.step.new.self c.step.new.disk origin w in
      let e : c.args.most - c.loop.counter ≡ suc (c.args.most - (c.loop.counter + 1)) = omega arith in
      stepped_by (store_kind w) c.args.most (c.args.most - (c.loop.counter + 1)) s Old New c.step.result None
      (c.in-None.ensures.said [])
      (subst (λ (n : ℕ). Partway (store_kind w) c.args.most n s Old) e (c.loop.invariant.partway w origin s stays))
      (λ mid now. c.step.ensures.step w origin mid now);
  reply = c.step.ensures.reply ∙ c.loop.invariant.reply;
  later = omega (arith, c.step.ensures.later, c.loop.invariant.later);
}

pub returns-in-Some-clause-makes : goal.returns-in-Some-clause-makes
returns-in-Some-clause-makes g c = λ w origin s stays.
    let Old = g.E.StoreCalls.stays c.loop.engine c.loop.disk origin w in
    let New = g.E.StoreCalls.stays c.step.new.self c.step.new.disk origin w in
    let reply = (g.E.StoreCalls.bytes c.step.new.self) in
    let e : c.args.most - c.loop.counter ≡ suc (c.args.most - (c.loop.counter + 1)) = omega arith in
    stepped_by (store_kind w) c.args.most (c.args.most - (c.loop.counter + 1)) s Old New c.step.result
    (Some (meant c.in-Some.answer reply)) (c.in-Some.ensures.said reply)
    (subst (λ (n : ℕ). Partway (store_kind w) c.args.most n s Old) e (c.loop.invariant.partway w origin s stays))
    (λ mid now. c.step.ensures.step w origin mid now)

pub returns-clause-makes : goal.returns-clause-makes
returns-clause-makes g c = λ w origin s stays.
    let Now = g.E.StoreCalls.stays c.loop.engine c.loop.disk origin w in
    let e : c.args.most - c.loop.counter ≡ 0 = omega arith in
    partway_out (store_kind w) c.args.most s Now
    (subst (λ (n : ℕ). Partway (store_kind w) c.args.most n s Now) e (c.loop.invariant.partway w origin s stays))
