use Rattle.cdb_model.specs.Stores.{store_kind}
use Rattle.cdb_front.proofs.Walk.{hasten_halted, hasten_nothing, hasten_none, hasten_makes}
use Rattle.cdb_front.specs.AnswerMeanings.{meant}
use Rattle.cdb_front.proofs.steps.hasten.Goals as goal

pub returns-clause-hastens : goal.returns-clause-hastens
returns-clause-hastens g c = λ w origin s stays.
    hasten_makes (store_kind w) (g.E.StoreCalls.stays c.make_steps.new.engine c.make_steps.new.disk origin w)
    s c.args.most
    (meant c.make_steps.result (g.E.StoreCalls.bytes c.make_steps.new.engine))
    (c.if-halted.ensures c.args.disk.now w origin s stays) (c.if-not-going.ensures c.args.disk.now w origin s stays)
    c.if-most-eq0.false (c.make_steps.ensures.makes w origin s stays)

pub returns-then-halted-clause-hastens : goal.returns-then-halted-clause-hastens
returns-then-halted-clause-hastens g c = λ w origin s stays.
    hasten_halted (store_kind w) (g.E.StoreCalls.stays c.args.engine.now c.args.disk.now origin w) s c.args.most stays
    (c.if-halted.ensures c.args.disk.now w origin s stays)

pub returns-then-not-going-clause-hastens : goal.returns-then-not-going-clause-hastens
returns-then-not-going-clause-hastens g c = λ w origin s stays.
    hasten_nothing (store_kind w) (g.E.StoreCalls.stays c.args.engine.now c.args.disk.now origin w) s c.args.most stays
    (c.if-halted.ensures c.args.disk.now w origin s stays) (c.if-not-going.ensures c.args.disk.now w origin s stays)

pub returns-then-most-eq0-clause-hastens : goal.returns-then-most-eq0-clause-hastens
returns-then-most-eq0-clause-hastens g c = λ w origin s stays.
    hasten_none (store_kind w) (g.E.StoreCalls.stays c.args.engine.now c.args.disk.now origin w) s c.args.most stays
    (c.if-halted.ensures c.args.disk.now w origin s stays) (c.if-not-going.ensures c.args.disk.now w origin s stays)
    c.if-most-eq0.true
