use Rattle.cdb_model.specs.Stores.{store_kind}
use Rattle.cdb_front.proofs.Walk.{complete_halted, complete_nothing, complete_makes}
use Rattle.cdb_front.specs.AnswerMeanings.{meant}
use Rattle.cdb_front.proofs.steps.complete.Goals as goal

pub returns-clause-completes : goal.returns-clause-completes
returns-clause-completes g c = λ w origin s stays.
    complete_makes (store_kind w) (g.E.StoreCalls.stays c.make_steps.new.engine c.make_steps.new.disk origin w) s
    c.left-most.result (meant c.make_steps.result (g.E.StoreCalls.bytes c.make_steps.new.engine))
    (c.if-halted.ensures c.args.disk.now w origin s stays) (c.if-not-going.ensures c.args.disk.now w origin s stays)
    (c.left-most.ensures c.args.disk.now w origin s stays) (c.make_steps.ensures.makes w origin s stays)

pub returns-then-halted-clause-completes : goal.returns-then-halted-clause-completes
returns-then-halted-clause-completes g c = λ w origin s stays.
    complete_halted (store_kind w) (g.E.StoreCalls.stays c.args.engine.now c.args.disk.now origin w) s stays
    (c.if-halted.ensures c.args.disk.now w origin s stays)

pub returns-then-not-going-clause-completes : goal.returns-then-not-going-clause-completes
returns-then-not-going-clause-completes g c = λ w origin s stays.
    complete_nothing (store_kind w) (g.E.StoreCalls.stays c.args.engine.now c.args.disk.now origin w) s stays
    (c.if-halted.ensures c.args.disk.now w origin s stays) (c.if-not-going.ensures c.args.disk.now w origin s stays)
