use Rattle.std.proofs.Common.{ℕ, List, [], ◌∷◌, sym, subst, append-nil}
use Rattle.std.specs.Io.KnownBytes.{Appends}
use Rattle.cdb_model.specs.AnswerTexts.{text_of_answer}
use Rattle.cdb_front.specs.Devices.{WritesPart}
use Rattle.std.proofs.KnownBytes.{Appends-nil}
use Rattle.cdb_front.proofs.RunProgress.{speaks_late, stammers_late}
use Rattle.cdb_front.specs.AnswerMeanings.{meant}
use Rattle.cdb_front.specs.RunProgress.{origin_of}
use Rattle.cdb_front.proofs.script_lines.trail.Goals as goal

pub returns-in-None-clause-spoken : goal.returns-in-None-clause-spoken
returns-in-None-clause-spoken g c = λ e.
    speaks_late e.files c.args.most c.make_steps.result (g.E.StoreCalls.bytes c.make_steps.new.engine) []
    (g.H.Shelf.fault_count c.args.shelf.now)
    (g.E.StoreCalls.stays c.args.engine.now c.args.disk.now (origin_of e))
    (g.E.StoreCalls.stays c.make_steps.new.engine c.make_steps.new.disk (origin_of e))
    (c.in-None.ensures.said (g.E.StoreCalls.bytes c.make_steps.new.engine))
    (λ w s stays. c.make_steps.ensures.makes w (origin_of e) s stays) c.make_steps.ensures.quiet
    c.make_steps.ensures.counted c.make_steps.ensures.finds (Appends-nil (g.O.Output.written c.args.output.now))

pub returns-in-Ok-clause-spoken : goal.returns-in-Ok-clause-spoken
returns-in-Ok-clause-spoken g c = λ e.
    let reply = (g.E.StoreCalls.bytes c.make_steps.new.engine) in
    speaks_late e.files c.args.most c.make_steps.result reply (meant c.in-Some.answer reply ∷ [])
    (g.H.Shelf.fault_count c.args.shelf.now)
    (g.E.StoreCalls.stays c.args.engine.now c.args.disk.now (origin_of e))
    (g.E.StoreCalls.stays c.make_steps.new.engine c.make_steps.new.disk (origin_of e))
    (c.in-Some.ensures.said reply) (λ w s stays. c.make_steps.ensures.makes w (origin_of e) s stays)
    c.make_steps.ensures.quiet c.make_steps.ensures.counted c.make_steps.ensures.finds
    (subst (Appends (g.O.Output.written c.args.output.now) (g.O.Output.written c.say.new.output))
    (sym (append-nil (text_of_answer (meant c.in-Some.answer reply))))
    (subst (λ (r : List ℕ). Appends (g.O.Output.written c.args.output.now) (g.O.Output.written c.say.new.output)
    (text_of_answer (meant c.in-Some.answer r))) c.reply.ensures c.in-Ok.ensures.ok))

pub returns-in-Err-clause-spoken : goal.returns-in-Err-clause-spoken
returns-in-Err-clause-spoken g c = λ e.
    let reply = (g.E.StoreCalls.bytes c.make_steps.new.engine) in
    stammers_late e.files c.args.most c.make_steps.result reply (meant c.in-Some.answer reply)
    (g.H.Shelf.fault_count c.args.shelf.now)
    (g.E.StoreCalls.stays c.args.engine.now c.args.disk.now (origin_of e))
    (g.E.StoreCalls.stays c.make_steps.new.engine c.make_steps.new.disk (origin_of e))
    (c.in-Some.ensures.said reply) (λ w s stays. c.make_steps.ensures.makes w (origin_of e) s stays)
    c.make_steps.ensures.quiet c.make_steps.ensures.counted c.make_steps.ensures.finds
    (subst (λ (r : List ℕ). WritesPart (g.O.Output.written c.args.output.now) (g.O.Output.written c.say.new.output)
    (text_of_answer (meant c.in-Some.answer r))) c.reply.ensures c.in-Err.ensures.err)
