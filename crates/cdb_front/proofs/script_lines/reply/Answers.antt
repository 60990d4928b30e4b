use Rattle.std.proofs.Common.{ℕ, List, subst}
use Rattle.std.specs.Io.KnownBytes.{Appends}
use Rattle.cdb_model.specs.AnswerTexts.{text_of_answer}
use Rattle.cdb_front.specs.Devices.{WritesPart}
use Rattle.cdb_front.proofs.RunProgress.{speaks_line, stammers_line}
use Rattle.cdb_front.specs.AnswerMeanings.{meant}
use Rattle.cdb_front.specs.RunProgress.{origin_of}
use Rattle.cdb_front.proofs.script_lines.reply.Goals as goal

pub returns-in-Ok-clause-spoken : goal.returns-in-Ok-clause-spoken
returns-in-Ok-clause-spoken g c = λ e command says same.
    speaks_line (g.H.Shelf.files c.args.shelf.now) e.files command
    (meant c.answer-answer.result (g.E.StoreCalls.bytes c.answer-answer.new.engine))
    (g.E.StoreCalls.stays c.args.engine.now c.args.disk.now (origin_of e))
    (g.E.StoreCalls.stays c.answer-answer.new.engine c.answer-answer.new.disk (origin_of e))
    same (λ w s stays. c.answer-answer.ensures.turn w (origin_of e) s command says stays)
    c.answer-answer.ensures.shelf_counted c.answer-answer.ensures.disk_counted c.answer-answer.ensures.finds
    (subst (λ (r : List ℕ). Appends (g.O.Output.written c.args.output.now) (g.O.Output.written c.say.new.output)
    (text_of_answer (meant c.answer-answer.result r))) c.reply.ensures c.in-Ok.ensures.ok)

pub returns-in-Err-clause-spoken : goal.returns-in-Err-clause-spoken
returns-in-Err-clause-spoken g c = λ e command says same.
    stammers_line (g.H.Shelf.files c.args.shelf.now) e.files command
    (meant c.answer-answer.result (g.E.StoreCalls.bytes c.answer-answer.new.engine))
    (g.E.StoreCalls.stays c.args.engine.now c.args.disk.now (origin_of e))
    (g.E.StoreCalls.stays c.answer-answer.new.engine c.answer-answer.new.disk (origin_of e))
    same (λ w s stays. c.answer-answer.ensures.turn w (origin_of e) s command says stays)
    c.answer-answer.ensures.shelf_counted c.answer-answer.ensures.disk_counted c.answer-answer.ensures.finds
    (subst (λ (r : List ℕ). WritesPart (g.O.Output.written c.args.output.now) (g.O.Output.written c.say.new.output)
    (text_of_answer (meant c.answer-answer.result r))) c.reply.ensures c.in-Err.ensures.err)
