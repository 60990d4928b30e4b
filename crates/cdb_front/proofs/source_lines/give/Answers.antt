use Rattle.std.proofs.Common.{Err, ap, ◌∙◌}
use Rattle.cdb_model.specs.Grammar.{inline_in}
use Rattle.cdb_front.specs.AnswerMeanings.{meant}
use Rattle.cdb_front.proofs.Giving.{ready_gives, inline_gives}
use Rattle.cdb_front.proofs.source_lines.give.Goals as goal

pub returns-in-Err-clause-gives : goal.returns-in-Err-clause-gives
returns-in-Err-clause-gives c = λ w s shows.
    ready_gives c.args.engine.now c.in-Err.error (meant c.ready_refusal.result c.args.engine.now.reply)
    (c.ready_refusal.ensures.said c.args.engine.now.reply) c.in-Err.ensures.gives w s (inline_in c.args.words.now) shows

pub returns-in-Ok-clause-gives : goal.returns-in-Ok-clause-gives
returns-in-Ok-clause-gives c = λ w s shows.
    c.submit.ensures.gives w s (inline_in c.args.words.now) shows (c.in_default.ensures.ok w s shows)
    c.in-Ok.ensures.spelled

pub returns-in-Err-inline-clause-gives : goal.returns-in-Err-inline-clause-gives
returns-in-Err-inline-clause-gives c =
    inline_gives c.args.engine.now c.in-Err-inline.error (meant c.inline_refusal.result c.args.engine.now.reply)
    (inline_in c.args.words.now)
    (c.inline_refusal.ensures.said c.args.engine.now.reply)
    (λ e. c.inline.ensures.range (c.in-Err-inline.is ∙ ap Err e))
    (λ w s shows. c.in_default.ensures.ok w s shows)
