use Rattle.cdb_model.specs.Grammar.{file_in}
use Rattle.cdb_front.specs.AnswerMeanings.{meant}
use Rattle.cdb_front.proofs.Giving.{ready_loads, refused_loads, made_loads}
use Rattle.cdb_front.proofs.source_lines.load.Goals as goal

pub returns-in-Err-clause-loads : goal.returns-in-Err-clause-loads
returns-in-Err-clause-loads g c = λ w s shows.
    ready_loads g.H.Shelf.tells (g.H.Shelf.files c.args.shelf.now) c.args.engine.now c.in-Err.error
    (meant c.ready_refusal.result c.args.engine.now.reply)
    (c.ready_refusal.ensures.said c.args.engine.now.reply) c.in-Err.ensures.loads w s (file_in c.args.words.now) shows

pub returns-in-Ok-clause-loads : goal.returns-in-Ok-clause-loads
returns-in-Ok-clause-loads g c =
    made_loads g.H.Shelf.tells (g.H.Shelf.files c.args.shelf.now) c.args.engine.now c.submit.new.engine
    (file_in c.args.words.now) c.in-Ok.source
    (meant c.submit.result c.submit.new.engine.reply) c.in-Ok.ensures.loads
    (λ w s shows. c.in_default.ensures.ok w s shows) c.submit.ensures.loads

pub returns-in-Err-load-clause-loads : goal.returns-in-Err-load-clause-loads
returns-in-Err-load-clause-loads g c =
    refused_loads g.H.Shelf.tells (g.H.Shelf.files c.args.shelf.now) c.args.engine.now c.in-Err-load.error
    (meant c.load_refusal.result c.args.engine.now.reply) (file_in c.args.words.now)
    (c.load_refusal.ensures.said c.args.engine.now.reply)
    c.in-Err-load.ensures.loads (λ w s shows. c.in_default.ensures.ok w s shows)
