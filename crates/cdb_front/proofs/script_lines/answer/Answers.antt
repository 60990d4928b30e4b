use Rattle.std.proofs.Common.{subst}
use Rattle.cdb_front.proofs.Walk.{long_turn, syntax_turn, name_turn, line_turn}
use Rattle.cdb_front.specs.AnswerMeanings.{meant}
use Rattle.cdb_front.specs.Hearing.{SaysAsked}
use Rattle.cdb_front.specs.RunProgress.{Holds}
use Rattle.cdb_model.specs.Stores.{store_kind}
use Rattle.cdb_front.specs.declared.heard.Asked.{Asked}
use Rattle.cdb_front.proofs.script_lines.answer.Goals as goal

pub returns-in-Line-clause-turn : goal.returns-in-Line-clause-turn
returns-in-Line-clause-turn g c = λ w origin s command says stays.
    line_turn (store_kind w) (Holds g.H.Shelf.tells (g.H.Shelf.files c.args.shelf.now))
    c.args.asked c.in-Line.line command
    (meant c.answer_line.result (g.E.StoreCalls.bytes c.answer_line.new.engine)) c.in-Line.is says
    (c.answer_line.ensures.turn w origin s stays)

pub returns-in-Long-clause-turn : goal.returns-in-Long-clause-turn
returns-in-Long-clause-turn g c = λ w origin s command says stays.
    long_turn (store_kind w) (Holds g.H.Shelf.tells (g.H.Shelf.files c.args.shelf.now)) command
    (subst (λ (x : Asked). SaysAsked x command) c.in-Long.is says) stays

pub returns-in-Syntax-clause-turn : goal.returns-in-Syntax-clause-turn
returns-in-Syntax-clause-turn g c = λ w origin s command says stays.
    syntax_turn (store_kind w) (Holds g.H.Shelf.tells (g.H.Shelf.files c.args.shelf.now)) command
    (subst (λ (x : Asked). SaysAsked x command) c.in-Syntax.is says) stays

pub returns-in-Name-clause-turn : goal.returns-in-Name-clause-turn
returns-in-Name-clause-turn g c = λ w origin s command says stays.
    name_turn (store_kind w) (Holds g.H.Shelf.tells (g.H.Shelf.files c.args.shelf.now)) command c.in-Name.place
    (subst (λ (x : Asked). SaysAsked x command) c.in-Name.is says) stays
