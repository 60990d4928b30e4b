use Rattle.cdb_front.proofs.Walk.{hasten_turn, complete_turn}
use Rattle.cdb_front.specs.AnswerMeanings.{meant}
use Rattle.cdb_front.specs.RunProgress.{Holds}
use Rattle.cdb_model.specs.Stores.{store_kind}
use Rattle.cdb_front.proofs.script_lines.answer_line.Goals as goal

pub returns-in-Step-clause-turn : goal.returns-in-Step-clause-turn
returns-in-Step-clause-turn g c = λ w origin s stays.
    hasten_turn (store_kind w) (Holds g.H.Shelf.tells (g.H.Shelf.files c.args.shelf.now)) c.args.line c.in-Step.most
    (meant c.hasten.result (g.E.StoreCalls.bytes c.hasten.new.engine))
    c.in-Step.is (c.hasten.ensures.hastens w origin s stays)

pub returns-in-StepAll-clause-turn : goal.returns-in-StepAll-clause-turn
returns-in-StepAll-clause-turn g c = λ w origin s stays.
    complete_turn (store_kind w) (Holds g.H.Shelf.tells (g.H.Shelf.files c.args.shelf.now)) c.args.line
    (meant c.complete.result (g.E.StoreCalls.bytes c.complete.new.engine))
    c.in-StepAll.is (c.complete.ensures.completes w origin s stays)
