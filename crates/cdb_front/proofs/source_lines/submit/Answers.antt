use Rattle.cdb_front.proofs.Giving.{submit_gives, submit_loads}
use Rattle.cdb_front.proofs.source_lines.submit.Goals as goal

pub returns-clause-gives : goal.returns-clause-gives
returns-clause-gives c =
    submit_gives c.args.engine.now c.submit.new.self c.args.source c.submit.result c.submit_answer.result
    c.submit.new.self.reply
    c.submit.ensures.number c.submit.ensures.next c.submit.ensures.err c.submit_answer.ensures.ok
    c.submit_answer.ensures.err

pub returns-clause-loads : goal.returns-clause-loads
returns-clause-loads c =
    submit_loads c.args.engine.now c.submit.new.self c.args.source c.submit.result c.submit_answer.result
    c.submit.new.self.reply
    c.submit.ensures.number c.submit.ensures.next c.submit.ensures.err c.submit_answer.ensures.ok
    c.submit_answer.ensures.err
