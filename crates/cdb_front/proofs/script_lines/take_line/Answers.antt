use Rattle.cdb_front.specs.RunProgress.{origin_of}
use Rattle.cdb_model.specs.Runs.{items_of}
use Rattle.cdb_front.proofs.RunProgress.{line_blank, line_quit, takes_event}
use Rattle.cdb_front.proofs.script_lines.take_line.Goals as goal

pub returns-in-Blank-clause-line : goal.returns-in-Blank-clause-line
returns-in-Blank-clause-line g c = λ e read same most sofar. line_blank c.in-Blank.ensures.said sofar

pub returns-in-Quit-clause-line : goal.returns-in-Quit-clause-line
returns-in-Quit-clause-line g c = λ e read same most sofar. line_quit c.in-Quit.ensures.said sofar

pub returns-in-Event-clause-line : goal.returns-in-Event-clause-line
returns-in-Event-clause-line g c = λ e read same most sofar.
    takes_event c.answer_event.result (g.O.Output.written c.answer_event.new.output)
    (g.H.Shelf.fault_count c.answer_event.new.shelf) (g.D.Disk.fault_count c.answer_event.new.disk)
    (g.E.StoreCalls.stays c.answer_event.new.engine c.answer_event.new.disk (origin_of e))
    c.in-Event.asked c.in-Event.ensures.heard c.in-Event.ensures.said sofar
    (λ command says. c.answer_event.ensures.told e (items_of e.most sofar.lines) command says same most sofar.told)
