use Rattle.cdb_front.specs.RunProgress.{IsQuit, IsNotQuit, origin_of}
use Rattle.cdb_front.proofs.RunEnds.{stops_done, stops_broken_at_end}
use Rattle.cdb_front.proofs.script.take_end.Goals as goal

pub returns-in-More-clause-stops : goal.returns-in-More-clause-stops
returns-in-More-clause-stops g c = λ e left now end taken same most room reading none at_end. stops_done IsNotQuit end
    (g.O.Output.written c.take_line.new.output) (g.H.Shelf.fault_count c.take_line.new.shelf)
    (g.D.Disk.fault_count c.take_line.new.disk)
    (g.E.StoreCalls.stays c.take_line.new.engine c.take_line.new.disk (origin_of e)) reading none room at_end
    (c.in-More.ensures.line e reading.read same most reading.sofar)

pub returns-in-Quit-clause-stops : goal.returns-in-Quit-clause-stops
returns-in-Quit-clause-stops g c = λ e left now end taken same most room reading none at_end. stops_done IsQuit end
    (g.O.Output.written c.take_line.new.output) (g.H.Shelf.fault_count c.take_line.new.shelf)
    (g.D.Disk.fault_count c.take_line.new.disk)
    (g.E.StoreCalls.stays c.take_line.new.engine c.take_line.new.disk (origin_of e)) reading none room at_end
    (c.in-Quit.ensures.line e reading.read same most reading.sofar)

pub returns-in-Failed-clause-stops : goal.returns-in-Failed-clause-stops
returns-in-Failed-clause-stops g c = λ e left now end taken same most room reading none at_end. stops_broken_at_end end
    (g.O.Output.written c.take_line.new.output) (g.H.Shelf.fault_count c.take_line.new.shelf)
    (g.D.Disk.fault_count c.take_line.new.disk)
    (g.E.StoreCalls.stays c.take_line.new.engine c.take_line.new.disk (origin_of e)) reading none room at_end
    (c.in-Failed.ensures.line e reading.read same most reading.sofar)
