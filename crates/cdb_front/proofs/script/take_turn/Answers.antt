use Rattle.std.proofs.Common.{ℕ, subst, sym, arith, take, []}
use Rattle.std.specs.Io.KnownBytes.{Consumes}
use Rattle.std.proofs.KnownBytes.{Consumes-nil, Consumes-kept}
use Rattle.cdb_front.specs.RunProgress.{origin_of}
use Rattle.cdb_front.proofs.RunEnds.{reading_more, stops_quit, stops_broken, stops_input}
use Rattle.cdb_front.proofs.script.take_turn.Goals as goal

pub returns-then-count-eq0-clause-turn : goal.returns-then-count-eq0-clause-turn
returns-then-count-eq0-clause-turn g c = λ e left taken same most few room small reading.
    c.take_end.ensures.stops e left (g.I.Input.left c.args.input.now) (g.I.Input.left c.read.new.self) taken same
    most few reading
    (subst (λ (n : ℕ). Consumes (g.I.Input.left c.args.input.now) (g.I.Input.left c.read.new.self)
    (take n c.read.new.into)) c.if-count-eq0.true c.in-Ok.ensures.bytes.0)
    (c.in-Ok.ensures.bytes.1 c.if-count-eq0.true (omega (arith, c.read.auto.into)))

pub returns-in-More-clause-turn : goal.returns-in-More-clause-turn
returns-in-More-clause-turn g c = λ e left taken same most few room small reading.
    reading_more (g.I.Input.left c.read.new.self) c.in-Ok.count c.split_at.result.0.now reading
    (subst (Consumes (g.I.Input.left c.args.input.now) (g.I.Input.left c.read.new.self))
    (sym c.split_at.ensures.front) c.in-Ok.ensures.bytes.0) c.split_at.ensures.front_len
    (c.in-More.ensures.piece e reading.read same most reading.sofar)

pub returns-in-Quit-clause-turn : goal.returns-in-Quit-clause-turn
returns-in-Quit-clause-turn g c = λ e left taken same most few room small reading.
    stops_quit (g.I.Input.left c.read.new.self) (g.O.Output.written c.take_piece.new.output)
    (g.H.Shelf.fault_count c.take_piece.new.shelf) (g.D.Disk.fault_count c.take_piece.new.disk)
    (g.E.StoreCalls.stays c.take_piece.new.engine c.take_piece.new.disk (origin_of e)) c.split_at.result.0.now
    reading (subst (Consumes (g.I.Input.left c.args.input.now) (g.I.Input.left c.read.new.self))
    (sym c.split_at.ensures.front) c.in-Ok.ensures.bytes.0) (omega (arith, room, c.split_at.ensures.front_len))
    (omega (arith, small, c.split_at.ensures.front_len))
    (c.in-Quit.ensures.piece e reading.read same most reading.sofar)

pub returns-in-Failed-clause-turn : goal.returns-in-Failed-clause-turn
returns-in-Failed-clause-turn g c = λ e left taken same most few room small reading.
    stops_broken (g.I.Input.left c.read.new.self) (g.O.Output.written c.take_piece.new.output)
    (g.H.Shelf.fault_count c.take_piece.new.shelf) (g.D.Disk.fault_count c.take_piece.new.disk)
    (g.E.StoreCalls.stays c.take_piece.new.engine c.take_piece.new.disk (origin_of e)) c.split_at.result.0.now
    reading (subst (Consumes (g.I.Input.left c.args.input.now) (g.I.Input.left c.read.new.self))
    (sym c.split_at.ensures.front) c.in-Ok.ensures.bytes.0) (omega (arith, room, c.split_at.ensures.front_len))
    (omega (arith, small, c.split_at.ensures.front_len))
    (c.in-Failed.ensures.piece e reading.read same most reading.sofar)

pub returns-in-Err-clause-turn : goal.returns-in-Err-clause-turn
returns-in-Err-clause-turn g c = λ e left taken same most few room small reading. stops_input
    (g.I.Input.left c.read.new.self) reading (Consumes-kept (g.I.Input.left c.args.input.now)
    (g.I.Input.left c.args.input.now) (g.I.Input.left c.read.new.self) []
    (Consumes-nil (g.I.Input.left c.args.input.now)) c.in-Err.ensures.bytes) few
