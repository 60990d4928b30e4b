use Rattle.std.proofs.Common.{◌≡◌, ◌++◌, take, sym, ◌∙◌}
use Rattle.cdb_front.specs.RunProgress.{Answered, IsQuit, Broken, origin_of}
use Rattle.cdb_front.proofs.RunProgress.{stops_at}
use Rattle.cdb_front.specs.declared.fed.Fed.TheVariants as fed
use Rattle.cdb_front.proofs.script_lines.take_piece.Goals as goal

pub returns-in-Quit-clause-piece : goal.returns-in-Quit-clause-piece
returns-in-Quit-clause-piece g c = λ e read same most sofar.
    stops_at (λ bytes. Answered g.H.Shelf.tells e IsQuit bytes (g.O.Output.written c.take_byte.new.output)
    (g.H.Shelf.fault_count c.take_byte.new.shelf) (g.D.Disk.fault_count c.take_byte.new.disk)
    (g.E.StoreCalls.stays c.take_byte.new.engine c.take_byte.new.disk (origin_of e)))
    c.args.piece.now read c.loop-byte.byte-index 0 c.loop-byte-test.true
    (c.take_byte.ensures.feed (λ q. let no : fed.Quit ≡ fed.More = sym c.in-Quit.is ∙ q in cc))
    (c.in-Quit.ensures.byte e (read ++ take c.loop-byte.byte-index c.args.piece.now)
    (c.loop-byte.invariant.files ∙ same) most (c.loop-byte.invariant.piece e read same most sofar))

pub returns-in-Failed-clause-piece : goal.returns-in-Failed-clause-piece
returns-in-Failed-clause-piece g c = λ e read same most sofar.
    stops_at (λ bytes. Broken g.H.Shelf.tells e bytes (g.O.Output.written c.take_byte.new.output)
    (g.H.Shelf.fault_count c.take_byte.new.shelf) (g.D.Disk.fault_count c.take_byte.new.disk)
    (g.E.StoreCalls.stays c.take_byte.new.engine c.take_byte.new.disk (origin_of e)))
    c.args.piece.now read c.loop-byte.byte-index 0 c.loop-byte-test.true
    (c.take_byte.ensures.feed (λ q. let no : fed.Failed ≡ fed.More = sym c.in-Failed.is ∙ q in cc))
    (c.in-Failed.ensures.byte e (read ++ take c.loop-byte.byte-index c.args.piece.now)
    (c.loop-byte.invariant.files ∙ same) most (c.loop-byte.invariant.piece e read same most sofar))
