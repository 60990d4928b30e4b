use Rattle.std.proofs.Common.{sym, subst}
use Rattle.cdb_sessions.specs.Sessions.{TileOutcome, AreCurrent, ServesCurrent}
use Rattle.cdb_engine.specs.Held.{Held, held_of, sessions_part}
use Rattle.cdb_engine.specs.Stays.{Stays}
use Rattle.cdb_engine.proofs.OtherLaws.{tile_other}
use Rattle.cdb_engine.proofs.TileTracks.{asks_then}
use Rattle.cdb_engine.proofs.engine.Engine.tile.Goals as goal

pub returns-clause-asks : goal.returns-clause-asks
returns-clause-asks g c = λ w origin s stays.
    let old : Held =
    held_of c.self.inside.chain c.self.inside.work c.self.inside.pending.items c.self.inside.sessions
    c.self.inside.halted in
    asks_then g.D.Disk.tells g.D.Disk.clock g.D.Disk.fault_count g.D.Disk.since g.D.Disk.state c.args.disk.now
    c.tile.new.disk c.self.inside.chain c.self.inside.work c.self.inside.pending.items c.self.inside.halted
    c.args.id c.args.tile.now
    c.self.inside.sessions c.tile.new.self c.tile.result c.tile.ensures.open c.tile.ensures.served
    c.tile.ensures.current
    (g.met.D.Disk.present_possible c.args.disk.now) c.tile.ensures.state c.tile.ensures.time
    c.tile.ensures.later w origin s
    (subst (λ (h : Held). Stays g.D.Disk.tells g.D.Disk.clock g.D.Disk.fault_count g.D.Disk.since g.D.Disk.state origin
    c.args.disk.now h w s) (sym c.self.view_is) stays)

pub returns-clause-served : goal.returns-clause-served
returns-clause-served g c =
    subst (λ (h : Held). TileOutcome g.D.Disk.tells
    (g.D.Disk.state c.args.disk.now).present c.args.disk.now c.tile.new.disk h.chain c.args.id c.args.tile.now
    (sessions_part h) c.tile.new.self c.tile.result)
    c.self.view_is c.tile.ensures.served

pub returns-clause-current : goal.returns-clause-current
returns-clause-current g c =
    subst (λ (h : Held). g.D.Disk.tells → AreCurrent (g.D.Disk.state c.args.disk.now).present h.kept
    → ServesCurrent
    (g.D.Disk.state c.args.disk.now).present h.sessions h.chain c.args.id c.args.tile.now c.tile.new.self
    c.tile.result)
    c.self.view_is c.tile.ensures.current

pub returns-clause-other : goal.returns-clause-other
returns-clause-other g c =
    tile_other g.D.Disk.tells (g.D.Disk.state c.args.disk.now).present c.args.disk.now c.tile.new.disk
    c.self.inside.chain c.args.id c.args.tile.now c.self.inside.sessions c.tile.new.self c.tile.result
    c.tile.ensures.served
