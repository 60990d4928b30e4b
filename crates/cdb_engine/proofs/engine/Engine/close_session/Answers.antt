use Rattle.std.proofs.Common.{sym, subst}
use Rattle.cdb_model.specs.Stores.{store_kind}
use Rattle.cdb_model.specs.Transitions.{CloseLineIn}
use Rattle.cdb_engine.specs.Held.{Held, held_of}
use Rattle.cdb_engine.specs.StoreAnswers.{close_answer}
use Rattle.cdb_engine.specs.Stays.{Shows, ChangesAlike}
use Rattle.cdb_engine.specs.Tracks.{Leads}
use Rattle.cdb_engine.proofs.SessionTracks.{disconnects}
use Rattle.cdb_engine.proofs.engine.Engine.close_session.Goals as goal

pub returns-clause-disconnects : goal.returns-clause-disconnects
returns-clause-disconnects c = λ w s shows.
    let new : Held =
    held_of c.self.inside.chain c.self.inside.work c.self.inside.pending.items c.close.new.self
    c.self.inside.halted in
    subst (λ (h : Held). Leads (CloseLineIn (store_kind w) s c.args.id (close_answer c.close.result))
    (ChangesAlike h new w s)) c.self.view_is
    (disconnects c.self.inside.chain c.self.inside.work c.self.inside.pending.items c.self.inside.halted
    c.self.inside.sessions c.close.new.self c.close.ensures.still w s
    (subst (λ (h : Held). Shows h w s) (sym c.self.view_is) shows) c.args.id c.close.result c.close.ensures.closed)
