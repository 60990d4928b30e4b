use Rattle.std.proofs.Common.{Result, sym, subst}
use Rattle.cdb_model.specs.Stores.{store_kind}
use Rattle.cdb_model.specs.Transitions.{OpenLineIn}
use Rattle.cdb_sessions.specs.declared.errors.SessionError.{SessionError}
use Rattle.cdb_engine.specs.Held.{Held, held_of}
use Rattle.cdb_engine.specs.StoreAnswers.{session_answer}
use Rattle.cdb_engine.specs.Stays.{Shows, ChangesAlike}
use Rattle.cdb_engine.specs.Tracks.{Leads}
use Rattle.cdb_engine.specs.declared.reply.Opened.{Opened}
use Rattle.cdb_engine.proofs.SessionTracks.{connects_ok, connects_err}
use Rattle.cdb_engine.proofs.engine.Engine.open_session.Goals as goal
use Rattle.cdb_engine.proofs.engine.Engine.open_session.Goals.{in-Ok, in-Err}

pub returns-clause-connects : goal.returns-clause-connects
returns-clause-connects c = λ w s shows.
    let old : Held =
    held_of c.self.inside.chain c.self.inside.work c.self.inside.pending.items c.self.inside.sessions
    c.self.inside.halted in
    let new : Held =
    held_of c.self.inside.chain c.self.inside.work c.self.inside.pending.items c.open.new.self c.self.inside.halted
    in
    let shown : Shows old w s = subst (λ (h : Held). Shows h w s) (sym c.self.view_is) shows in
    let Goal : Result Opened SessionError
    → Type 0 = λ r. Leads (OpenLineIn (store_kind w) s (session_answer r)) (ChangesAlike old new w s) in
    subst (λ (h : Held). Leads (OpenLineIn (store_kind w) s (session_answer c.match-open.result))
    (ChangesAlike h new w s)) c.self.view_is
    (elim c.match-open.branch [
      | in-Ok v ↦ subst Goal (sym v.result-is)
          (connects_ok c.self.inside.chain c.self.inside.work c.self.inside.pending.items c.self.inside.halted
          c.self.inside.sessions c.open.new.self c.open.ensures.still w s shown c.newest-version.result v.in-Ok.id
          c.newest-version.ensures.value v.in-Ok.ensures.opened)
      | in-Err v ↦ subst Goal (sym v.result-is)
          (connects_err c.self.inside.chain c.self.inside.work c.self.inside.pending.items c.self.inside.halted
          c.self.inside.sessions c.open.new.self c.open.ensures.still w s shown c.newest-version.result
          v.in-Err.error v.in-Err.ensures.opened)
    ])
