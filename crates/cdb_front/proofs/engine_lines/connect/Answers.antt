use Rattle.std.proofs.Common.{sym, subst}
use Rattle.cdb_model.specs.Events as machine
use Rattle.cdb_model.specs.Stores.{store_kind}
use Rattle.cdb_model.specs.Transitions.{OpenLineIn}
use Rattle.cdb_engine.specs.Stays.{ChangesAlike}
use Rattle.cdb_engine.specs.Tracks.{Leads}
use Rattle.cdb_front.proofs.engine_lines.connect.Goals as goal

pub returns-clause-connects : goal.returns-clause-connects
returns-clause-connects c = λ w s shows.
    subst (λ (a : machine.Answer). Leads (OpenLineIn (store_kind w) s a)
    (ChangesAlike c.args.engine.now c.open_session.new.self w s))
    (sym (c.session_answer.ensures.said c.open_session.new.self.reply)) (c.open_session.ensures.connects w s shows)
