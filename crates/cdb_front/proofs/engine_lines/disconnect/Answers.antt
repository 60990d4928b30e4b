use Rattle.std.proofs.Common.{sym, subst}
use Rattle.cdb_model.specs.Events as machine
use Rattle.cdb_model.specs.Stores.{store_kind}
use Rattle.cdb_model.specs.Transitions.{CloseLineIn}
use Rattle.cdb_engine.specs.Stays.{ChangesAlike}
use Rattle.cdb_engine.specs.Tracks.{Leads}
use Rattle.cdb_front.proofs.engine_lines.disconnect.Goals as goal

pub returns-clause-disconnects : goal.returns-clause-disconnects
returns-clause-disconnects c = λ w s shows.
    subst (λ (a : machine.Answer). Leads (CloseLineIn (store_kind w) s c.args.id a)
    (ChangesAlike c.args.engine.now c.close_session.new.self w s))
    (sym (c.close_answer.ensures.said c.close_session.new.self.reply)) (c.close_session.ensures.disconnects w s shows)
