use Rattle.std.proofs.Common.{sym, subst}
use Rattle.cdb_model.specs.Events as machine
use Rattle.cdb_model.specs.Stores.{store_kind}
use Rattle.cdb_model.specs.Transitions.{PublishLineIn}
use Rattle.cdb_engine.specs.Stays.{Stays}
use Rattle.cdb_engine.specs.Tracks.{Leads}
use Rattle.cdb_front.proofs.engine_lines.publish.Goals as goal

pub returns-clause-begins : goal.returns-clause-begins
returns-clause-begins g c = λ w origin s stays.
    subst (λ (a : machine.Answer). Leads (PublishLineIn (store_kind w) s a)
    (Stays g.D.Disk.tells g.D.Disk.clock g.D.Disk.fault_count g.D.Disk.since g.D.Disk.state origin
    c.publish.new.disk c.publish.new.self w))
    (sym (c.publish_answer.ensures.said c.publish.new.self.reply)) (c.publish.ensures.begins w origin s stays)
