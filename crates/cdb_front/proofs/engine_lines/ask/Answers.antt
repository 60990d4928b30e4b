use Rattle.std.proofs.Common.{sym, subst}
use Rattle.cdb_model.specs.Events as machine
use Rattle.cdb_model.specs.Stores.{store_kind}
use Rattle.cdb_model.specs.Transitions.{TileLineIn}
use Rattle.cdb_engine.specs.Stays.{Stays}
use Rattle.cdb_engine.specs.Tracks.{Leads}
use Rattle.cdb_front.proofs.engine_lines.ask.Goals as goal

pub returns-clause-asks : goal.returns-clause-asks
returns-clause-asks g c = λ w origin s stays.
    subst (λ (a : machine.Answer). Leads (TileLineIn (store_kind w) s c.args.id c.args.tile.now a)
    (Stays g.D.Disk.tells g.D.Disk.clock g.D.Disk.fault_count g.D.Disk.since g.D.Disk.state origin c.tile.new.disk
    c.tile.new.self w))
    (sym (c.tile_answer.ensures.said c.tile.new.self.reply)) (c.tile.ensures.asks w origin s stays)
