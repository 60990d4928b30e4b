use Rattle.std.proofs.Common.{rules, ◌≡◌, ◌∙◌, Ok, Err, sym, w64, to_z, of_z}
use Rattle.cdb_model.specs.Publications.{sources_up_to}
use Rattle.cdb_model.specs.Stores.{known}
use Rattle.cdb_engine.specs.Stays.{Stays}
use Rattle.cdb_engine.proofs.AskLaws.{asks_by, asks_again, bytes_at}
use Rattle.cdb_engine.proofs.tile_sums.sum_tile.Goals as goal

pub returns-in-Ok-clause-asks : goal.returns-in-Ok-clause-asks
returns-in-Ok-clause-asks g c = λ w origin s stays.
    let D = g.D.Disk in
    asks_by w s c.args.id c.args.tile.now c.tile.new.self.reply
    (Stays D.tells D.clock D.fault_count D.since D.state origin c.tile.new.disk c.tile.new.self w)
    c.tile.result (Ok tt) c.in-Ok.ensures.asked (c.tile.ensures.asks w origin s stays)

pub returns-in-Err-clause-asks : goal.returns-in-Err-clause-asks
returns-in-Err-clause-asks g c = λ w origin s stays.
    let D = g.D.Disk in
    asks_again w c.in-Err.error
    (Stays D.tells D.clock D.fault_count D.since D.state origin c.tile.new.disk c.tile.new.self w s)
    (asks_by w s c.args.id c.args.tile.now c.tile.new.self.reply
    (Stays D.tells D.clock D.fault_count D.since D.state origin c.tile.new.disk c.tile.new.self w)
    c.tile.result (Err c.in-Err.error) c.in-Err.ensures.asked (c.tile.ensures.asks w origin s stays))

pub returns-in-Ok-clause-sum : goal.returns-in-Ok-clause-sum
returns-in-Ok-clause-sum g c = λ origin s version stays at.
    let D = g.D.Disk in
    let e : to_z w64 (of_z w64 c.sum_of_file.result) ≡ c.sum_of_file.result = search rules in
    e ∙ c.sum_of_file.ensures.sum (sources_up_to version s.list)
    (c.reply.ensures ∙ bytes_at s c.args.id version c.args.tile.now c.tile.new.self.reply
    (Stays D.tells D.clock D.fault_count D.since D.state origin c.tile.new.disk c.tile.new.self known)
    c.tile.result (sym c.in-Ok.ensures.asked) at (c.tile.ensures.asks known origin s stays))
