use Rattle.std.proofs.Common.{rules, ◌≡◌, ◌∙◌, List, w64, to_z, of_z, ap}
use Rattle.cdb_source.specs.declared.source.Source.{Source}
use Rattle.cdb_model.specs.KnownStore.{KnownState}
use Rattle.cdb_model.specs.Publications.{sources_of, sources_up_to}
use Rattle.cdb_model.specs.Stores.{known, store_kind}
use Rattle.cdb_engine.specs.Stays.{Stays}
use Rattle.cdb_engine.proofs.StayLaws.{stays_shows, stays_alike}
use Rattle.cdb_generate.specs.Sums.{tiles_sum}
use Rattle.cdb_engine.proofs.NewestLaws.{refused, unread, closed, all_sources, open_at_newest}
use Rattle.cdb_engine.proofs.tile_sums.sum_newest.Goals as goal

pub returns-in-Err-clause-sums : goal.returns-in-Err-clause-sums
returns-in-Err-clause-sums g c = λ w origin s stays at.
    let D = g.D.Disk in
    let d = c.args.disk.now in
    let led = c.in-Err.ensures.connects w s
    (stays_shows D.tells D.clock D.fault_count D.since D.state origin d c.args.engine.now w s stays) in
    refused (store_kind w) s c.in-Err.field-0
    (Stays D.tells D.clock D.fault_count D.since D.state origin d c.open_session.new.self w) at
    (record {
      next = led.next;
      step = led.step;
      now = stays_alike D.tells D.clock D.fault_count D.since D.state origin d c.args.engine.now
          c.open_session.new.self w s led.next stays led.now;
    })

pub returns-in-Err-sum_tiles-clause-sums : goal.returns-in-Err-sum_tiles-clause-sums
returns-in-Err-sum_tiles-clause-sums g c = λ w origin s stays at.
    let D = g.D.Disk in
    let d = c.args.disk.now in
    let led = c.in-Ok.ensures.connects w s
    (stays_shows D.tells D.clock D.fault_count D.since D.state origin d c.args.engine.now w s stays) in
    let there = stays_alike D.tells D.clock D.fault_count D.since D.state origin d c.args.engine.now
    c.open_session.new.self w s led.next stays led.now in
    unread w s led.next c.in-Ok.opened.id c.in-Ok.opened.version at led.step c.in-Err-sum_tiles.error
    (Stays D.tells D.clock D.fault_count D.since D.state origin c.sum_tiles.new.disk c.sum_tiles.new.engine w)
    (c.in-Err-sum_tiles.ensures.asks w origin led.next there)

pub returns-clause-sums : goal.returns-clause-sums
returns-clause-sums g c = λ w origin s stays at.
    let D = g.D.Disk in
    let d = c.args.disk.now in
    let e = c.sum_tiles.new.disk in
    let led = c.in-Ok.ensures.connects w s
    (stays_shows D.tells D.clock D.fault_count D.since D.state origin d c.args.engine.now w s stays) in
    let there = stays_alike D.tells D.clock D.fault_count D.since D.state origin d c.args.engine.now
    c.open_session.new.self w s led.next stays led.now in
    let read = c.in-Ok-sum_tiles.ensures.asks w origin led.next there in
    let end = c.close_session-closed.ensures.disconnects w led.next
    (stays_shows D.tells D.clock D.fault_count D.since D.state origin e c.sum_tiles.new.engine w led.next read) in
    closed (store_kind w) s led.next c.in-Ok.opened.id c.in-Ok.opened.version at led.step c.close_session-closed.result
    (Stays D.tells D.clock D.fault_count D.since D.state origin e c.close_session-closed.new.self w)
    (record {
      next = end.next;
      step = end.step;
      now = stays_alike D.tells D.clock D.fault_count D.since D.state origin e c.sum_tiles.new.engine
          c.close_session-closed.new.self w led.next end.next read end.now;
    })

pub returns-clause-sum : goal.returns-clause-sum
returns-clause-sum g c = λ origin s stays at reached.
    let D = g.D.Disk in
    let d = c.args.disk.now in
    let tiles = c.args.tiles.now in
    let led = c.in-Ok.ensures.connects known s
    (stays_shows D.tells D.clock D.fault_count D.since D.state origin d c.args.engine.now known s stays) in
    let there = stays_alike D.tells D.clock D.fault_count D.since D.state origin d c.args.engine.now
    c.open_session.new.self known s led.next stays led.now in
    let version = c.in-Ok.opened.version in
    let sum = c.in-Ok-sum_tiles.ensures.sum origin led.next version there
    (open_at_newest s led.next c.in-Ok.opened.id version tiles at led.step reached) in
    let noise : to_z w64 (of_z w64 c.in-Ok-sum_tiles.sum) ≡ c.in-Ok-sum_tiles.sum = search rules in
    let list : led.next.list ≡ s.list = ap (λ (n : KnownState). n.list) led.step.next in
    let ss : sources_up_to version led.next.list ≡ sources_of s.list =
    ap (sources_up_to version) list ∙ all_sources s.list version led.step.version_is in
    noise ∙ sum ∙ ap (λ (all : List Source). tiles_sum all tiles) ss
