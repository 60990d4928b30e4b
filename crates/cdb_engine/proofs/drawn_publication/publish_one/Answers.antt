use Rattle.std.proofs.Common.{rules, ◌≡◌, ◌≤◌, ◌∙◌, ℤ, List, length, w64, to_z, of_z, sym, ap, subst, refl, arith}
use Rattle.std.specs.Prelude.{All}
use Rattle.cdb_grid.specs.declared.tile.Tile.{Tile}
use Rattle.cdb_source.specs.Reached.{Reached, IsTouched}
use Rattle.cdb_model.specs.Publications.{sources_of, heads_of}
use Rattle.cdb_model.specs.Stores.{store_kind}
use Rattle.cdb_model.proofs.OneLists.{one_touched}
use Rattle.cdb_generate.specs.Sums.{tiles_sum}
use Rattle.cdb_engine.specs.OtherSizes.{FillFindsOther}
use Rattle.cdb_engine.specs.Populating.{IsSumAt}
use Rattle.cdb_source.specs.declared.source.Source.{Source}
use Rattle.cdb_engine.specs.Stays.{Stays}
use Rattle.cdb_engine.proofs.StayLaws.{stays_shows, stays_alike}
use Rattle.cdb_generate.proofs.LoadLaws.{drawn_fits}
use Rattle.cdb_engine.proofs.PublishLaws.{not_yet, pending_only, pending_here, refused_begin, begun}
use Rattle.cdb_engine.proofs.PublishLaws.{published, rests, failed_finish, failed_sum, sum_at, reached_at, all_done}
use Rattle.cdb_engine.proofs.drawn_publication.publish_one.Goals as goal
use Rattle.cdb_tiff_read.proofs.Rows.{map_none}

pub returns-in_default-clause-publishes : goal.returns-in_default-clause-publishes
returns-in_default-clause-publishes g c = λ w origin s stays at.
    not_yet w s c.args.state.now at _ s _ refl refl at.going at.halted stays

pub returns-in_default-touched_tiles-clause-publishes : goal.returns-in_default-touched_tiles-clause-publishes
returns-in_default-touched_tiles-clause-publishes g c = λ w origin s stays at.
    not_yet w s c.args.state.now at _ s _ refl refl at.going at.halted stays

pub submit_all-requires-clause-running : goal.submit_all-requires-clause-running
submit_all-requires-clause-running g c = map_none _ c.args.engine.now.halted c.requires.rest.halted

pub submit_all-requires-clause-idle : goal.submit_all-requires-clause-idle
submit_all-requires-clause-idle g c = map_none _ c.args.engine.now.work c.requires.rest.going

pub submit_all-requires-clause-room : goal.submit_all-requires-clause-room
submit_all-requires-clause-room g c =
    let none : length c.args.engine.now.pending ≡ 0 = ap length c.requires.rest.pending in
    let few : length c.in-Ok.sources.items ≤ 3 =
    drawn_fits.few c.args.state.now c.in-Ok.sources.items c.in-Ok.ensures.sources in
    omega (arith, none, few)

pub returns-in-Err-clause-publishes : goal.returns-in-Err-clause-publishes
returns-in-Err-clause-publishes g c = λ w origin s stays at.
    let D = g.D.Disk in
    let d = c.args.disk.now in
    let old = c.args.engine.now in
    let new = c.submit_all.new.engine in
    let shows = stays_shows D.tells D.clock D.fault_count D.since D.state origin d old w s stays in
    let now = stays_alike D.tells D.clock D.fault_count D.since D.state origin d old new w s (record s {
      pending =
          new.pending;
    }) stays
    (pending_only old new w s shows c.submit_all.ensures.same) in
    not_yet w s c.args.state.now at c.in-Err.error (record s { pending = new.pending })
    (Stays D.tells D.clock D.fault_count D.since D.state origin d new w) c.in-Err.ensures.memory refl at.going
    at.halted now

pub returns-in-Err-clause-other : goal.returns-in-Err-clause-other
returns-in-Err-clause-other g c = subst FillFindsOther (sym c.in-Err.ensures.memory) tt

pub returns-in-Err-begin_drawn-clause-publishes : goal.returns-in-Err-begin_drawn-clause-publishes
returns-in-Err-begin_drawn-clause-publishes g c = λ w origin s stays at.
    let D = g.D.Disk in
    let d = c.args.disk.now in
    let sources = c.in-Ok.sources.items in
    let drawn = c.in-Ok.ensures.sources in
    let mid = pending_here D.tells D.clock D.fault_count D.since D.state origin d c.args.engine.now
    c.submit_all.new.engine w s sources stays at.pending
    c.submit_all.ensures.same c.in-Ok-submit_all.ensures.next in
    refused_begin w s c.args.state.now at sources drawn c.in-Err-begin_drawn.error
    (Stays D.tells D.clock D.fault_count D.since D.state origin c.begin_drawn.new.disk c.begin_drawn.new.engine w)
    (c.in-Err-begin_drawn.ensures.begins w origin (record s {
      pending =
          sources;
    }) c.args.state.now mid at.halted at.going drawn)

pub returns-in-Err-finish-clause-publishes : goal.returns-in-Err-finish-clause-publishes
returns-in-Err-finish-clause-publishes g c = λ w origin s stays at.
    let D = g.D.Disk in
    let d = c.args.disk.now in
    let sources = c.in-Ok.sources.items in
    let drawn = c.in-Ok.ensures.sources in
    let mid = pending_here D.tells D.clock D.fault_count D.since D.state origin d c.args.engine.now
    c.submit_all.new.engine w s sources stays at.pending
    c.submit_all.ensures.same c.in-Ok-submit_all.ensures.next in
    let Mid = Stays D.tells D.clock D.fault_count D.since D.state origin c.begin_drawn.new.disk
    c.begin_drawn.new.engine w in
    let going = c.in-Ok-begin_drawn.ensures.begins w origin (record s {
      pending =
          sources;
    }) c.args.state.now mid at.halted at.going drawn in
    failed_finish w s c.args.state.now at sources drawn Mid going c.in-Err-finish.error
    (Stays D.tells D.clock D.fault_count D.since D.state origin c.finish.new.disk c.finish.new.engine w)
    (c.in-Err-finish.ensures.finishes w origin (begun w s c.args.state.now at sources drawn Mid going)
    (record { publication = going.planned; left = going.left }) going.now refl at.halted going.some)

pub returns-clause-publishes : goal.returns-clause-publishes
returns-clause-publishes g c = λ w origin s stays at.
    let D = g.D.Disk in
    let d = c.args.disk.now in
    let sources = c.in-Ok.sources.items in
    let drawn = c.in-Ok.ensures.sources in
    let mid = pending_here D.tells D.clock D.fault_count D.since D.state origin d c.args.engine.now
    c.submit_all.new.engine w s sources stays at.pending
    c.submit_all.ensures.same c.in-Ok-submit_all.ensures.next in
    let Mid = Stays D.tells D.clock D.fault_count D.since D.state origin c.begin_drawn.new.disk
    c.begin_drawn.new.engine w in
    let going = c.in-Ok-begin_drawn.ensures.begins w origin (record s {
      pending =
          sources;
    }) c.args.state.now mid at.halted at.going drawn in
    let made = c.in-Ok-finish.ensures.finishes w origin (begun w s c.args.state.now at sources drawn Mid going)
    (record { publication = going.planned; left = going.left }) going.now refl at.halted going.some in
    failed_sum w s c.args.state.now at sources drawn Mid going c.in-Err-sum_newest.error
    (Stays D.tells D.clock D.fault_count D.since D.state origin c.sum_newest.new.disk c.sum_newest.new.engine w)
    (c.in-Err-sum_newest.ensures.sums w origin (published w s c.args.state.now at sources drawn Mid going) made
    (rests w s c.args.state.now at sources drawn Mid going))

pub returns-in-Ok-sum_newest-clause-publishes : goal.returns-in-Ok-sum_newest-clause-publishes
returns-in-Ok-sum_newest-clause-publishes g c = λ w origin s stays at.
    let D = g.D.Disk in
    let d = c.args.disk.now in
    let x = c.args.state.now in
    let sources = c.in-Ok.sources.items in
    let drawn = c.in-Ok.ensures.sources in
    let tiles = c.in-Ok-touched_tiles.tiles.items in
    let mid = pending_here D.tells D.clock D.fault_count D.since D.state origin d c.args.engine.now
    c.submit_all.new.engine w s sources stays at.pending
    c.submit_all.ensures.same c.in-Ok-submit_all.ensures.next in
    let Mid = Stays D.tells D.clock D.fault_count D.since D.state origin c.begin_drawn.new.disk
    c.begin_drawn.new.engine w in
    let going = c.in-Ok-begin_drawn.ensures.begins w origin
    (record s { pending = sources }) x mid at.halted at.going drawn in
    let made = c.in-Ok-finish.ensures.finishes w origin (begun w s x at sources drawn Mid going)
    (record { publication = going.planned; left = going.left }) going.now refl at.halted going.some in
    let touched : IsTouched (heads_of sources) tiles =
    subst (λ (ss : List Source). IsTouched
    (heads_of ss) tiles) c.as_slice.ensures.value c.in-Ok-touched_tiles.ensures.touched in
    let same : tiles ≡ going.tiles = one_touched (heads_of sources) tiles going.tiles touched going.touched in
    let count : c.len.result ≡ length tiles = search rules in
    let sum : ℤ = c.in-Ok-sum_newest.sum in
    let noise : to_z w64 (of_z w64 sum) ≡ sum = search rules in
    let value = sum_at w (published w s x at sources drawn Mid going) tiles sum
    (λ v t. Stays D.tells D.clock D.fault_count D.since D.state origin c.finish.new.disk c.finish.new.engine v
    t) made
    (rests w s x at sources drawn Mid going)
    (reached_at w s.list sources going.tiles tiles going.planned going.left going.starts touched)
    (λ t now rest reached.
    c.in-Ok-sum_newest.ensures.sum origin t now rest
    (subst (λ (ts : List Tile). All (λ u. Reached (heads_of (sources_of t.list)) u) ts)
    (sym c.as_slice-2.ensures.value) reached)
    ∙ ap (tiles_sum (sources_of t.list)) c.as_slice-2.ensures.value) in
    let list = (store_kind w).add s.list going.planned in
    all_done w s x at sources drawn Mid going (record { files = c.len.result; sum = to_z w64 (of_z w64 sum) })
    (Stays D.tells D.clock D.fault_count D.since D.state origin c.sum_newest.new.disk c.sum_newest.new.engine w)
    (c.in-Ok-sum_newest.ensures.sums w origin (published w s x at sources drawn Mid going) made
    (rests w s x at sources drawn Mid going))
    (count ∙ ap length same)
    (subst (λ (z : ℤ). IsSumAt w list going.tiles z) (sym noise) (subst (λ
    (ts : List Tile). IsSumAt w list ts sum) same value))
