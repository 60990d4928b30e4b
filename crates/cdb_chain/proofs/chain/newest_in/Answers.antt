use Rattle.std.proofs.Common.{sym, ◌∙◌, arith}
use Rattle.cdb_grid.specs.OrderLaws.{tile_ties}
use Rattle.cdb_chain.specs.Versions.{place}
use Rattle.cdb_grid.proofs.TileOrder.{same_by_order}
use Rattle.cdb_chain.proofs.FindLaws.{cut_of, none_first, last_found, none_found, found_same}
use Rattle.cdb_chain.proofs.chain.newest_in.Goals as goal

pub returns-then-at-eq0 : goal.returns-then-at-eq0
returns-then-at-eq0 c =
    none_first c.args.index.now c.args.version c.args.tile.now c.in-Err.at
    (cut_of c.args.index.now (place c.args.tile.now c.args.version) c.in-Err.at c.requires
    c.in-Err.ensures.position) c.if-at-eq0.true

pub returns-in-Ok : goal.returns-in-Ok
returns-in-Ok c =
    found_same c.args.index.now c.args.version c.args.tile.now c.in-Ok.field-0 c.in-Ok.ensures.bound c.in-Ok.ensures.ok

pub returns-then-eq : goal.returns-then-eq
returns-then-eq c =
    let cut = cut_of c.args.index.now (place c.args.tile.now c.args.version) c.in-Err.at c.requires
    c.in-Err.ensures.position in
    last_found c.args.index.now c.args.version c.args.tile.now c.in-Err.at cut c.requires c.in-Err.ensures.bound
    (omega (arith, c.if-at-eq0.false)) c.index-index-at.result c.index-index-at.is
    (same_by_order c.index-index-at.result.tile c.args.tile.now
    (sym (c.eq.ensures ∙ tile_ties c.index-index-at.result.tile c.args.tile.now) ∙ c.if-eq.true))

pub returns-else-eq : goal.returns-else-eq
returns-else-eq c =
    let cut = cut_of c.args.index.now (place c.args.tile.now c.args.version) c.in-Err.at c.requires
    c.in-Err.ensures.position in
    none_found c.args.index.now c.args.version c.args.tile.now c.in-Err.at cut c.requires c.in-Err.ensures.bound
    (omega (arith, c.if-at-eq0.false)) c.index-index-at.result c.index-index-at.is
    (sym (c.eq.ensures ∙ tile_ties c.index-index-at.result.tile c.args.tile.now) ∙ c.if-eq.false)
