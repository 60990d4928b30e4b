use Rattle.std.proofs.Common.{◌≡◌, ℕ, ◌+◌, ◌-◌, ◌*◌, ◌<◌, length, ap, arith}
use Rattle.cdb_grid.specs.Tiles.{tile_side}
use Rattle.cdb_source.specs.Reached.{kind_of, tile_value}
use Rattle.cdb_source.specs.Posts.{coded}
use Rattle.cdb_scratch.proofs.FrameLaws.{row_more, span_of}
use Rattle.cdb_scratch.proofs.frame.put_rows.Goals as goal

pub loop-row-preserved : goal.loop-row-preserved
loop-row-preserved c =
    let side : ℕ = tile_side c.args.tile.now in
    let s : ℕ = c.side-side.result in
    let e : s ≡ side = c.side-side.ensures.value in
    let lt : c.loop-row.row < side = let a = c.loop-row-test.true in omega arith in
    let size : length c.loop-row.frame ≡ side * side = omega arith in
    let len : length c.put_row.new.part ≡ side = omega arith in
    row_more (λ r k. coded (kind_of c.args.tile.now.family) (tile_value c.args.sources.now c.args.tile.now r k))
    c.loop-row.row side
    (c.loop-row.row * s) (c.loop-row.row * s + s - c.loop-row.row * s) c.loop-row.frame c.put_row.new.part
    lt (ap (λ m. c.loop-row.row * m) e) (span_of c.loop-row.row s side e)
    size len c.loop-row.invariant c.put_row.ensures
