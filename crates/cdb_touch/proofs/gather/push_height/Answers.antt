use Rattle.std.proofs.Common.{ℕ, ◌+◌, ◌<◌, ◌≤◌, arith}
use Rattle.cdb_grid.specs.Units.{row_of}
use Rattle.cdb_touch.specs.inside.Numbers.{IsInRectangle}
use Rattle.cdb_touch.specs.inside.Reach.{IsOfRow, IsOfHeight}
use Rattle.cdb_touch.proofs.Below.{IsBelowRow}
use Rattle.cdb_touch.proofs.AddLaws.{Adds-none, Adds-then, Adds-iff}
use Rattle.cdb_touch.proofs.LoadLaws.{row_none, one_row_split, all_rows_same}
use Rattle.cdb_touch.proofs.gather.push_height.Goals as goal

pub loop-row-init : goal.loop-row-init
loop-row-init c = Adds-none (IsBelowRow c.args.head.now c.args.family c.args.height c.geocell_rows-rows.result.first)
    c.args.tiles.now.items
    (row_none c.args.head.now c.args.family c.args.height c.geocell_rows-rows.result.first
    (λ t r e. (c.geocell_rows-rows.ensures.each t r e).0))

pub loop-row-preserved : goal.loop-row-preserved
loop-row-preserved c =
    let y : ℕ = c.loop-row.row in
    let f = c.args.family in let h : ℕ = c.args.height in
    let r = c.reached_in_row.result in
    Adds-then (IsBelowRow c.args.head.now f h y) (IsOfRow c.args.head.now f h y)
    (IsBelowRow c.args.head.now f h (y + 1))
    c.args.tiles.now.items c.loop-row.tiles.items c.push_rectangle.new.tiles.items c.loop-row.invariant
    (Adds-iff (IsInRectangle f h r.rows r.columns) (IsOfRow c.args.head.now f h y)
    c.loop-row.tiles.items c.push_rectangle.new.tiles.items
    (λ t. c.reached_in_row.ensures.each f t c.requires.kind) c.in_ok-push_rectangle.ensures)
    (one_row_split c.args.head.now f h y)

pub returns : goal.returns
returns c =
    let y : ℕ = c.loop-row.row in
    let past : c.geocell_rows-rows.result.end ≤ y = c.loop-row-test.false in
    Adds-iff (IsBelowRow c.args.head.now c.args.family c.args.height y)
    (IsOfHeight c.args.head.now c.args.family c.args.height)
    c.args.tiles.now.items c.loop-row.tiles.items
    (all_rows_same c.args.head.now c.args.family c.args.height y
    (λ t r e. let b : row_of t.cell.lat < c.geocell_rows-rows.result.end = (c.geocell_rows-rows.ensures.each t r e).1 in
    omega arith))
    c.loop-row.invariant
