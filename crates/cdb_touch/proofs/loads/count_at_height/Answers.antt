use Rattle.std.proofs.Common.{ℕ, ◌+◌, ◌*◌, ◌<◌, ◌≤◌, arith, rules}
use Rattle.cdb_grid.specs.Units.{tiles_of, row_of}
use Rattle.cdb_grid.proofs.UnitLaws.{height-least}
use Rattle.cdb_source.specs.Reached.{source_height}
use Rattle.cdb_touch.proofs.LoadLaws.{no_row, one_row_more, all_rows_counted, rows_more, rows_most, square_most}
use Rattle.cdb_touch.proofs.loads.count_at_height.Goals as goal

pub loop-row-init : goal.loop-row-init
loop-row-init c = record {
  each = λ f ek. no_row c.args.head.now f c.args.height c.geocell_rows-rows.result.first
      (λ t r e. (c.geocell_rows-rows.ensures.each t r e).0);
  most = omega arith;
}

pub overflow_add-count : goal.overflow_add-count
overflow_add-count c =
    let square : ℕ = tiles_of c.args.height * tiles_of c.args.height in
    let m : c.loop-row.count + c.count_in_row-count.result ≤ (c.loop-row.row + 1) * (360 * square) =
    rows_more c.loop-row.row c.loop-row.count c.count_in_row-count.result square
    c.count_in_row-count.ensures.most c.loop-row.invariant.most in
    let low : c.loop-row.row < c.geocell_rows-rows.result.end = c.loop-row-test.true in
    let end = c.geocell_rows-rows.ensures.within in
    let all : c.loop-row.count + c.count_in_row-count.result ≤ 64800 * square =
    rows_most (c.loop-row.row + 1) (c.loop-row.count + c.count_in_row-count.result) square (omega arith) m in
    let k : 1 ≤ source_height c.args.head.now =
    height-least c.args.head.now.level.number c.args.head.now.level.finest in
    let f = c.requires.finer in
    let s : square ≤ 70368744177664 = square_most c.args.height (omega arith) in
    let below : c.loop-row.count + c.count_in_row-count.result < 18446744073709551616 = omega arith in
    search (rules, below)

pub loop-row-preserved : goal.loop-row-preserved
loop-row-preserved c = record {
  each = λ f ek. one_row_more c.args.head.now f c.args.height c.loop-row.row c.loop-row.count
      c.count_in_row-count.result
      (c.loop-row.invariant.each f ek) (c.count_in_row-count.ensures.each f ek);
  most = rows_more c.loop-row.row c.loop-row.count c.count_in_row-count.result
      (tiles_of c.args.height * tiles_of c.args.height)
      c.count_in_row-count.ensures.most c.loop-row.invariant.most;
}

pub returns-clause-each : goal.returns-clause-each
returns-clause-each c f ek =
    let past : c.geocell_rows-rows.result.end ≤ c.loop-row.row = c.loop-row-test.false in
    all_rows_counted c.args.head.now f c.args.height c.loop-row.row c.loop-row.count
    (λ t r e. let b : row_of t.cell.lat < c.geocell_rows-rows.result.end = (c.geocell_rows-rows.ensures.each t r e).1 in
    omega arith)
    (c.loop-row.invariant.each f ek)

pub returns-clause-most : goal.returns-clause-most
returns-clause-most c =
    let order = c.geocell_rows-rows.ensures.order in
    let within = c.geocell_rows-rows.ensures.within in
    let end = c.loop-row.auto.row-end in
    rows_most c.loop-row.row c.loop-row.count (tiles_of c.args.height * tiles_of c.args.height) (omega arith)
    c.loop-row.invariant.most
