use Rattle.std.proofs.Common.{◌≡◌, ℕ, ◌+◌, ◌*◌, ◌/◌, ◌<◌, ◌≤◌, subst, sym, arith}
use Rattle.cdb_grid.specs.Units.{tiles_of, width_at}
use Rattle.cdb_grid.proofs.GridLaws.{quotient_of}
use Rattle.cdb_touch.specs.declared.axis.Run.{Run}
use Rattle.cdb_touch.specs.inside.Numbers.{IsInRow, IsInRectangle}
use Rattle.cdb_touch.proofs.AddLaws.{Adds-none, Adds-then, Adds-iff, one_row_added, no_row_added, all_rows_added, empty_rectangle}
use Rattle.cdb_touch.proofs.gather.push_rectangle.Goals as goal

pub returns-then-len-eq0 : goal.returns-then-len-eq0
returns-then-len-eq0 c =
    let e : c.len.result ≡ 0 = c.if-len-eq0.true in let l = c.len.ensures in
    Adds-none (IsInRectangle c.args.family c.args.height c.args.rectangle.rows c.args.rectangle.columns)
    c.args.tiles.now.items
    (λ t. empty_rectangle c.args.family c.args.height c.args.rectangle.rows c.args.rectangle.columns t (omega arith))

pub loop-row-init : goal.loop-row-init
loop-row-init c = record {
  adds = Adds-none
      (IsInRectangle c.args.family c.args.height (record c.args.rectangle.rows { end = c.args.rectangle.rows.first })
      c.args.rectangle.columns) c.args.tiles.now.items
      (no_row_added c.args.family c.args.height c.args.rectangle.rows c.args.rectangle.columns);
  most = omega arith;
}

pub push_row-requires-clause-columns : goal.push_row-requires-clause-columns
push_row-requires-clause-columns c =
    let n : ℕ = tiles_of c.args.height in
    let from : c.args.rectangle.rows.first ≤ c.loop-row.row = c.loop-row.auto.row in
    let to : c.loop-row.row < c.args.rectangle.rows.end = c.loop-row-test.true in
    let low = c.requires.south in let high = c.requires.north in
    let e : c.loop-row.row / n ≡ c.args.geocells = quotient_of c.args.geocells n c.loop-row.row (omega arith)
    (omega arith) in
    subst (λ m. c.args.rectangle.columns.end ≤ 360 / width_at m * n) (sym e) c.requires.east

pub loop-row-preserved : goal.loop-row-preserved
loop-row-preserved c =
    let y : ℕ = c.loop-row.row in
    let rows : Run = c.args.rectangle.rows in
    let columns : Run = c.args.rectangle.columns in
    record {
      adds = Adds-then (IsInRectangle c.args.family c.args.height (record rows { end = y }) columns)
          (IsInRow c.args.family c.args.height y columns)
          (IsInRectangle c.args.family c.args.height (record rows { end = y + 1 }) columns)
          c.args.tiles.now.items c.loop-row.tiles.items c.push_row.new.tiles.items c.loop-row.invariant.adds
          c.in_ok-push_row.ensures
          (λ t. one_row_added c.args.family c.args.height y rows columns t c.loop-row.auto.row);
      most = let a = c.loop-row-test.true in omega arith;
    }

pub returns : goal.returns
returns c =
    let y : ℕ = c.loop-row.row in
    let rows : Run = c.args.rectangle.rows in
    let columns : Run = c.args.rectangle.columns in
    Adds-iff (IsInRectangle c.args.family c.args.height (record rows { end = y }) columns)
    (IsInRectangle c.args.family c.args.height rows columns)
    c.args.tiles.now.items c.loop-row.tiles.items
    (λ t. all_rows_added c.args.family c.args.height y rows columns t c.loop-row.invariant.most c.loop-row-test.false)
    c.loop-row.invariant.adds
