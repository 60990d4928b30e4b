use Rattle.std.proofs.Common.{ℕ, ◌+◌, ◌*◌, ◌/◌, ◌%◌, ◌≤◌, ◌<◌, min, sym, subst}
use Rattle.cdb_grid.specs.Units.{row_of}
use Rattle.cdb_touch.proofs.RectangleLaws.{geocell_in_run, parts_most}
use Rattle.cdb_touch.proofs.rectangle.geocell_rows.Goals as goal

pub returns-clause-each : goal.returns-clause-each
returns-clause-each c t r eh =
    let n : ℕ = c.tiles-tiles.result in
    let i : (c.rows-rows.result.first / n ≤ row_of t.cell.lat)
    × (row_of t.cell.lat < c.rows-rows.result.end / n + min 1 (c.rows-rows.result.end % n)) =
    geocell_in_run c.args.head.now c.args.height c.rows-rows.result.first c.rows-rows.result.end n t
    c.tiles-tiles.ensures.value c.tiles-tiles.ensures.least c.rows-rows.ensures.each r eh in
    (i.0, subst (λ m. row_of t.cell.lat < m) (sym c.div_ceil.ensures) i.1)

pub returns-clause-within : goal.returns-clause-within
returns-clause-within c =
    let n : ℕ = c.tiles-tiles.result in
    subst (λ m. m ≤ 180) (sym c.div_ceil.ensures)
    (parts_most c.rows-rows.result.end n 180 c.tiles-tiles.ensures.least
    (subst (λ m. c.rows-rows.result.end ≤ 180 * m) (sym c.tiles-tiles.ensures.value) c.rows-rows.ensures.within))
