use Rattle.std.proofs.Common.{◌≡◌, ◌+◌, ◌*◌, min, max, ap, ◌∙◌}
use Rattle.cdb_grid.specs.Units.{tiles_of}
use Rattle.cdb_touch.proofs.RectangleLaws.{rectangle_exact}
use Rattle.cdb_touch.proofs.rectangle.reached_in_row.Goals as goal

pub returns-clause-each : goal.returns-clause-each
returns-clause-each c f t ek =
    let e : c.tiles-tiles.result ≡ tiles_of c.args.height = c.tiles-tiles.ensures.value in
    rectangle_exact c.args.head.now f c.args.height c.args.row c.rows-rows.result
    (record { first = c.max.result; end = c.min.result }) c.columns.result t
    ek c.requires.finer c.requires.row c.rows-rows.ensures.each c.columns.ensures.each
    (c.max.ensures ∙ ap (λ m. max c.rows-rows.result.first (c.args.row * m)) e)
    (c.min.ensures ∙ ap (λ m. min c.rows-rows.result.end (c.args.row * m + m)) e)
