use Rattle.std.proofs.Common.{length, ap, arith}
use Rattle.cdb_cut.proofs.PaintedSources.{rows_within}
use Rattle.cdb_check.proofs.painting.posts_of.Goals as goal

pub slice_bounds-result-end : goal.slice_bounds-result-end
slice_bounds-result-end c =
    let s = c.args.source.now in
    let rows = c.args.rows in
    omega (arith, rows_within s.head rows.first rows.count c.requires, s.count, ap length c.as_slice.ensures)
