-- Columns are whole widths, and a place has one geocell.
use Rattle.std.proofs.Common.{Some, ap, rules}
use Rattle.cdb_grid.specs.Tiles.{point_of, IsInGeocell}
use Rattle.cdb_grid.proofs.TileLaws.{multiple_below, one_geocell}
use Rattle.cdb_grid.proofs.locate.geocell_at.Goals as goal

pub geocell-requires-clause-on_grid : goal.geocell-requires-clause-on_grid
geocell-requires-clause-on_grid c =
    multiple_below _ _ _ c.width_of_row-width.ensures.value c.width_of_row-width.ensures.least

pub returns-clause-only : goal.returns-clause-only
returns-clause-only c = λ g on inside.
    let holds : IsInGeocell c.geocell.result (point_of c.args.lat c.args.lon) = search rules in
    ap Some (one_geocell c.geocell.result g (point_of c.args.lat c.args.lon) holds inside)
