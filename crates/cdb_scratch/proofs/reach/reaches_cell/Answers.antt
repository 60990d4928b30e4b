use Rattle.std.proofs.Common.{◌≡◌, ◌≤◌, rules}
use Rattle.cdb_grid.specs.Grid.{Place, width_of}
use Rattle.cdb_source.specs.Reached.{source_height}
use Rattle.cdb_scratch.proofs.PlaceLaws.{row_in_cell, column_in_cell, cell_from_axes, width_at_corner}
use Rattle.cdb_scratch.proofs.reach.reaches_cell.Goals as goal

pub returns-then-has_row : goal.returns-then-has_row
returns-then-has_row c =
    let head = c.args.head.now in
    let p : Place = record { north = c.args.north; east = c.args.east } in
    let w : c.width.result ≡ width_of p =
    width_at_corner c.args.north c.args.east c.width.result c.width.ensures.value in
    let kinds : head.kind ≡ c.args.kind = search rules in
    let fine : source_height head ≤ c.args.height = search rules in (
      (λ t. cell_from_axes c.args.kind c.args.height p head c.width.result c.requires.most c.requires.corner w
          kinds fine (c.has_row.ensures.0 c.if-has_row.true) (c.has_column.ensures.0 t)),
      (λ r. c.has_column.ensures.1
          (column_in_cell c.args.kind c.args.height p head c.width.result c.requires.most c.requires.corner w r)),
    )

pub returns-else-has_row : goal.returns-else-has_row
returns-else-has_row c =
    let head = c.args.head.now in
    let p : Place = record { north = c.args.north; east = c.args.east } in (
      (λ t. let f = c.if-has_row.false in absurd (cc)),
      (λ r. c.has_row.ensures.1 (row_in_cell c.args.kind c.args.height p head r)),
    )
