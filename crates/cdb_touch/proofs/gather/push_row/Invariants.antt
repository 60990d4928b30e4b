use Rattle.std.proofs.Common.{◌≤◌, max}
use Rattle.cdb_touch.specs.inside.Numbers.{IsInRow}
use Rattle.cdb_touch.specs.inside.Touched.{AddsTiles}
use Rattle.cdb_touch.proofs.gather.push_row.Given as goal

abbrev pub invariant-loop-column : goal.invariant-loop-column
invariant-loop-column l = record {
  adds : AddsTiles (IsInRow l.family l.height l.row (record l.fn.columns { end = l.column }))
      l.initial.tiles.items l.tiles.items;
  most : l.column ≤ max l.fn.columns.first l.fn.columns.end;
}
