use Rattle.std.proofs.Common.{◌≤◌, max}
use Rattle.cdb_touch.specs.inside.Numbers.{IsInRectangle}
use Rattle.cdb_touch.specs.inside.Touched.{AddsTiles}
use Rattle.cdb_touch.proofs.gather.push_rectangle.Given as goal

abbrev pub invariant-loop-row : goal.invariant-loop-row
invariant-loop-row l = record {
  adds : AddsTiles (IsInRectangle l.family l.height (record l.fn.rectangle.rows { end = l.row }) l.fn.rectangle.columns)
      l.initial.tiles.items l.tiles.items;
  most : l.row ≤ max l.fn.rectangle.rows.first l.fn.rectangle.rows.end;
}
