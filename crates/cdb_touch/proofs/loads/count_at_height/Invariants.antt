use Rattle.std.proofs.Common.{◌≡◌, ◌*◌, ◌≤◌}
use Rattle.cdb_grid.specs.Units.{tiles_of}
use Rattle.cdb_grid.specs.declared.family.Family.{Family}
use Rattle.cdb_source.specs.Reached.{kind_of}
use Rattle.cdb_touch.specs.inside.Count.{HasCount}
use Rattle.cdb_touch.proofs.Below.{IsBelowRow}
use Rattle.cdb_touch.proofs.loads.count_at_height.Given as goal

abbrev pub invariant-loop-row : goal.invariant-loop-row
invariant-loop-row l = record {
  each : (f : Family) → l.head.kind ≡ kind_of f → HasCount (IsBelowRow l.head f l.height l.row) l.count;
  most : l.count ≤ l.row * (360 * (tiles_of l.height * tiles_of l.height));
}
