use Rattle.std.proofs.Common.{◌≤◌}
use Rattle.cdb_source.specs.Reached.{source_height}
use Rattle.cdb_touch.proofs.Below.{IsBelowHeight}
use Rattle.cdb_touch.specs.inside.Touched.{AddsTiles}
use Rattle.cdb_touch.proofs.gather.push_family.Given as goal

abbrev pub invariant-loop-height : goal.invariant-loop-height
invariant-loop-height l = record {
  finer : source_height l.head ≤ l.height;
  adds : AddsTiles (IsBelowHeight l.head l.family l.height) l.initial.tiles.items l.tiles.items;
}
