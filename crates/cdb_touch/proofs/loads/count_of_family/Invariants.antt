use Rattle.std.proofs.Common.{◌≡◌, ◌≤◌}
use Rattle.cdb_grid.specs.declared.family.Family.{Family}
use Rattle.cdb_source.specs.Reached.{kind_of, source_height}
use Rattle.cdb_touch.specs.inside.Count.{HasCount}
use Rattle.cdb_touch.proofs.Below.{IsBelowHeight}
use Rattle.cdb_touch.proofs.LoadLaws.{IsSmall}
use Rattle.cdb_touch.proofs.loads.count_of_family.Given as goal

abbrev pub invariant-loop-height : goal.invariant-loop-height
invariant-loop-height l = record {
  finer : source_height l.head ≤ l.height;
  each : (f : Family) → l.head.kind ≡ kind_of f → HasCount (IsBelowHeight l.head f l.height) l.count;
  small : IsSmall l.height l.count;
}
