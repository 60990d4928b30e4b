use Rattle.std.proofs.Common.{◌*◌, ◌≤◌, take}
use Rattle.cdb_source.specs.Reached.{IsLoad}
use Rattle.cdb_touch.proofs.loads.load.Given as goal

abbrev pub invariant-loop-head : goal.invariant-loop-head
invariant-loop-head l = record {
  load : IsLoad (take l.head-index l.heads) l.total;
  most : l.total ≤ l.head-index * 18446744073709551616;
}
