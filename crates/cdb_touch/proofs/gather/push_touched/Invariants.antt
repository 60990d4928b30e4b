use Rattle.std.proofs.Common.{take}
use Rattle.cdb_source.specs.Reached.{Reached}
use Rattle.cdb_touch.specs.inside.Touched.{AddsTiles}
use Rattle.cdb_touch.proofs.gather.push_touched.Given as goal

abbrev pub invariant-loop-head : goal.invariant-loop-head
invariant-loop-head l = AddsTiles (Reached (take l.head-index l.heads)) l.initial.tiles.items l.tiles.items
