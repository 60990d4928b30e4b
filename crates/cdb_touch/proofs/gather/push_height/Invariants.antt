use Rattle.cdb_touch.proofs.Below.{IsBelowRow}
use Rattle.cdb_touch.specs.inside.Touched.{AddsTiles}
use Rattle.cdb_touch.proofs.gather.push_height.Given as goal

abbrev pub invariant-loop-row : goal.invariant-loop-row
invariant-loop-row l = AddsTiles (IsBelowRow l.head l.family l.height l.row) l.initial.tiles.items l.tiles.items
