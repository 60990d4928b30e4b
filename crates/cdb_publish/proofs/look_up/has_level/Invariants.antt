use Rattle.std.proofs.Common.{take}
use Rattle.cdb_publish.specs.inside.Older.{NoneAtLevel}
use Rattle.cdb_publish.proofs.look_up.has_level.Given as goal

abbrev pub invariant-loop-head : goal.invariant-loop-head
invariant-loop-head l = NoneAtLevel (take l.head-index l.heads) l.tile
