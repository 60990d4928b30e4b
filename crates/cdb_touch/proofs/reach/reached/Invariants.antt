use Rattle.std.proofs.Common.{All, take}
use Rattle.cdb_source.specs.Reached.{Reaches}
use Rattle.cdb_touch.proofs.reach.reached.Given as goal

abbrev pub invariant-loop-source : goal.invariant-loop-source
invariant-loop-source l = All (λ source. Reaches source.head l.fn.tile → ⊥) (take l.source-index l.sources)
