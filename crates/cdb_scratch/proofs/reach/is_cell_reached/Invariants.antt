use Rattle.std.proofs.Common.{All, take}
use Rattle.cdb_scratch.specs.inside.Cells.{ReachesCell}
use Rattle.cdb_scratch.proofs.reach.is_cell_reached.Given as goal

abbrev pub invariant-loop-source : goal.invariant-loop-source
invariant-loop-source l =
    All (λ source. ReachesCell l.fn.kind l.fn.height (record { north = l.fn.north; east = l.fn.east }) source.head → ⊥)
    (take l.source-index l.sources)
