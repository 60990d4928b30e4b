use Rattle.std.proofs.Common.{◌-◌, List, [], drop}
use Rattle.cdb_source.specs.declared.source.Source.{Source}
use Rattle.cdb_cut.specs.OneTile.{IsPaintedBy}
use Rattle.cdb_check.proofs.painting.paint_sources.Given as goal

abbrev pub invariant-loop-done : goal.invariant-loop-done
invariant-loop-done l = (ss : List Source) → IsPaintedBy ss l.tile [] l.fn.frame
    → IsPaintedBy ss l.tile (drop (l.count - l.done) l.sources) l.frame
