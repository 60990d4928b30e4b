use Rattle.cdb_grid.specs.Frames.{IsPartChanged}
use Rattle.cdb_grid.proofs.part.change_part.Given as goal

abbrev pub invariant-loop-r : goal.invariant-loop-r
invariant-loop-r g l =
    IsPartChanged (g.R.RowRule.rule l.rule) l.spot.row l.spot.col l.r l.cols l.side l.initial.frame l.frame
