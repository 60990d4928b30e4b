use Rattle.cdb_grid.specs.Frames.{IsRowChanged, four_under}
use Rattle.cdb_grid.proofs.part.FinerRowRule.change_row.Given as goal

abbrev pub invariant-loop-k : goal.invariant-loop-k
invariant-loop-k g l = IsRowChanged (four_under g.F.FourRule.of_four l.self.child.now l.self.side l.fn.row)
    l.k l.initial.part l.part
