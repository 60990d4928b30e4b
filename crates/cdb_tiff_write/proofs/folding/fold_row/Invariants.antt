use Rattle.cdb_grid.specs.Frames.{IsRowChanged}
use Rattle.cdb_tiff_write.specs.inside.Finer.{four_in_rows}
use Rattle.cdb_tiff_write.proofs.folding.fold_row.Given as goal

abbrev pub invariant-loop-k : goal.invariant-loop-k
invariant-loop-k g l = IsRowChanged (four_in_rows g.F.FourRule.of_four l.south l.north) l.k l.initial.part l.part
