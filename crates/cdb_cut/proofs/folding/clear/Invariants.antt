use Rattle.cdb_grid.specs.Frames.{IsRowChanged}
use Rattle.cdb_source.specs.Posts.{none_of}
use Rattle.cdb_source.specs.Reached.{kind_of}
use Rattle.cdb_cut.proofs.folding.clear.Given as goal

abbrev pub invariant-loop-k : goal.invariant-loop-k
invariant-loop-k l = IsRowChanged (λ k old. none_of (kind_of l.tile.family)) l.k l.initial.frame l.frame
