use Rattle.std.proofs.Common.{◌+◌}
use Rattle.cdb_grid.specs.Frames.{IsRowChanged}
use Rattle.cdb_tiff_write.specs.Samples.{sample_in}
use Rattle.cdb_tiff_write.proofs.samples.read_shorts.Given as goal

abbrev pub invariant-loop-k : goal.invariant-loop-k
invariant-loop-k l = IsRowChanged (λ k old. sample_in 16 l.bytes (l.from + k)) l.k l.initial.to l.to
