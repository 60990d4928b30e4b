use Rattle.std.proofs.Common.{◌+◌}
use Rattle.cdb_grid.specs.Frames.{IsRowChanged}
use Rattle.cdb_tiff_write.specs.inside.Older.{or_sample}
use Rattle.cdb_tiff_write.proofs.filling.fill_octets.Given as goal

abbrev pub invariant-loop-k : goal.invariant-loop-k
invariant-loop-k l = IsRowChanged (λ k. or_sample l.kind 8 l.bytes (l.from + k)) l.k l.initial.part l.part
