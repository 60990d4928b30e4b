use Rattle.std.proofs.Common.{ℕ, ◌≡◌, ◌+◌, ◌*◌, ◌<◌, Some, false, drop, slice_get}
use Rattle.cdb_tiff_base.specs.Pixels.{sample}
use Rattle.cdb_tiff_base.specs.declared.order.Order.TheVariants.{Little}
use Rattle.cdb_tiff_read.proofs.samples.put_16_little.Given as goal

-- the samples before column c are written
abbrev pub invariant-loop-c : goal.invariant-loop-c
invariant-loop-c l = (k : ℕ) → k < l.c → slice_get l.to k
    ≡ Some (sample Little 16 false (drop (l.place + 2 * k) l.bytes))
