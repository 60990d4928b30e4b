use Rattle.std.proofs.Common.{◌≡◌, ◌+◌, ◌-◌, length, nat_lt}
use Rattle.cdb_tiff_base.specs.First.{first_from, first_below}
use Rattle.cdb_tiff_base.specs.Strips.{need, strip_offset}
use Rattle.cdb_tiff_read.proofs.strips.first_short.Given as goal

-- the strips before k end within the file
abbrev pub invariant-loop-k : goal.invariant-loop-k
invariant-loop-k l =
    first_from (λ k. nat_lt (length l.bytes) (strip_offset l.bytes k + need l.bytes k)) l.k (l.strips - l.k)
    ≡ first_below (λ k. nat_lt (length l.bytes) (strip_offset l.bytes k + need l.bytes k)) l.strips
