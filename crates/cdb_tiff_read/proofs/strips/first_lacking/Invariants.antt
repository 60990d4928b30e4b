use Rattle.std.proofs.Common.{◌≡◌, ◌-◌, nat_lt}
use Rattle.cdb_tiff_base.specs.First.{first_from, first_below}
use Rattle.cdb_tiff_base.specs.Strips.{need, strip_byte_count}
use Rattle.cdb_tiff_read.proofs.strips.first_lacking.Given as goal

-- the strips before k have the bytes that they need
abbrev pub invariant-loop-k : goal.invariant-loop-k
invariant-loop-k l =
    first_from (λ k. nat_lt (strip_byte_count l.bytes k) (need l.bytes k)) l.k (l.strips - l.k)
    ≡ first_below (λ k. nat_lt (strip_byte_count l.bytes k) (need l.bytes k)) l.strips
