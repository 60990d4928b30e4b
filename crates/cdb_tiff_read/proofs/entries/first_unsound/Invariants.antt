use Rattle.std.proofs.Common.{◌≡◌, find}
use Rattle.cdb_tiff_base.specs.Causes.{is_unsound}
use Rattle.cdb_tiff_base.specs.Directory.{entries}
use Rattle.cdb_tiff_read.proofs.FirstEntry.{find_from}
use Rattle.cdb_tiff_read.proofs.entries.first_unsound.Given as goal

-- the entries before k with a used tag are sound
abbrev pub invariant-loop-k : goal.invariant-loop-k
invariant-loop-k l = find_from (is_unsound l.bytes) l.bytes l.k ≡ find (is_unsound l.bytes) (entries l.bytes)
