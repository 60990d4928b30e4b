use Rattle.std.proofs.Common.{◌≡◌}
use Rattle.cdb_tiff_base.specs.Causes.{unordered}
use Rattle.cdb_tiff_base.specs.Directory.{entries}
use Rattle.cdb_tiff_read.proofs.FirstEntry.{unordered_from}
use Rattle.cdb_tiff_read.proofs.entries.first_unordered.Given as goal

-- the tags of the entries up to k rise
abbrev pub invariant-loop-k : goal.invariant-loop-k
invariant-loop-k l = unordered_from l.bytes l.k ≡ unordered (entries l.bytes)
