use Rattle.std.proofs.Common.{◌≡◌, ◌==◌, find}
use Rattle.cdb_tiff_base.specs.Directory.{entries}
use Rattle.cdb_tiff_base.specs.declared.entry.Entry.{Entry}
use Rattle.cdb_tiff_read.proofs.FirstEntry.{find_from}
use Rattle.cdb_tiff_read.proofs.directory.find.Given as goal

-- no entry before k has the tag
abbrev pub invariant-loop-k : goal.invariant-loop-k
invariant-loop-k l = find_from (λ (e : Entry). e.tag == l.tag) l.bytes l.k ≡ find (λ (e : Entry). e.tag == l.tag)
    (entries l.bytes)
