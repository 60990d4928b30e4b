use Rattle.std.proofs.Common.{◌≡◌, find}
use Rattle.cdb_tiff_base.specs.Causes.{is_tile_tag}
use Rattle.cdb_tiff_base.specs.Directory.{entries}
use Rattle.cdb_tiff_base.specs.declared.entry.Entry.{Entry}
use Rattle.cdb_tiff_read.proofs.FirstEntry.{find_from}
use Rattle.cdb_tiff_read.proofs.entries.first_of_tiles.Given as goal

-- the entries before k have no tag of a tile
abbrev pub invariant-loop-k : goal.invariant-loop-k
invariant-loop-k l = find_from (λ (e : Entry). is_tile_tag e.tag) l.bytes l.k ≡ find (λ (e : Entry). is_tile_tag e.tag)
    (entries l.bytes)
