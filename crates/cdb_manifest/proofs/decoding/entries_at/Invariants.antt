use Rattle.std.proofs.Common.{◌≡◌, ◌++◌, length}
use Rattle.cdb_model.specs.Records.{entries_text}
use Rattle.cdb_manifest.specs.Entries.{Ascending}
use Rattle.cdb_manifest.proofs.decoding.entries_at.Given as goal

abbrev pub invariant-loop-k : goal.invariant-loop-k
invariant-loop-k l = record {
  read : l.fn.bytes ≡ entries_text l.tiles.items ++ l.rest;
  count : length l.tiles.items ≡ l.k;
  ordered : Ascending l.tiles.items;
}
