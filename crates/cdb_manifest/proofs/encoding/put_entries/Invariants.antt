use Rattle.std.proofs.Common.{◌≡◌, ◌++◌, take}
use Rattle.cdb_model.specs.Records.{entries_text}
use Rattle.cdb_manifest.proofs.encoding.put_entries.Given as goal

abbrev pub invariant-loop-tile : goal.invariant-loop-tile
invariant-loop-tile l = l.out.items ≡ l.initial.out.items ++ entries_text (take l.tile-index l.tiles)
