use Rattle.std.proofs.Common.{◌≡◌, ◌++◌, ◌+◌, ◌≤◌, take, vec_len}
use Rattle.std.specs.Vec.{vec_capacity}
use Rattle.cdb_chain.specs.Versions.{places_of}
use Rattle.cdb_chain.proofs.chain.push_places.Given as goal

abbrev pub invariant-loop-tile : goal.invariant-loop-tile
invariant-loop-tile l = record {
  items : l.index.items ≡ l.fn.index.items ++ places_of l.version (take l.tile-index l.tiles);
  len : vec_len l.index ≡ vec_len l.fn.index + l.tile-index;
  room : vec_capacity l.fn.index ≤ vec_capacity l.index;
}
