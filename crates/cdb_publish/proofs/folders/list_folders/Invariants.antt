use Rattle.std.proofs.Common.{◌≡◌, ◌+◌, ◌≤◌, map, take, length}
use Rattle.cdb_model.specs.Maps.{folder_above}
use Rattle.cdb_crash.specs.Plan.{each_once}
use Rattle.cdb_publish.specs.inside.Planning.{source_paths_from, paths_in}
use Rattle.cdb_publish.proofs.folders.list_folders.Given as goal

abbrev pub invariant-loop-k : goal.invariant-loop-k
invariant-loop-k l = record {
  folders : map (λ f. f.bytes) l.folders.keys ≡ each_once (map folder_above (source_paths_from l.item.version 1 l.k));
  few : length l.folders.keys ≤ l.k;
}

abbrev pub invariant-loop-tile : goal.invariant-loop-tile
invariant-loop-tile l = record {
  folders : map (λ f. f.bytes) l.folders.keys
      ≡ each_once (map folder_above (paths_in l.item.version (length l.item.heads) (take l.tile-index l.item.tiles)));
  few : length l.folders.keys ≤ length l.item.heads + l.tile-index;
}
