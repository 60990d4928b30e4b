use Rattle.std.proofs.Common.{◌≡◌, btree_map_len}
use Rattle.cdb_memfiles.specs.Crash.{IsPicked, IsSettled}
use Rattle.cdb_memfiles.specs.History.{replay}
use Rattle.cdb_memfiles.specs.Standing.{shown, picked_shown}
use Rattle.cdb_memfiles.proofs.crash.restore_paths.Given as goal

abbrev pub invariant-paths : goal.invariant-paths
invariant-paths l = record {
  picks : IsPicked (λ q. picked_shown l.pick (shown l.fn.table q)) (λ q. picked_shown l.pick (shown l.rest q))
      (replay l.after.calls.items).present;
  only : IsSettled (replay l.after.calls.items);
  made : (replay l.after.calls.items).made ≡ (replay l.fn.folders.calls.items).made;
}

abbrev pub decreases-paths : goal.decreases-paths
decreases-paths l = btree_map_len l.rest
