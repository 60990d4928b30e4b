use Rattle.std.proofs.Common.{◌≡◌, ◌≤◌, ◌*◌, ℕ, pos, ◌+ℤ◌, ◌≤ℤ◌, take, length}
use Rattle.cdb_model.specs.KnownStore.{KnownState}
use Rattle.cdb_model.specs.Publications.{sources_up_to}
use Rattle.cdb_model.specs.Stores.{Which, known, store_kind}
use Rattle.cdb_model.specs.Transitions.{StateIn}
use Rattle.cdb_engine.specs.Stays.{Stays}
use Rattle.cdb_engine.specs.Tracks.{Origin}
use Rattle.cdb_generate.specs.Sums.{tiles_sum}
use Rattle.cdb_engine.specs.inside.Populating.{IsOpenAt}
use Rattle.cdb_engine.proofs.tile_sums.sum_tiles.Given as goal

abbrev pub invariant-loop-tile : goal.invariant-loop-tile
invariant-loop-tile g l =
    let D = g.D.Disk in
    record {
      stays : (w : Which) (origin : Origin) (s : StateIn (store_kind w))
          → Stays D.tells D.clock D.fault_count D.since D.state origin l.fn.disk l.fn.engine w s
          → Stays D.tells D.clock D.fault_count D.since D.state origin l.disk l.engine w s;
      sum : (origin : Origin) (s : KnownState) (version : ℕ)
          → Stays D.tells D.clock D.fault_count D.since D.state origin l.fn.disk l.fn.engine known s
          → IsOpenAt s l.id version l.tiles
          → l.sum ≡ tiles_sum (sources_up_to version s.list) (take l.tile-index l.tiles);
      least : pos 0 ≤ℤ (l.sum +ℤ pos (34359738368 * l.tile-index));
      most : l.sum ≤ℤ pos (34359738368 * l.tile-index);
      frame : length l.frame ≡ 1048576;
      later : D.fault_count l.fn.disk ≤ D.fault_count l.disk;
    }
