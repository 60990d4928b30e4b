use Rattle.std.proofs.Common.{◌≡◌, ◌≤◌, ◌*◌, pos, ◌+ℤ◌, ◌≤ℤ◌, length}
use Rattle.cdb_model.specs.Stores.{Which, store_kind}
use Rattle.cdb_model.specs.Transitions.{StateIn}
use Rattle.cdb_engine.specs.Stays.{Stays}
use Rattle.cdb_engine.specs.Tracks.{Origin, Leads}
use Rattle.cdb_generate.specs.Generator.{passed}
use Rattle.cdb_engine.specs.Filling.{AreMade}
use Rattle.cdb_engine.specs.Populating.{IsAtRest}
use Rattle.cdb_engine.proofs.filling.fill.Given as goal

abbrev pub invariant-loop : goal.invariant-loop
invariant-loop g l =
    let D = g.D.Disk in
    record {
      made : (w : Which) (origin : Origin) (s : StateIn (store_kind w))
          → Stays D.tells D.clock D.fault_count D.since D.state origin l.fn.disk l.fn.engine w s
          → IsAtRest (store_kind w) s
          → Leads (AreMade w s l.fn.start l.counter l.files l.sum)
          (Stays D.tells D.clock D.fault_count D.since D.state origin l.disk l.engine w);
      state : l.state ≡ passed l.counter l.fn.start;
      few : l.files ≤ 16384 * l.counter;
      least : pos 0 ≤ℤ (l.sum +ℤ pos (562949953421312 * l.counter));
      most : l.sum ≤ℤ pos (562949953421312 * l.counter);
      frame : length l.frame ≡ 1048576;
      later : D.fault_count l.fn.disk ≤ D.fault_count l.disk;
    }
