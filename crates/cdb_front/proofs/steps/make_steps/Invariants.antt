use Rattle.std.proofs.Common.{◌≡◌, ◌-◌, ◌≤◌}
use Rattle.cdb_model.specs.Stores.{Which, store_kind}
use Rattle.cdb_model.specs.Transitions.{StateIn}
use Rattle.cdb_engine.specs.Tracks.{Origin}
use Rattle.cdb_front.proofs.Walk.{Partway}
use Rattle.cdb_front.proofs.steps.make_steps.Given as goal

abbrev pub invariant-loop : goal.invariant-loop
invariant-loop g l = record {
  partway : (w : Which) (origin : Origin) (s : StateIn (store_kind w))
      → g.E.StoreCalls.stays l.fn.engine l.fn.disk origin w s
      → Partway (store_kind w) l.most (l.most - l.counter) s (g.E.StoreCalls.stays l.engine l.disk origin w);
  reply : (g.E.StoreCalls.bytes l.engine) ≡ (g.E.StoreCalls.bytes l.fn.engine);
  later : g.D.Disk.fault_count l.fn.disk ≤ g.D.Disk.fault_count l.disk;
}
