use Rattle.std.proofs.Common.{◌≡◌, ◌≤◌, ◌<◌, None, Some}
use Rattle.cdb_model.specs.Stores.{Which, store_kind}
use Rattle.cdb_model.specs.Transitions.{StateIn, GoingIn}
use Rattle.cdb_engine.specs.Stays.{Stays}
use Rattle.cdb_engine.specs.Tracks.{Origin}
use Rattle.cdb_engine.proofs.StepLaws.{Partly}
use Rattle.cdb_engine.proofs.drawn_publication.finish.Given as goal

abbrev pub invariant-loop : goal.invariant-loop
invariant-loop g l =
    let D = g.D.Disk in
    record {
      steps : (w : Which) (origin : Origin) (s : StateIn (store_kind w)) (now : GoingIn (store_kind w))
          → Stays D.tells D.clock D.fault_count D.since D.state origin l.fn.disk l.fn.engine w s
          → s.going ≡ Some now → s.halted ≡ None → 0 < now.left
          → Partly (store_kind w) s now l.left l.counter
          (Stays D.tells D.clock D.fault_count D.since D.state origin l.disk l.engine w);
      later : D.fault_count l.fn.disk ≤ D.fault_count l.disk;
    }
