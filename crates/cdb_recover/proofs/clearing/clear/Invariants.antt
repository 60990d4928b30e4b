use Rattle.std.proofs.Common.{◌≡◌, ◌+◌, ◌-◌, ◌≤◌, List, length}
use Rattle.cdb_source.specs.declared.source.Source.{Source}
use Rattle.cdb_model.specs.Names.{version_folder}
use Rattle.cdb_model.specs.Stands.{Stands}
use Rattle.cdb_crash.specs.Crash.{IsWhole}
use Rattle.cdb_recover.proofs.Rounds.{Sofar, Counted}
use Rattle.cdb_recover.proofs.clearing.clear.Given as goal

abbrev pub invariant-rounds : goal.invariant-rounds
invariant-rounds g l = record {
  going : g.D.Disk.tells → (list : List (List Source)) → l.folder.bytes ≡ version_folder (length list + 1)
      → IsWhole Stands list (g.D.Disk.state l.fn.disk)
      → Sofar g.D.Disk.clock g.D.Disk.since g.D.Disk.state list (65536 - l.counter) l.fn.disk l.disk;
  counted : g.D.Disk.tells → Counted l.folder.bytes (g.D.Disk.state l.fn.disk).present (g.D.Disk.state l.disk).present
      l.counter;
  folders : g.D.Disk.tells → (g.D.Disk.state l.disk).made ≡ (g.D.Disk.state l.fn.disk).made;
  later : g.D.Disk.fault_count l.fn.disk ≤ g.D.Disk.fault_count l.disk;
  reads : g.D.Disk.read_count l.disk ≡ g.D.Disk.read_count l.fn.disk;
}
