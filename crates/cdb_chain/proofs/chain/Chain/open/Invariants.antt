use Rattle.std.proofs.Common.{◌≡◌, ◌≤◌, length}
use Rattle.cdb_files.specs.Moments.{Rests}
use Rattle.cdb_chain.specs.Versions.{places_in}
use Rattle.cdb_chain.specs.Opening.{AreRead}
use Rattle.cdb_chain.proofs.chain.Chain.open.Given as goal

abbrev pub invariant-loop-done : goal.invariant-loop-done
invariant-loop-done g l = record {
  read : AreRead g.D.Disk.tells (g.D.Disk.state l.fn.disk).present l.records.items;
  count : length l.records.items ≡ l.done;
  index : l.index.items ≡ places_in l.records.items;
  state : g.D.Disk.state l.disk ≡ g.D.Disk.state l.fn.disk;
  time : Rests (g.D.Disk.clock l.fn.disk) (g.D.Disk.clock l.disk) (g.D.Disk.since l.fn.disk) (g.D.Disk.since l.disk);
  later : g.D.Disk.fault_count l.fn.disk ≤ g.D.Disk.fault_count l.disk;
}
