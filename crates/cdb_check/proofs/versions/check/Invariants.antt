use Rattle.std.proofs.Common.{◌≡◌, ◌≤◌, ◌*◌, length, take}
use Rattle.cdb_check.specs.Expected.{expected_files, AllAsExpected, SpellAll}
use Rattle.cdb_check.specs.Outcome.{OnlyReads}
use Rattle.cdb_check.specs.Rooms.{IsRoomy}
use Rattle.cdb_check.proofs.ExpectedLaws.{all_source_files}
use Rattle.cdb_check.proofs.versions.check.Given as goal

abbrev pub invariant-loop-k : goal.invariant-loop-k
invariant-loop-k g l = record {
  met : g.D.Disk.tells → AllAsExpected (g.D.Disk.state l.fn.disk).present (expected_files (take l.k l.chain.records));
  spelled : g.D.Disk.tells → SpellAll (g.D.Disk.state l.fn.disk).present (all_source_files (take l.k l.chain.records))
      l.sources.items;
  files : l.files ≡ length (expected_files (take l.k l.chain.records));
  small : l.files ≤ l.k * 16449;
  ready : IsRoomy l.room;
  looks : OnlyReads g.D.Disk.clock g.D.Disk.since g.D.Disk.state g.D.Disk.fault_count l.fn.disk l.disk;
}
