use Rattle.std.proofs.Common.{List, take, map}
use Rattle.cdb_check.specs.Expected.{SourceFile, a_tile, AllAsExpected, SpellAll}
use Rattle.cdb_check.specs.Kept.{AreKeptFrames}
use Rattle.cdb_check.specs.Outcome.{OnlyReads}
use Rattle.cdb_check.specs.Rooms.{IsRoomy}
use Rattle.cdb_check.proofs.versions.check_tiles.Given as goal

abbrev pub invariant-loop-k : goal.invariant-loop-k
invariant-loop-k g l = record {
  met : g.D.Disk.tells → (files : List SourceFile) → SpellAll (g.D.Disk.state l.fn.disk).present files l.sources
      → AllAsExpected (g.D.Disk.state l.fn.disk).present (take l.k (map (a_tile files l.version) l.tiles));
  kept : AreKeptFrames l.sources l.kept.items;
  ready : IsRoomy l.room;
  looks : OnlyReads g.D.Disk.clock g.D.Disk.since g.D.Disk.state g.D.Disk.fault_count l.fn.disk l.disk;
}
