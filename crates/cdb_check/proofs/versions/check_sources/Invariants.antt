use Rattle.std.proofs.Common.{List, ◌++◌, take, map}
use Rattle.cdb_check.specs.Expected.{SourceFile, source_files_of, a_source, AllAsExpected, SpellAll}
use Rattle.cdb_check.specs.Outcome.{OnlyReads}
use Rattle.cdb_check.proofs.versions.check_sources.Given as goal

abbrev pub invariant-loop-k : goal.invariant-loop-k
invariant-loop-k g l = record {
  met : g.D.Disk.tells → AllAsExpected (g.D.Disk.state l.fn.disk).present
      (take l.k (map a_source (source_files_of l.record)));
  spelled : g.D.Disk.tells → (earlier : List SourceFile)
      → SpellAll (g.D.Disk.state l.fn.disk).present earlier l.fn.sources.items
      → SpellAll (g.D.Disk.state l.fn.disk).present (earlier ++ take l.k (source_files_of l.record)) l.sources.items;
  looks : OnlyReads g.D.Disk.clock g.D.Disk.since g.D.Disk.state g.D.Disk.fault_count l.fn.disk l.disk;
}
