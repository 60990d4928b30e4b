use Rattle.std.proofs.Common.{◌≡◌, ◌+◌, ◌-◌, ◌≤◌, List, [], length, drop}
use Rattle.cdb_source.specs.declared.source.Source.{Source}
use Rattle.cdb_model.specs.Publications.{heads_of}
use Rattle.cdb_files.specs.Moments.{Rests}
use Rattle.cdb_cut.specs.OneTile.{IsPaintedBy}
use Rattle.cdb_publish.specs.Needs.{AreSized}
use Rattle.cdb_publish.specs.inside.Windows.{HasSources}
use Rattle.cdb_publish.proofs.WindowReads.{from_on}
use Rattle.cdb_publish.proofs.windows.paint_sources.Given as goal

abbrev pub invariant-loop-done : goal.invariant-loop-done
invariant-loop-done g l = record {
  room : length l.posts ≡ length l.fn.posts;
  state : g.D.Disk.state l.disk ≡ g.D.Disk.state l.fn.disk;
  time : Rests (g.D.Disk.clock l.fn.disk) (g.D.Disk.clock l.disk) (g.D.Disk.since l.fn.disk) (g.D.Disk.since l.disk);
  later : g.D.Disk.fault_count l.fn.disk ≤ g.D.Disk.fault_count l.disk;
  sizes : g.D.Disk.tells
      → AreSized (g.D.Disk.state l.fn.disk).present
      (from_on l.plan.record.version l.plan.record.heads l.tile (l.count - l.done));
  reads : g.D.Disk.read_count l.disk ≤ g.D.Disk.read_count l.fn.disk + length
      (from_on l.plan.record.version l.plan.record.heads l.tile (l.count - l.done));
  painted : g.D.Disk.tells → (ss x : List Source) → l.plan.record.heads ≡ heads_of x
      → HasSources (g.D.Disk.state l.fn.disk).present l.plan.record.version x
      → IsPaintedBy ss l.tile [] l.fn.frame → IsPaintedBy ss l.tile (drop (l.count - l.done) x) l.frame;
}
