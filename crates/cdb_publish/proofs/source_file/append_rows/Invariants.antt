use Rattle.std.proofs.Common.{◌≡◌, ℕ, ◌-◌, ◌*◌, ◌≤◌, List, ◌++◌, take}
use Rattle.cdb_source.specs.Texts.{posts_text}
use Rattle.cdb_model.specs.Maps.{IsThere}
use Rattle.cdb_files.specs.Disk.{State}
use Rattle.cdb_files.specs.Whole.{after_pieces, WritesOnly}
use Rattle.cdb_publish.proofs.source_file.append_rows.Given as goal

abbrev pub invariant-pieces : goal.invariant-pieces
invariant-pieces g l = record {
  within : l.done ≤ l.source.head.rows;
  there : g.D.Disk.tells → IsThere ((g.D.Disk.state l.disk).present l.path.bytes);
  state : g.D.Disk.tells → (bytes : List ℕ) (s : State) → g.D.Disk.state l.fn.disk ≡ after_pieces l.path.bytes bytes s
      → g.D.Disk.state l.disk
      ≡ after_pieces l.path.bytes (bytes ++ posts_text (take (l.done * l.source.head.cols) l.source.posts)) s;
  only : g.D.Disk.tells → WritesOnly g.D.Disk.clock g.D.Disk.since g.D.Disk.state l.path.bytes l.fn.disk l.disk;
  later : g.D.Disk.fault_count l.fn.disk ≤ g.D.Disk.fault_count l.disk;
  reads : g.D.Disk.read_count l.disk ≡ g.D.Disk.read_count l.fn.disk;
}

abbrev pub decreases-pieces : goal.decreases-pieces
decreases-pieces g l = l.rows - l.done
