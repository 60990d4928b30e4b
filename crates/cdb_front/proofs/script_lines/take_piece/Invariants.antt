use Rattle.std.proofs.Common.{◌≡◌, ℕ, ◌≤◌, ◌++◌, List, take}
use Rattle.cdb_front.specs.RunProgress.{RunStart, origin_of, RunSoFar}
use Rattle.cdb_front.proofs.script_lines.take_piece.Given as goal

abbrev pub invariant-loop-byte : goal.invariant-loop-byte
invariant-loop-byte g l = record {
  piece : (e : RunStart) (read : List ℕ) → g.H.Shelf.files l.fn.shelf ≡ e.files → e.most ≡ l.most
      → RunSoFar g.H.Shelf.tells e read (g.O.Output.written l.fn.output) (g.H.Shelf.fault_count l.fn.shelf)
      (g.D.Disk.fault_count l.fn.disk) (g.E.StoreCalls.stays l.fn.engine l.fn.disk (origin_of e)) l.fn.maker
      → RunSoFar g.H.Shelf.tells e (read ++ take l.byte-index l.piece) (g.O.Output.written l.output)
      (g.H.Shelf.fault_count l.shelf) (g.D.Disk.fault_count l.disk)
      (g.E.StoreCalls.stays l.engine l.disk (origin_of e)) l.maker;
  files : g.H.Shelf.files l.shelf ≡ g.H.Shelf.files l.fn.shelf;
  shelf_later : g.H.Shelf.fault_count l.fn.shelf ≤ g.H.Shelf.fault_count l.shelf;
  disk_later : g.D.Disk.fault_count l.fn.disk ≤ g.D.Disk.fault_count l.disk;
  later : g.O.Output.fault_count l.fn.output ≤ g.O.Output.fault_count l.output;
  same : g.O.Output.fault_count l.output ≡ g.O.Output.fault_count l.fn.output;
}
