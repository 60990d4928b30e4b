use Rattle.std.proofs.Common.{◌≡◌, ◌≤◌, ◌-◌, []}
use Rattle.cdb_front.specs.RunProgress.{RunStart, origin_of, Told}
use Rattle.cdb_front.specs.inside.RunReading.{Reading}
use Rattle.cdb_front.proofs.script.run_script.Given as goal

abbrev pub invariant-loop-taken : goal.invariant-loop-taken
invariant-loop-taken g l = record {
  reading : (e : RunStart) → g.H.Shelf.files l.fn.shelf ≡ e.files → e.most ≡ l.most
      → Told g.H.Shelf.tells e [] (g.O.Output.written l.fn.output) (g.H.Shelf.fault_count l.fn.shelf)
      (g.D.Disk.fault_count l.fn.disk) (g.E.StoreCalls.stays l.fn.engine l.fn.disk (origin_of e))
      → Reading g.H.Shelf.tells e (g.I.Input.left l.fn.input) (g.I.Input.left l.input) (g.O.Output.written l.output)
      (g.H.Shelf.fault_count l.shelf) (g.D.Disk.fault_count l.disk)
      (g.E.StoreCalls.stays l.engine l.disk (origin_of e)) l.maker l.taken;
  files : g.H.Shelf.files l.shelf ≡ g.H.Shelf.files l.fn.shelf;
  most : l.taken ≤ 4294967296;
  shelf_later : g.H.Shelf.fault_count l.fn.shelf ≤ g.H.Shelf.fault_count l.shelf;
  disk_later : g.D.Disk.fault_count l.fn.disk ≤ g.D.Disk.fault_count l.disk;
  input_later : g.I.Input.fault_count l.fn.input ≤ g.I.Input.fault_count l.input;
  output_later : g.O.Output.fault_count l.fn.output ≤ g.O.Output.fault_count l.output;
  reads : g.I.Input.fault_count l.input ≡ g.I.Input.fault_count l.fn.input;
  place : g.I.Input.failed_at l.input ≡ g.I.Input.failed_at l.fn.input;
  writes : g.O.Output.fault_count l.output ≡ g.O.Output.fault_count l.fn.output;
}

abbrev pub decreases-loop-taken : goal.decreases-loop-taken
decreases-loop-taken g l = 4294967296 - l.taken
