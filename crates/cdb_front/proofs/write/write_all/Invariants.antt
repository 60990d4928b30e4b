use Rattle.std.proofs.Common.{◌≡◌, ◌≤◌, length}
use Rattle.cdb_front.proofs.Writing.{Appending}
use Rattle.cdb_front.proofs.write.write_all.Given as goal

abbrev pub invariant-loop-rest : goal.invariant-loop-rest
invariant-loop-rest g l = record {
  appending : Appending (g.O.Output.written l.fn.output) (g.O.Output.written l.output) l.piece l.rest;
  later : g.O.Output.fault_count l.fn.output ≤ g.O.Output.fault_count l.output;
  same : g.O.Output.fault_count l.output ≡ g.O.Output.fault_count l.fn.output;
}

abbrev pub decreases-loop-rest : goal.decreases-loop-rest
decreases-loop-rest g l = length l.rest
