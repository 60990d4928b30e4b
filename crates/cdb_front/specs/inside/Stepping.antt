-- Inside the crate: one step of the publication that is going: its results, as answers of the machine.
use Rattle.std.specs.Prelude.{Option, None, Some, Result, Ok, Err}
use Rattle.cdb_model.specs.Events as machine
use Rattle.cdb_publish.specs.declared.errors.Progress.{Progress}
use Rattle.cdb_publish.specs.declared.errors.Progress.TheVariants as progress
use Rattle.cdb_engine.specs.declared.errors.AdvanceError.{AdvanceError}
use Rattle.cdb_engine.specs.declared.errors.AdvanceError.TheVariants as advance

-- what is said after a step was tried: nothing where it goes on
abbrev pub step_end : Result Progress AdvanceError → Option machine.Answer
step_end (Ok progress.Going) = None
step_end (Ok (progress.Published version)) = Some (machine.published version)
step_end (Err advance.Halted) = Some machine.going
step_end (Err advance.Nothing) = Some machine.going
step_end (Err advance.Fault) = Some machine.fault
step_end (Err (advance.Damaged expected found)) = Some (machine.damaged expected found)
