-- Inside the crate: which answer of the machine each result of an engine over a disk is, and what a step leaves.
use Rattle.std.specs.Prelude.{ℕ, Option, Some, None, Result, Ok, Err}
use Rattle.cdb_publish.specs.declared.errors.Progress.{Progress}
use Rattle.cdb_publish.specs.declared.errors.Progress.TheVariants as progress
use Rattle.cdb_publish.specs.declared.errors.StepError.{StepError}
use Rattle.cdb_publish.specs.declared.publication.Publication.{Publication}

-- the publication stays where a step was made and others are left, and goes in every other case
abbrev pub work_after : Result Progress StepError → Publication → Option Publication
work_after (Ok progress.Going) work = Some work
work_after (Ok (progress.Published version)) work = None
work_after (Err _) work = None

-- an error halts the engine, at this count of failed calls
abbrev pub halt_after : Result Progress StepError → ℕ → Option ℕ
halt_after (Ok _) faults = None
halt_after (Err _) faults = Some faults
