-- Where a step answers that the disk failed.
use Rattle.std.specs.Prelude.{ℕ, ◌≤◌, Result, IfErr}
use Rattle.cdb_model.specs.Causes.{Rose}
use Rattle.cdb_publish.specs.declared.errors.StepError.{StepError}
use Rattle.cdb_publish.specs.declared.errors.StepError.TheVariants.{Fault, Damaged}

-- An error says that the disk failed only where its count of faults rose.
abbrev pub IsFaultOf : ℕ → ℕ → StepError → Type 0
IsFaultOf before now Fault = Rose before now
IsFaultOf before now (Damaged expected found) = Unit {0}

pub record IsCaused {T : Type 0} (before now : ℕ) (result : Result T StepError) : Type 0 where
  pub later : before ≤ now
  pub failed : IfErr result (IsFaultOf before now)
