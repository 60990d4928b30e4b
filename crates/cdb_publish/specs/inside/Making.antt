-- Inside the crate: what one step of a publication makes of a disk, whatever lies on it.
use Rattle.std.specs.Prelude.{◌≡◌, ℕ, List, Result, Some, OnOk, slice_get}
use Rattle.cdb_model.specs.Maps.{FileMap}
use Rattle.cdb_files.specs.Disk.{State, IsImage}
use Rattle.cdb_files.specs.Moments.{AddsOnly}
use Rattle.cdb_files.specs.Whole.{IsImageBut}
use Rattle.cdb_crash.specs.Plan.{FileAction, after_step}

-- What a crash may leave at the moments of a step: at the path that it writes to anything, and elsewhere what it might
-- have left before.
abbrev pub IsStepImage : FileAction → State → FileMap → Type 0
IsStepImage (FileAction.write file) s m = IsImageBut file.path s m
IsStepImage (FileAction.sync folder) s m = IsImage s m
IsStepImage (FileAction.write_and_sync file) s m = IsImageBut file.path s m

-- The step of this number of a list of steps was made, or failed.
pub record MakesStep {D T E : Type 0} (clock : D → ℕ) (since : D → ℕ → FileMap → Type 0) (state : D
    → State) (steps : List FileAction) (number : ℕ) (old new : D) (result : Result T E) : Type 0 where
  pub step : FileAction
  pub at : slice_get steps number ≡ Some step
  pub ok : OnOk result (state new ≡ after_step step (state old))
  pub time : AddsOnly clock since old new (IsStepImage step (state old))
