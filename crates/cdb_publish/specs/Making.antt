-- What one step of a publication makes of a disk, whatever lies on it.
use Rattle.std.specs.Prelude.{◌≡◌}
use Rattle.cdb_files.specs.Disk.{State}
use Rattle.cdb_publish.specs.declared.errors.StepError.{StepError}
use Rattle.cdb_publish.specs.declared.errors.StepError.TheVariants.{Fault, Damaged}

-- Where a step answers that a file is damaged, it wrote nothing.
abbrev pub IsUnwritten : State → State → StepError → Type 0
IsUnwritten before now Fault = Unit {0}
IsUnwritten before now (Damaged expected found) = now ≡ before
