-- Inside the crate: what a call that found a file damaged has read.
use Rattle.std.specs.Prelude.{ℕ, ◌≤◌}
use Rattle.cdb_publish.specs.declared.errors.StepError.{StepError}
use Rattle.cdb_publish.specs.declared.errors.StepError.TheVariants.{Fault, Damaged}

-- Nothing was read where a file has another size.
abbrev pub IsUnread : ℕ → ℕ → StepError → Type 0
IsUnread before now Fault = Unit {0}
IsUnread before now (Damaged expected found) = now ≤ before
