-- A run ends at its first call of the input or the output that fails: no further one follows, as the count of failures
-- says.
use Rattle.std.specs.Prelude.{◌≡◌, ℕ, ◌+◌, ◌-◌, ◌^◌, ◌<◌, ◌≤◌, List, Option, Result, Ok, Err}
use Rattle.cdb_model.specs.Causes.{Rose}
use Rattle.cdb_front.specs.declared.exit_status.Status.{Status}
use Rattle.cdb_front.specs.declared.exit_status.Status.TheVariants.{InputFault, OutputFault}
use Rattle.cdb_front.specs.declared.fed.Fed.{Fed}
use Rattle.cdb_front.specs.declared.fed.Fed.TheVariants as fed

-- a count of failures stays, below its last value
abbrev pub Still : ℕ → ℕ → Type 0
Still before now = (now ≡ before) × (before < 2 ^ 64 - 1)

-- a call that fails raises the count by at most one, and no other call changes it
abbrev pub FailsOnce : {T E : Type 0} → Result T E → ℕ → ℕ → Type 0
FailsOnce (Ok _) before now = now ≡ before
FailsOnce (Err _) before now = now ≤ before + 1

-- the same of writes, by what became of bytes of the input
abbrev pub FedOnce : Fed → ℕ → ℕ → Type 0
FedOnce fed.Failed before now = now ≤ before + 1
FedOnce fed.More before now = now ≡ before
FedOnce fed.Quit before now = now ≡ before

-- and by how a run ended
abbrev pub WritesOnce : Status → ℕ → ℕ → Type 0
WritesOnce OutputFault before now = now ≤ before + 1
WritesOnce status before now = now ≡ before

-- the same of reads
abbrev pub ReadsOnce : Status → ℕ → ℕ → Type 0
ReadsOnce InputFault before now = now ≤ before + 1
ReadsOnce status before now = now ≡ before

-- a call that fails is kept in mind by what is left of the input then, and no other call changes that
abbrev pub FailsAt : {T E : Type 0} → Result T E → Option (List ℕ) → Option (List ℕ) → Option (List ℕ) → Type 0
FailsAt (Ok _) left before now = now ≡ before
FailsAt (Err _) left before now = now ≡ left

-- one read failed, and what was left then is left now: nothing was read behind it
pub record FailsLast (before now : ℕ) (left failed_at : Option (List ℕ)) : Type 0 where
  pub rose : Rose before now
  pub once : now ≤ before + 1
  pub stops : left ≡ failed_at

-- by how the reading of the input ended: no read failed, also where the count stands at its last value, or the last one
abbrev pub EndsReading : Status → ℕ → ℕ → Option (List ℕ) → Option (List ℕ) → Option (List ℕ) → Type 0
EndsReading InputFault before now left failed_before failed_at = FailsLast before now left failed_at
EndsReading status before now left failed_before failed_at = (now ≡ before) × (failed_at ≡ failed_before)
