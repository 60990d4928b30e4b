-- Inside the crate: a run ends at its first call of the input or the output that fails: no further one follows, as the
-- count of failures
use Rattle.std.specs.Prelude.{◌≡◌, ℕ, List, Option}
use Rattle.cdb_front.specs.declared.read_turn.Turned.{Turned}
use Rattle.cdb_front.specs.declared.read_turn.Turned.TheVariants.{Taken, Stopped}
use Rattle.cdb_front.specs.Failures.{ReadsOnce, WritesOnce}
use Rattle.cdb_front.specs.declared.exit_status.Status.{Status}
use Rattle.cdb_front.specs.declared.exit_status.Status.TheVariants.{InputFault}

-- and of one read of the input and what follows it
abbrev pub WritesInTurn : Turned → ℕ → ℕ → Type 0
WritesInTurn (Taken count) before now = now ≡ before
WritesInTurn (Stopped status) before now = WritesOnce status before now

abbrev pub ReadsInTurn : Turned → ℕ → ℕ → Type 0
ReadsInTurn (Taken count) before now = now ≡ before
ReadsInTurn (Stopped status) before now = ReadsOnce status before now

-- what is kept in mind of the last call that failed stays, by how a run ended, where none failed in it
abbrev pub KeepsFailure : Status → Option (List ℕ) → Option (List ℕ) → Type 0
KeepsFailure InputFault before now = Unit {0}
KeepsFailure status before now = now ≡ before

abbrev pub KeepsInTurn : Turned → Option (List ℕ) → Option (List ℕ) → Type 0
KeepsInTurn (Taken count) before now = now ≡ before
KeepsInTurn (Stopped status) before now = KeepsFailure status before now
