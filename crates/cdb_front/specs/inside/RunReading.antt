-- A run between two reads of its input.
use Rattle.std.specs.Prelude.{◌≡◌, ℕ, ◌+◌, ◌<◌, ◌≤◌, List, length, Option}
use Rattle.std.specs.Io.KnownBytes.{Consumes}
use Rattle.cdb_model.specs.Text.{Text}
use Rattle.cdb_front.specs.RunProgress.{Sight, RunStart, RunSoFar}
use Rattle.cdb_front.specs.RunOutcome.{StopsScript, WasOpened}
use Rattle.cdb_front.specs.declared.read_turn.Turned.{Turned}
use Rattle.cdb_front.specs.declared.read_turn.Turned.TheVariants.{Taken, Stopped}

-- so many bytes were taken from the input, and their whole lines answered
pub record Reading (tells : Type 0) (e : RunStart) (left left' written : Option (List ℕ)) (shelf disk : ℕ) (Now : Sight)
    (kept : Option (List ℕ)) (taken : ℕ) : Type 0 where
  pub read : Text
  pub input : Consumes left left' read
  pub sofar : RunSoFar tells e read written shelf disk Now kept
  pub count : taken ≡ length read

-- after one read of the input
abbrev pub TakesTurn : Type 0 → RunStart → Turned → ℕ → ℕ → Option (List ℕ) → Option (List ℕ) → Option (List ℕ) → Sight
    → Option (List ℕ) → ℕ → Type 0
TakesTurn tells e (Taken count) shelf disk left left' written Now kept taken =
    Reading tells e left left' written shelf disk Now kept (taken + count)
TakesTurn tells e (Stopped status) shelf disk left left' written Now kept taken =
    StopsScript tells e shelf disk left left' written Now status

-- what is taken by one read is some of what there was room for
abbrev pub TakesSome : Turned → ℕ → Type 0
TakesSome (Taken count) room = (0 < count) × (count ≤ room)
TakesSome (Stopped status) room = Unit {0}

-- where it stopped, the store was opened
abbrev pub StopsOpened : Turned → Type 0
StopsOpened (Taken count) = Unit {0}
StopsOpened (Stopped status) = WasOpened status
