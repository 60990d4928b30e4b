-- One step of the publication that is going: its results, as answers of the machine.
use Rattle.std.specs.Prelude.{ℕ, ◌+◌, ◌-◌, ◌^◌, ◌<◌, ◌≤◌, List}
use Rattle.cdb_model.specs.AnswerTexts.{tally}
use Rattle.cdb_model.specs.Events as machine

-- no more answers than the count of failures rose by, where that isn't at its last value
abbrev pub Counts : (machine.Answer → ℕ) → ℕ → ℕ → List machine.Answer → Type 0
Counts kind before now answers = now < 2 ^ 64 - 1 → before + tally kind answers ≤ now
