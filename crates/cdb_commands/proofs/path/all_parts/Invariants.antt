use Rattle.std.proofs.Common.{◌≡◌, ◌+◌, ℕ, Option, Some, None, length}
use Rattle.std.specs.Prelude.{option_copied}
use Rattle.cdb_model.specs.Text.{Text}
use Rattle.cdb_commands.proofs.PathLemmas.{all_in}
use Rattle.cdb_commands.proofs.path.all_parts.Given as goal

abbrev room : Option Text → ℕ
room None = 0
room (Some text) = length text + 1

abbrev pub invariant-loop-left : goal.invariant-loop-left
invariant-loop-left l = all_in (Some l.word) ≡ all_in (option_copied l.left)

abbrev pub decreases-loop-left : goal.decreases-loop-left
decreases-loop-left l = room (option_copied l.left)
