-- A file that an answer calls damaged has another size than the one that was wanted, or isn't there, whatever the disk
-- holds.
use Rattle.std.specs.Prelude.{◌≢◌, Some}
use Rattle.cdb_model.specs.Events as machine

abbrev pub AnswerFindsOther : machine.Answer → Type 0
AnswerFindsOther (machine.damaged expected found) = found ≢ Some expected
AnswerFindsOther (machine.late_damaged expected found) = found ≢ Some expected
AnswerFindsOther _ = Unit {0}
