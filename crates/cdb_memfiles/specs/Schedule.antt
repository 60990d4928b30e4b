-- Calls that are numbered from 1, of which those in a list fail.
use Rattle.std.specs.Prelude.{◌≡◌, ℕ, ◌+◌, ◌-◌, ◌^◌, ◌==◌, Bool, min, Result, OnOk, OnErr, IsErr, IsTrue, ◌↔◌}
use Rattle.std.specs.List.{list_any}
use Rattle.cdb_model.specs.Causes.{HasCause}
use Rattle.cdb_memfiles.specs.declared.schedule.Schedule.{Schedule}

-- One more, or the last value of a count, where it stays.
abbrev pub one_more : ℕ → ℕ
one_more n = min (n + 1) (2 ^ 64 - 1)

-- The next call is in the list of those that fail.
abbrev pub fails_next : Schedule → Bool
fails_next s = list_any (λ n. n == one_more s.number) s.fails.items

-- The next call has its number, and the list stays.
pub record CountsCall (old new : Schedule) : Type 0 where
  pub number : new.number ≡ one_more old.number
  pub fails : new.fails.items ≡ old.fails.items

-- A call that fails where the list says so, and adds one to the count of faults then.
pub record FailsAsListed {T E : Type 0} (old new : Schedule) (result : Result T E) : Type 0 where
  pub cause : HasCause old.faults new.faults result
  pub numbered : CountsCall old new
  pub listed : IsErr result ↔ IsTrue (fails_next old)
  pub ok : OnOk result (new.faults ≡ old.faults)
  pub err : OnErr result (new.faults ≡ one_more old.faults)
