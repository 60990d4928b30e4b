-- The first number at which a test holds.
use Rattle.std.specs.Prelude.{ℕ, Bool, Option, find}
use Rattle.std.specs.List.{range_with_len}

-- the first of the n numbers from i on at which the test holds
unfoldable pub first_from : (ℕ → Bool) → ℕ → ℕ → Option ℕ
first_from test i n = find test (range_with_len i n)

-- the first number below n at which the test holds
abbrev pub first_below : (ℕ → Bool) → ℕ → Option ℕ
first_below test n = first_from test 0 n
