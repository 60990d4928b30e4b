-- A loop that looks for the first index at which a test holds.
use Rattle.std.proofs.Common.{◌≡◌, ℕ, suc, zero, ◌+◌, ◌-◌, ◌<◌, ◌≤◌, Bool, true, false, Option, Some, None, refl, add-zero, arith}
use Rattle.cdb_tiff_base.specs.First.{first_from}

-- the test fails at i: the search goes on behind it
pub goes_on : (test : ℕ → Bool) (i n : ℕ) (total : Option ℕ) → i < n → test i ≡ false → first_from test i (n - i)
    ≡ total → first_from test (i + 1) (n - (i + 1)) ≡ total
unfolding first_from
goes_on test i n total lt is_false so_far = let k : n - i ≡ suc (n - (i + 1)) = omega arith in
    rw (k, is_false) at so_far

-- the test holds at i, and failed before
pub found : (test : ℕ → Bool) (i n : ℕ) (total : Option ℕ) → i < n → test i ≡ true → first_from test i (n - i) ≡ total
    → Some i ≡ total
unfolding first_from
found test i n total lt is_true so_far = let k : n - i ≡ suc (n - (i + 1)) = omega arith in rw (k, is_true) at so_far

-- it failed everywhere
pub not_found : (test : ℕ → Bool) (i n : ℕ) (total : Option ℕ) → n ≤ i → first_from test i (n - i)
    ≡ total → None ≡ total
unfolding first_from
not_found test i n total le so_far = let k : n - i ≡ 0 = omega arith in rw k at so_far

pub ruleset loops = (goes_on, found, not_found)

-- no index was found: the test fails at each
pub none_found : (test : ℕ → Bool) (n i j : ℕ) → first_from test i n ≡ None → j < n → test (i + j) ≡ false
unfolding first_from
none_found test zero i j none below = absurd (omega arith)
none_found test (suc n) i zero none below = by (test i) refl
  where
    by : (b : Bool) → test i ≡ b → test (i + zero) ≡ false
    by true holds = let e = rw holds at none in absurd (cc)
    by false fails = rw add-zero fails
none_found test (suc n) i (suc j) none below =
    by (test i) refl (λ rest. let lt : j < n = omega arith in none_found test n (i + 1) j rest lt)
  where
    by : (b : Bool) → test i ≡ b → (first_from test (i + 1) n ≡ None → test (i + 1 + j) ≡ false)
        → test (i + suc j) ≡ false
    by true holds next = let e = rw holds at none in absurd (cc)
    by false fails next = let e = rw fails at none in let same : i + suc j ≡ i + 1 + j = omega arith in rw same (next e)
