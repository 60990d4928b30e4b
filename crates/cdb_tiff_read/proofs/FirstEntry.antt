-- Loops over the entries of a directory that look for the first one.
use Rattle.std.proofs.Common.{◌≡◌, ℕ, zero, suc, ◌+◌, ◌-◌, ◌<◌, ◌≤◌, Bool, true, false, Option, Some, None, option_map, ◌∷◌, map, find, drop, zip, nat_le, refl, ap, arith}
use Rattle.std.specs.List.{range_with_len}
use Rattle.cdb_tiff_base.specs.Numbers.{Bytes}
use Rattle.cdb_tiff_base.specs.Directory.{entry_count, entry, entries}
use Rattle.cdb_tiff_base.specs.Causes.{unordered}
use Rattle.cdb_tiff_base.specs.declared.entry.Entry.{Entry}

-- the first entry from index i on at which the test holds
unfoldable pub find_from : (Entry → Bool) → Bytes → ℕ → Option Entry
find_from test b i = find test (map (entry b) (range_with_len i (entry_count b - i)))

pub from_start : (test : Entry → Bool) (b : Bytes) → find_from test b 0 ≡ find test (entries b)
unfolding find_from entries
from_start test b = let all : entry_count b - 0 ≡ entry_count b = omega arith in rw all refl

-- the test fails at i: the search goes on behind it
pub goes_on : (test : Entry → Bool) (b : Bytes) (i : ℕ) (total : Option Entry) → i < entry_count b → test (entry b i)
    ≡ false → find_from test b i ≡ total → find_from test b (i + 1) ≡ total
unfolding find_from
goes_on test b i total lt fails so_far = let k : entry_count b - i ≡ suc (entry_count b - (i + 1)) = omega arith in
    rw (k, fails) at so_far

-- the test holds at i, and failed before
pub found : (test : Entry → Bool) (b : Bytes) (i : ℕ) (total : Option Entry) → i < entry_count b → test (entry b i)
    ≡ true → find_from test b i ≡ total → Some (entry b i) ≡ total
unfolding find_from
found test b i total lt holds so_far = let k : entry_count b - i ≡ suc (entry_count b - (i + 1)) = omega arith in
    rw (k, holds) at so_far

-- it failed everywhere
pub not_found : (test : Entry → Bool) (b : Bytes) (i : ℕ) (total : Option Entry) → entry_count b ≤ i
    → find_from test b i ≡ total → None ≡ total
unfolding find_from
not_found test b i total le so_far = let k : entry_count b - i ≡ 0 = omega arith in rw k at so_far

pub ruleset first_entry = (from_start, goes_on, found, not_found)

-- the neighbours of a list made from numbers
pairs : (f : ℕ → Entry) (a n : ℕ) → zip (map f (range_with_len a (suc n))) (map f (range_with_len (a + 1) n))
    ≡ map (λ k. (f k, f (k + 1))) (range_with_len a n)
pairs f a zero = refl
pairs f a (suc n) = ap (λ ps. (f a, f (a + 1)) ∷ ps) (pairs f (a + 1) n)

-- the first entry after index i whose tag isn't above the tag of the entry before
unfoldable pub unordered_from : Bytes → ℕ → Option Entry
unordered_from b i =
    option_map (λ (p : Entry × Entry). p.1)
    (find (λ (p : Entry × Entry). nat_le p.1.tag p.0.tag)
    (map (λ k. (entry b k, entry b (k + 1))) (range_with_len i (entry_count b - 1 - i))))

pub pair_start : (b : Bytes) → unordered_from b 0 ≡ unordered (entries b)
unfolding unordered_from unordered entries
pair_start b = by (entry_count b)
  where
    by : (n : ℕ)
        → option_map (λ (p : Entry × Entry). p.1)
        (find (λ (p : Entry × Entry). nat_le p.1.tag p.0.tag)
        (map (λ k. (entry b k, entry b (k + 1))) (range_with_len 0 (n - 1 - 0))))
        ≡ option_map (λ (p : Entry × Entry). p.1)
        (find (λ (p : Entry × Entry). nat_le p.1.tag p.0.tag)
        (zip (map (entry b) (range_with_len 0 n)) (drop 1 (map (entry b) (range_with_len 0 n)))))
    by zero = refl
    by (suc n) = let less : suc n - 1 - 0 ≡ n = omega arith in rw (less, pairs (entry b) 0 n) refl

pub pair_goes_on : (b : Bytes) (i : ℕ) (total : Option Entry) → i < entry_count b - 1
    → nat_le (entry b (i + 1)).tag (entry b i).tag ≡ false → unordered_from b i ≡ total
    → unordered_from b (i + 1) ≡ total
unfolding unordered_from
pair_goes_on b i total lt fails so_far = let k : entry_count b - 1 - i ≡ suc (entry_count b - 1 - (i + 1)) =
    omega arith in rw (k, fails) at so_far

pub pair_found : (b : Bytes) (i : ℕ) (total : Option Entry) → i < entry_count b - 1
    → nat_le (entry b (i + 1)).tag (entry b i).tag ≡ true → unordered_from b i ≡ total → Some (entry b (i + 1)) ≡ total
unfolding unordered_from
pair_found b i total lt holds so_far = let k : entry_count b - 1 - i ≡ suc (entry_count b - 1 - (i + 1)) =
    omega arith in rw (k, holds) at so_far

pub pair_not_found : (b : Bytes) (i : ℕ) (total : Option Entry) → entry_count b - 1 ≤ i → unordered_from b i
    ≡ total → None ≡ total
unfolding unordered_from
pair_not_found b i total le so_far = let k : entry_count b - 1 - i ≡ 0 = omega arith in rw k at so_far

pub ruleset first_pair = (pair_start, pair_goes_on, pair_found, pair_not_found)
