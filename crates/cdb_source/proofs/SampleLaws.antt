-- The box of a source, and what it has there.
use Rattle.std.proofs.Common.{◌≡◌, ℕ, zero, suc, ◌+◌, ◌*◌, ◌/◌, ◌<◌, ◌≤◌, ℤ, pos, negsuc, ◌+ℤ◌, ◌*ℤ◌, ◌≤ℤ◌, ◌<ℤ◌, true, nat_le, Some, None, refl, arith, inl, inr}
use lib.IntN.{neg_ℤ}
use Rattle.std.specs.Int.{int_div_euclid}
use Rattle.std.proofs.lemmas.Int.{ints}
use Rattle.std.proofs.lemmas.Bool.{cases_Bool, and_parts, leb-true}
use Rattle.std.proofs.lemmas.Bool.Decides.{nat_tests}
use Rattle.cdb_grid.specs.Grid.{Place}
use Rattle.cdb_source.specs.declared.kind.Kind.{Kind}
use Rattle.cdb_source.specs.declared.kind.Kind.TheVariants.{Elevation, Material}
use Rattle.cdb_source.specs.declared.head.SourceHead.{SourceHead}
use Rattle.cdb_source.specs.declared.source.Source.{Source}
use Rattle.cdb_source.specs.Sample.{IsBefore, is_before, IsInBox, is_in_box, corner_of, box_height, box_width, sample_at, rounded}

before : (kind : Kind) (x edge : ℕ) → is_before kind x edge ≡ true → IsBefore kind x edge
before Elevation x edge t = grind (arith, nat_tests)
before Material x edge t = grind (arith, nat_tests)

-- the test of the box is the box
pub in_box : (head : SourceHead) (p : Place) → is_in_box head p ≡ true → IsInBox head p
in_box head p t =
    let e = and_parts _ (is_before head.kind p.east ((corner_of head).east + box_width head)) t in
    let w = and_parts _ (nat_le (corner_of head).east p.east) e.0 in
    let s = and_parts (nat_le (corner_of head).north p.north)
    (is_before head.kind p.north ((corner_of head).north + box_height head)) w.0 in
    record {
      south = leb-true (corner_of head).north p.north s.0;
      north = before head.kind p.north ((corner_of head).north + box_height head) s.1;
      west = leb-true (corner_of head).east p.east w.1;
      east = before head.kind p.east ((corner_of head).east + box_width head) e.1;
    }

-- a source has values in its box alone
pub in_box_of_sample : (s : Source) (p : Place) (v : ℤ) → sample_at s p ≡ Some v → IsInBox s.head p
unfolding sample_at
in_box_of_sample s p v e = elim (cases_Bool (is_in_box s.head p)) [
  | inl t ↦ in_box s.head p t
  | inr f ↦ absurd (none_is (rw f at e))
]
  where
    none_is : None ≡ Some v → ⊥
    none_is e = cc

-- the floor of a quotient, for a positive divisor
quotient_least : (a m : ℕ) → 1 ≤ m → m * (a / m) ≤ a
quotient_least a m h = omega arith

quotient_most : (a m : ℕ) → 1 ≤ m → a < m * (a / m) + m
quotient_most a m h = omega arith

times_suc : (m q : ℕ) → m * suc q ≡ m * q + m
times_suc m q = omega arith

neg_least : (t a : ℕ) → a < t → neg_ℤ (pos t) ≤ℤ negsuc a
neg_least t a h = omega (arith, ints)

neg_most : (t a : ℕ) → t ≤ a → negsuc a <ℤ neg_ℤ (pos t)
neg_most t a h = omega (arith, ints)

one_more : (q : ℕ) → negsuc q +ℤ pos 1 ≡ neg_ℤ (pos q)
one_more zero = refl
one_more (suc q) = omega (arith, ints)

times_neg : (m q : ℕ) → pos m *ℤ neg_ℤ (pos q) ≡ neg_ℤ (pos (m * q))
times_neg m zero = let e : m * 0 ≡ 0 = omega arith in rw e refl
times_neg m (suc q) = refl

floor-least : (x : ℤ) (m : ℕ) → 1 ≤ m → (pos m *ℤ int_div_euclid x (pos m)) ≤ℤ x
floor-least (pos a) m h = let l = quotient_least a m h in omega (arith, ints)
floor-least (negsuc a) m h = let l = quotient_most a m h in neg_least (m * suc (a / m)) a (rw (times_suc m (a / m)) l)

floor-most : (x : ℤ) (m : ℕ) → 1 ≤ m → x <ℤ (pos m *ℤ (int_div_euclid x (pos m) +ℤ pos 1))
floor-most (pos a) m h = let l = quotient_most a m h in
    let e : m * (a / m + 1) ≡ m * (a / m) + m = omega arith in omega (arith, ints)
floor-most (negsuc a) m h =
    let l = quotient_least a m h in
    rw (one_more (a / m), times_neg m (a / m)) (neg_most (m * (a / m)) a l)

pub rounded-least : (d : ℕ) (n : ℤ) → 1 ≤ d → (pos (2 * d) *ℤ rounded d n) ≤ℤ (pos 2 *ℤ n +ℤ pos d)
unfolding rounded
rounded-least d n h = floor-least (pos 2 *ℤ n +ℤ pos d) (2 * d) (omega arith)

pub rounded-most : (d : ℕ) (n : ℤ) → 1 ≤ d → (pos 2 *ℤ n +ℤ pos d) <ℤ (pos (2 * d) *ℤ (rounded d n +ℤ pos 1))
unfolding rounded
rounded-most d n h = floor-most (pos 2 *ℤ n +ℤ pos d) (2 * d) (omega arith)
