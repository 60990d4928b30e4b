-- The order of paths by their bytes: what begins with a prefix stands together, from the prefix on.
use Rattle.std.proofs.Common.{◌≡◌, ℕ, ◌<◌, ◌≤◌, true, false, List, [], ◌∷◌, length, nat_eq, ◌⊎◌, inl, inr, refl, sym, ap, ◌∙◌, arith}
use Rattle.std.proofs.lemmas.Bool.{true≢false, and_parts, and_from, eqb-true, eq-eqb, cases_order}
use Rattle.std.specs.List.{starts_with}
use Rattle.std.specs.Ordering.{is_gt, nat_cmp, ordering_then}
use Rattle.std.specs.declared.cmp.Ordering.TheVariants.{Less, Equal, Greater}
use Rattle.std.specs.Cmp.{nat_cmp_is}
use Rattle.std.specs.Cmp.Lexicographic.{slice_cmp}

below : (x y : ℕ) → x < y → nat_cmp x y ≡ Less
below x y l = sym (nat_cmp_is x y Less l)

level : (x y : ℕ) → x ≡ y → nat_cmp x y ≡ Equal
level x y e = sym (nat_cmp_is x y Equal e)

above : (x y : ℕ) → y < x → nat_cmp x y ≡ Greater
above x y l = sym (nat_cmp_is x y Greater l)

-- What begins with the prefix isn't below it.
pub from_prefix : (prefix path : List ℕ) → starts_with nat_eq path prefix ≡ true
    → is_gt (slice_cmp nat_cmp prefix path) ≡ false
from_prefix [] [] h = refl
from_prefix [] (d ∷ path) h = refl
from_prefix (c ∷ prefix) [] h = absurd (true≢false (sym h))
from_prefix (c ∷ prefix) (d ∷ path) h =
    let parts = and_parts (nat_eq c d) (starts_with nat_eq path prefix) h in
    ap (λ o. is_gt (ordering_then o (slice_cmp nat_cmp prefix path))) (level c d (eqb-true c d parts.0))
    ∙ from_prefix prefix path parts.1

-- What stands between the prefix and a path that begins with it begins with it.
pub between_prefix : (prefix middle path : List ℕ) → starts_with nat_eq path prefix ≡ true
    → is_gt (slice_cmp nat_cmp prefix middle) ≡ false
    → is_gt (slice_cmp nat_cmp middle path) ≡ false → starts_with nat_eq middle prefix ≡ true
between_prefix [] middle path h low high = refl
between_prefix (c ∷ prefix) middle [] h low high = absurd (true≢false (sym h))
between_prefix (c ∷ prefix) [] (d ∷ path) h low high = absurd (true≢false low)
between_prefix (c ∷ prefix) (e ∷ middle) (d ∷ path) h low high = cases (cases_order c e) (cases_order e d)
    (between_prefix prefix middle path parts.1)
  where
    parts : (nat_eq c d ≡ true) × (starts_with nat_eq path prefix ≡ true)
    parts = and_parts (nat_eq c d) (starts_with nat_eq path prefix) h

    cases : (c ≡ e) ⊎ ((c < e) ⊎ (e < c)) → (e ≡ d) ⊎ ((e < d) ⊎ (d < e))
        → (is_gt (slice_cmp nat_cmp prefix middle) ≡ false → is_gt (slice_cmp nat_cmp middle path) ≡ false
        → starts_with nat_eq middle prefix ≡ true)
        → starts_with nat_eq (e ∷ middle) (c ∷ prefix) ≡ true
    cases (inl same) (inl also) rest =
        and_from (nat_eq c e) (starts_with nat_eq middle prefix) (eq-eqb c e same)
        (rest
        (ap (λ o. is_gt (ordering_then o (slice_cmp nat_cmp prefix middle))) (sym (level c e same)) ∙ low)
        (ap (λ o. is_gt (ordering_then o (slice_cmp nat_cmp middle path))) (sym (level e d also)) ∙ high))
    cases (inr (inr less)) also rest =
        absurd (true≢false
        (ap (λ o. is_gt (ordering_then o (slice_cmp nat_cmp prefix middle))) (sym (above c e less)) ∙ low))
    cases (inl same) (inr (inr less)) rest =
        absurd (true≢false
        (ap (λ o. is_gt (ordering_then o (slice_cmp nat_cmp middle path))) (sym (above e d less)) ∙ high))
    cases (inr (inl more)) (inr (inr less)) rest =
        absurd (true≢false
        (ap (λ o. is_gt (ordering_then o (slice_cmp nat_cmp middle path))) (sym (above e d less)) ∙ high))
    cases (inl same) (inr (inl more)) rest = let is : c ≡ d = eqb-true c d parts.0 in absurd (omega arith)
    cases (inr (inl more)) (inl also) rest = let is : c ≡ d = eqb-true c d parts.0 in absurd (omega arith)
    cases (inr (inl more)) (inr (inl also)) rest = let is : c ≡ d = eqb-true c d parts.0 in absurd (omega arith)

-- What begins with the prefix is at least as long.
pub prefix-length : (prefix path : List ℕ) → starts_with nat_eq path prefix ≡ true → length prefix ≤ length path
prefix-length [] path h = omega arith
prefix-length (c ∷ prefix) [] h = absurd (true≢false (sym h))
prefix-length (c ∷ prefix) (d ∷ path) h =
    let rest = prefix-length prefix path (and_parts (nat_eq c d) (starts_with nat_eq path prefix) h).1 in
    omega (arith, rest)
