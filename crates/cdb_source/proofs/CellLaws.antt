-- The least and the greatest elevation of a cell, as the least and the greatest of a set.
use Rattle.std.proofs.Common.{◌≡◌, ℕ, zero, suc, ◌<◌, ◌≤◌, ℤ, ◌≤ℤ◌, true, false, List, Option, Some, None, refl, sym, ap, ◌∙◌, arith, inl, inr, ◌⊎◌, subst}
use Rattle.std.specs.Prelude.{int_lt}
use Rattle.std.proofs.lemmas.Int.{ints}
use Rattle.std.proofs.lemmas.Bool.{cases_lt, cases_Bool}
use Rattle.std.proofs.Math.Nat.{mul-pos}
use Rattle.cdb_grid.specs.Units.{step}
use Rattle.cdb_grid.specs.Grid.{Place, step_east, IsCorner, beside}
use Rattle.cdb_grid.proofs.GridLaws.{corner_in_cell, child_corner, in_parent, in_child, width_of-pos}
use Rattle.cdb_grid.proofs.UnitLaws.{step-pos}
use Rattle.cdb_source.specs.Values.{Sampled, elevation, lesser, greater, low, high}
use Rattle.cdb_source.specs.Meaning.{ValueIn, IsLeast, IsGreatest, IsLow, IsHigh}

-- the members of two sets
abbrev Either : (ℤ → Type 0) → (ℤ → Type 0) → ℤ → Type 0
Either P Q v = P v ⊎ Q v

le_of_lt : (y x w : ℤ) → int_lt y x ≡ true → x ≤ℤ w → y ≤ℤ w
le_of_lt y x w t k = grind (arith, ints)

le_of_not : (y x w : ℤ) → int_lt y x ≡ false → y ≤ℤ w → x ≤ℤ w
le_of_not y x w t k = grind (arith, ints)

ge_of_lt : (y x w : ℤ) → int_lt x y ≡ true → w ≤ℤ x → w ≤ℤ y
ge_of_lt y x w t k = grind (arith, ints)

ge_of_not : (y x w : ℤ) → int_lt x y ≡ false → w ≤ℤ y → w ≤ℤ x
ge_of_not y x w t k = grind (arith, ints)

le_same : (x w : ℤ) → x ≡ w → x ≤ℤ w
le_same x w e = omega (arith, ints)

le_both : (x y : ℤ) → x ≤ℤ y → y ≤ℤ x → x ≡ y
le_both x y h k = omega (arith, ints)

least_of_either : (P Q : ℤ → Type 0) (a b : Option ℤ) → IsLeast P a → IsLeast Q b → IsLeast (Either P Q) (lesser a b)
least_of_either P Q None None p q = λ v m. elim m [ inl x ↦ p v x | inr y ↦ q v y ]
least_of_either P Q (Some x) None p q = (inl p.0, λ w m. elim m [ inl l ↦ p.1 w l | inr r ↦ absurd (q w r) ])
least_of_either P Q None (Some y) p q = (inr q.0, λ w m. elim m [ inl l ↦ absurd (p w l) | inr r ↦ q.1 w r ])
least_of_either P Q (Some x) (Some y) p q = elim (cases_Bool (int_lt y x)) [
  | inl t ↦ rw t (inr q.0, λ w m. elim m [ inl l ↦ le_of_lt y x w t (p.1 w l) | inr r ↦ q.1 w r ])
  | inr f ↦ rw f (inl p.0, λ w m. elim m [ inl l ↦ p.1 w l | inr r ↦ le_of_not y x w f (q.1 w r) ])
]

greatest_of_either : (P Q : ℤ → Type 0) (a b : Option ℤ) → IsGreatest P a → IsGreatest Q b
    → IsGreatest (Either P Q) (greater a b)
greatest_of_either P Q None None p q = λ v m. elim m [ inl x ↦ p v x | inr y ↦ q v y ]
greatest_of_either P Q (Some x) None p q = (inl p.0, λ w m. elim m [ inl l ↦ p.1 w l | inr r ↦ absurd (q w r) ])
greatest_of_either P Q None (Some y) p q = (inr q.0, λ w m. elim m [ inl l ↦ absurd (p w l) | inr r ↦ q.1 w r ])
greatest_of_either P Q (Some x) (Some y) p q = elim (cases_Bool (int_lt x y)) [
  | inl t ↦ rw t (inr q.0, λ w m. elim m [ inl l ↦ ge_of_lt y x w t (p.1 w l) | inr r ↦ q.1 w r ])
  | inr f ↦ rw f (inl p.0, λ w m. elim m [ inl l ↦ p.1 w l | inr r ↦ ge_of_not y x w f (q.1 w r) ])
]

-- the least, and the greatest, of one value
least_of_one : (o : Option ℤ) → IsLeast (λ v. o ≡ Some v) o
least_of_one None = λ v e. cc
least_of_one (Some x) = (refl, λ w e. let same : x ≡ w = cc in le_same x w same)

greatest_of_one : (o : Option ℤ) → IsGreatest (λ v. o ≡ Some v) o
greatest_of_one None = λ v e. cc
greatest_of_one (Some x) = (refl, λ w e. let same : w ≡ x = cc in le_same w x same)

-- of two sets with the same members
least_of_same : (P Q : ℤ → Type 0) → ((v : ℤ) → P v → Q v) → ((v : ℤ) → Q v → P v) → (r : Option ℤ)
    → IsLeast P r → IsLeast Q r
least_of_same P Q to from None p = λ v m. p v (from v m)
least_of_same P Q to from (Some x) p = (to x p.0, λ w m. p.1 w (from w m))

greatest_of_same : (P Q : ℤ → Type 0) → ((v : ℤ) → P v → Q v) → ((v : ℤ) → Q v → P v) → (r : Option ℤ) → IsGreatest P r
    → IsGreatest Q r
greatest_of_same P Q to from None p = λ v m. p v (from v m)
greatest_of_same P Q to from (Some x) p = (to x p.0, λ w m. p.1 w (from w m))

-- a set has one least and one greatest member
pub least_only : (P : ℤ → Type 0) (a b : Option ℤ) → IsLeast P a → IsLeast P b → a ≡ b
least_only P None None p q = refl
least_only P None (Some y) p q = absurd (p y q.0)
least_only P (Some x) None p q = absurd (q x p.0)
least_only P (Some x) (Some y) p q = ap (λ (z : ℤ). Some z) (le_both x y (p.1 y q.0) (q.1 x p.0))

pub greatest_only : (P : ℤ → Type 0) (a b : Option ℤ) → IsGreatest P a → IsGreatest P b → a ≡ b
greatest_only P None None p q = refl
greatest_only P None (Some y) p q = absurd (p y q.0)
greatest_only P (Some x) None p q = absurd (q x p.0)
greatest_only P (Some x) (Some y) p q = ap (λ (z : ℤ). Some z) (le_both x y (q.1 x p.0) (p.1 y q.0))

-- the elevations of a cell are its corner's and those of its four finer cells
module _ (ss : List Sampled) (h : ℕ) (c : Place) where
  abbrev Child : ℕ → ℕ → ℤ → Type 0
  Child i j = ValueIn ss h (beside h c i j)

  abbrev Corner : ℤ → Type 0
  Corner v = elevation ss (suc h) c ≡ Some v

  abbrev Parts : ℤ → Type 0
  Parts = Either Corner (Either (Either (Child 0 0) (Child 0 1)) (Either (Child 1 0) (Child 1 1)))

  which : (i j : ℕ) (v : ℤ) → i < 2 → j < 2 → Child i j v → Parts v
  which zero zero v up right m = inr (inl (inl m))
  which zero (suc zero) v up right m = inr (inl (inr m))
  which (suc zero) zero v up right m = inr (inr (inl m))
  which (suc zero) (suc zero) v up right m = inr (inr (inr m))
  which (suc (suc i)) j v up right m = absurd (omega arith)
  which zero (suc (suc j)) v up right m = absurd (omega arith)
  which (suc zero) (suc (suc j)) v up right m = absurd (omega arith)

  to_parts : h < 34 → IsCorner (suc h) c → (v : ℤ) → ValueIn ss (suc h) c v → Parts v
  to_parts lt corner v m =
      let k = m.0 in let q = m.1 in let r = m.2 in
      elim (cases_lt h k) [
        | inl over ↦
            let level : k ≡ suc h = let f = r.fine in omega arith in
            let on : IsCorner (suc h) q = subst (λ n. IsCorner n q) level r.corner in
            let same : q ≡ c = corner_in_cell (suc h) c q lt corner on r.inside in
            inl (ap (λ (n : ℕ). elevation ss n c) (sym level) ∙ ap (elevation ss k) (sym same) ∙ r.value)
        | inr finer ↦
            let one = in_child h c q lt corner r.inside in
            which one.up one.right v
            one.up_below one.right_below
            (k, q, record { real = r.real; fine = finer; corner = r.corner; inside = one.inside; value = r.value })
      ]

  from_child : h < 34 → IsCorner (suc h) c → (i j : ℕ) → i < 2 → j < 2 → (v : ℤ) → Child i j v → ValueIn ss (suc h) c v
  from_child lt corner i j up right v m =
      let r = m.2 in let f = r.fine in (
        m.0,
        m.1,
        record {
          real = r.real;
          fine = omega arith;
          corner = r.corner;
          inside = in_parent h i j c m.1 lt up right corner r.inside;
          value = r.value;
        },
      )

  from_corner : h < 34 → IsCorner (suc h) c → (v : ℤ) → Corner v → ValueIn ss (suc h) c v
  from_corner lt corner v e =
      let p : 0 < step (suc h) = step-pos (suc h) in
      let q : 0 < step_east (suc h) c = mul-pos (width_of-pos c) p in (
        suc h,
        c,
        record {
          real = omega arith;
          fine = omega arith;
          corner = corner;
          inside = record { south = omega arith; north = omega arith; west = omega arith; east = omega arith };
          value = e;
        },
      )

  from_parts : h < 34 → IsCorner (suc h) c → (v : ℤ) → Parts v → ValueIn ss (suc h) c v
  from_parts lt corner v m =
      let one : 1 < 2 = omega arith in let none : 0 < 2 = omega arith in
      elim m [
        | inl e ↦ from_corner lt corner v e
        | inr rows ↦ elim rows [
          | inl south ↦ elim south [
            | inl w ↦ from_child lt corner 0 0 none none v w
            | inr e ↦ from_child lt corner 0 1 none one v e
          ]
          | inr north ↦ elim north [
            | inl w ↦ from_child lt corner 1 0 one none v w
            | inr e ↦ from_child lt corner 1 1 one one v e
          ]
        ]
      ]

none_in_zero : (ss : List Sampled) (c : Place) (v : ℤ) → ValueIn ss 0 c v → ⊥
none_in_zero ss c v m = let r = m.2 in let a = r.real in let b = r.fine in omega arith

pub low_is : (ss : List Sampled) (h : ℕ) (c : Place) → h ≤ 34 → IsCorner h c → IsLow ss h c (low ss h c)
unfolding low
low_is ss zero c le corner = none_in_zero ss c
low_is ss (suc h) c le corner =
    let one : 1 < 2 = omega arith in let none : 0 < 2 = omega arith in let fine : h ≤ 34 = omega arith in
    let a = low_is ss h (beside h c 0 0) fine (child_corner h 0 0 c le none none corner) in
    let b = low_is ss h (beside h c 0 1) fine (child_corner h 0 1 c le none one corner) in
    let d = low_is ss h (beside h c 1 0) fine (child_corner h 1 0 c le one none corner) in
    let e = low_is ss h (beside h c 1 1) fine (child_corner h 1 1 c le one one corner) in
    least_of_same (Parts ss h c) (ValueIn ss (suc h) c) (from_parts ss h c le corner) (to_parts ss h c le corner) _
    (least_of_either (Corner ss h c) _ (elevation ss (suc h) c) _ (least_of_one (elevation ss (suc h) c))
    (least_of_either _ _ _ _ (least_of_either _ _ _ _ a b) (least_of_either _ _ _ _ d e)))

pub high_is : (ss : List Sampled) (h : ℕ) (c : Place) → h ≤ 34 → IsCorner h c → IsHigh ss h c (high ss h c)
unfolding high
high_is ss zero c le corner = none_in_zero ss c
high_is ss (suc h) c le corner =
    let one : 1 < 2 = omega arith in let none : 0 < 2 = omega arith in let fine : h ≤ 34 = omega arith in
    let a = high_is ss h (beside h c 0 0) fine (child_corner h 0 0 c le none none corner) in
    let b = high_is ss h (beside h c 0 1) fine (child_corner h 0 1 c le none one corner) in
    let d = high_is ss h (beside h c 1 0) fine (child_corner h 1 0 c le one none corner) in
    let e = high_is ss h (beside h c 1 1) fine (child_corner h 1 1 c le one one corner) in
    greatest_of_same (Parts ss h c) (ValueIn ss (suc h) c) (from_parts ss h c le corner) (to_parts ss h c le corner) _
    (greatest_of_either (Corner ss h c) _ (elevation ss (suc h) c) _ (greatest_of_one (elevation ss (suc h) c))
    (greatest_of_either _ _ _ _ (greatest_of_either _ _ _ _ a b) (greatest_of_either _ _ _ _ d e)))
