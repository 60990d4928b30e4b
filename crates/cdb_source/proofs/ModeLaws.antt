-- The mode of a list: the most frequent value, and of equally frequent ones the smallest.
use Rattle.std.proofs.Common.{◌≡◌, ℕ, zero, ◌<◌, ◌≤◌, ℤ, ◌≤ℤ◌, Bool, true, false, cond, ◌&&◌, ◌||◌, nat_lt, nat_eq, List, [], ◌∷◌, Option, Some, None, refl, sym, ap, ◌∙◌, arith, inl, inr, ◌⊎◌, subst}
use Rattle.std.specs.Prelude.{int_lt, fold, Contains}
use Rattle.std.proofs.lemmas.Int.{ints}
use Rattle.std.proofs.lemmas.Bool.{cases_lt, cases_Bool}
use Rattle.std.proofs.lemmas.Bool.Decides.{nat_tests}
use Rattle.cdb_source.specs.Values.{count_of, oftener, mode}
use Rattle.cdb_source.specs.Meaning.{IsMode}
use Rattle.cdb_source.proofs.Lists.{not_in_none, contains_later, contains_either}

-- members of a list with one value more in front
here : (x y : ℤ) (xs : List ℤ) → y ≡ x → Contains (x ∷ xs) y
here x y xs e = (zero, omega arith, sym e)

module _ (all : List ℤ) where
  -- v is more frequent than w, or as frequent and not greater
  abbrev Beats : ℤ → ℤ → Type 0
  Beats v w = (count_of all w < count_of all v) ⊎ ((count_of all w ≡ count_of all v) × (v ≤ℤ w))

  beats_itself : (v : ℤ) → Beats v v
  beats_itself v = inr (refl, omega (arith, ints))

  beats_through : (u v w : ℤ) → Beats u v → Beats v w → Beats u w
  beats_through u v w (inl a) (inl b) = inl (omega arith)
  beats_through u v w (inl a) (inr b) = let e = b.0 in inl (omega arith)
  beats_through u v w (inr a) (inl b) = let e = a.0 in inl (omega arith)
  beats_through u v w (inr a) (inr b) = let e = a.0 in let f = b.0 in let g = a.1 in
      let h = b.1 in inr (omega arith, omega (arith, ints))

  abbrev is_beaten : ℤ → ℤ → Bool
  is_beaten v w = nat_lt (count_of all v) (count_of all w) || (nat_eq (count_of all v) (count_of all w) && int_lt w v)

  beaten : (m n : ℕ) (v w : ℤ) → (nat_lt m n || (nat_eq m n && int_lt w v)) ≡ true → (m < n) ⊎ ((m ≡ n) × (w ≤ℤ v))
  beaten m n v w t = elim (cases_lt m n) [
    | inl lt ↦ inl lt
    | inr ge ↦ inr (equal m n v w ge t, less m n v w ge t)
  ]
    where
      equal : (m n : ℕ) (v w : ℤ) → n ≤ m → (nat_lt m n || (nat_eq m n && int_lt w v)) ≡ true → m ≡ n
      equal m n v w ge t = grind (arith, nat_tests)

      less : (m n : ℕ) (v w : ℤ) → n ≤ m → (nat_lt m n || (nat_eq m n && int_lt w v)) ≡ true → w ≤ℤ v
      less m n v w ge t = grind (arith, nat_tests, ints)

  unbeaten : (m n : ℕ) (v w : ℤ) → (nat_lt m n || (nat_eq m n && int_lt w v)) ≡ false → (n < m) ⊎ ((n ≡ m) × (v ≤ℤ w))
  unbeaten m n v w f = elim (cases_lt n m) [
    | inl lt ↦ inl lt
    | inr ge ↦ inr (equal m n v w ge f, less m n v w ge f)
  ]
    where
      equal : (m n : ℕ) (v w : ℤ) → m ≤ n → (nat_lt m n || (nat_eq m n && int_lt w v)) ≡ false → n ≡ m
      equal m n v w ge t = grind (arith, nat_tests)

      less : (m n : ℕ) (v w : ℤ) → m ≤ n → (nat_lt m n || (nat_eq m n && int_lt w v)) ≡ false → v ≤ℤ w
      less m n v w ge t = grind (arith, nat_tests, ints)

  -- the better of two is one of them, and beats both
  one_of : (v w : ℤ) → (oftener all v w ≡ v) ⊎ (oftener all v w ≡ w)
  one_of v w = elim (is_beaten v w) as (λ b. (cond b w v ≡ v) ⊎ (cond b w v ≡ w)) [ true ↦ inr refl | false ↦ inl refl ]

  beats_first : (v w : ℤ) → Beats (oftener all v w) v
  beats_first v w = elim (cases_Bool (is_beaten v w)) [
    | inl t ↦ rw t (beaten (count_of all v) (count_of all w) v w t)
    | inr f ↦ rw f (beats_itself v)
  ]

  beats_second : (v w : ℤ) → Beats (oftener all v w) w
  beats_second v w = elim (cases_Bool (is_beaten v w)) [
    | inl t ↦ rw t (beats_itself w)
    | inr f ↦ rw f (unbeaten (count_of all v) (count_of all w) v w f)
  ]

  fold_one : (v : ℤ) (values : List ℤ) → (fold (oftener all) v values ≡ v)
      ⊎ Contains values (fold (oftener all) v values)
  fold_one v [] = inl refl
  fold_one v (w ∷ values) =
      let rec = fold_one (oftener all v w) values in
      elim rec [
        | inl e ↦ elim (one_of v w)
            [ inl p ↦ inl (e ∙ p) | inr q ↦ inr (here w (fold (oftener all) (oftener all v w) values) values (e ∙ q)) ]
        | inr m ↦ inr (contains_later w values (fold (oftener all) (oftener all v w) values) m)
      ]

  fold_first : (v : ℤ) (values : List ℤ) → Beats (fold (oftener all) v values) v
  fold_first v [] = beats_itself v
  fold_first v (w ∷ values) =
      let rec = fold_first (oftener all v w) values in
      beats_through (fold (oftener all) (oftener all v w) values) (oftener all v w) v rec (beats_first v w)

  fold_rest : (v : ℤ) (values : List ℤ) (y : ℤ) → Contains values y → Beats (fold (oftener all) v values) y
  fold_rest v [] y m = absurd (not_in_none y m)
  fold_rest v (w ∷ values) y m =
      let rec = fold_rest (oftener all v w) values y in
      elim (contains_either w values y m) [
        | inl e ↦ beats_through (fold (oftener all) (oftener all v w) values) (oftener all v w) y
            (fold_first (oftener all v w) values) (rw (← e) (beats_second v w))
        | inr k ↦ rec k
      ]

  beats_only : (v w : ℤ) → Beats v w → Beats w v → v ≡ w
  beats_only v w (inl a) (inl b) = absurd (omega arith)
  beats_only v w (inl a) (inr b) = let e = b.0 in absurd (omega arith)
  beats_only v w (inr a) (inl b) = let e = a.0 in absurd (omega arith)
  beats_only v w (inr a) (inr b) = let g = a.1 in let h = b.1 in omega (arith, ints)

-- the mode is the most frequent value, and of equally frequent ones the smallest
pub mode_is : (values : List ℤ) → IsMode values (mode values)
unfolding mode
mode_is [] = not_in_none
mode_is (v ∷ values) = record {
  there = elim (fold_one (v ∷ values) v values) [
    | inl e ↦ here v (fold (oftener (v ∷ values)) v values) values e
    | inr m ↦ contains_later v values (fold (oftener (v ∷ values)) v values) m
  ];
  greatest = λ w m. elim (contains_either v values w m) [
    | inl e ↦ subst (λ (z : ℤ). Beats (v ∷ values) (fold (oftener (v ∷ values)) v values) z) e
        (fold_first (v ∷ values) v values)
    | inr k ↦ fold_rest (v ∷ values) v values w k
  ];
}

-- and nothing else is
pub mode_only : (values : List ℤ) (a b : Option ℤ) → IsMode values a → IsMode values b → a ≡ b
mode_only values None None k l = refl
mode_only values None (Some w) k l = absurd (k w l.there)
mode_only values (Some v) None k l = absurd (l v k.there)
mode_only values (Some v) (Some w) k l =
    ap (λ (z : ℤ). Some z) (beats_only values v w (k.greatest w l.there) (l.greatest v k.there))
