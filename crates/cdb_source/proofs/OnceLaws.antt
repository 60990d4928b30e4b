-- Lists in which no tile stands twice, ascending ones among them.
use Rattle.std.proofs.Common.{◌≡◌, ℕ, zero, suc, ◌<◌, ◌≤◌, ◌⊎◌, inl, inr, List, [], ◌∷◌, ◌++◌, length, get_or, Option, Some, None, refl, sym, ◌∙◌, ap, subst, arith, lit<}
use Rattle.std.specs.List.{Contains, remove, slice_get}
use Rattle.std.specs.List.Sorted.{IsPermutation}
use Rattle.std.proofs.lemmas.Option.{slice_get_within, get_or_from_slice_get}
use Rattle.std.proofs.lemmas.List.Elements.{Contains-get_or, Contains-append_left, Contains-append_right, Contains-append_cases}
use Rattle.std.proofs.lemmas.List.Sorted.{IsPermutation-remove, Contains-permutation, length_permutation}
use Rattle.std.specs.Prelude.{AllPairs}
use Rattle.std.specs.declared.cmp.Ordering.TheVariants.{Less}
use Rattle.std.proofs.lemmas.Bool.{cases_lt}
use Rattle.std.proofs.lemmas.Option.{slice_get_cases, slice_get_past}
use Rattle.cdb_grid.specs.Order.{tile_cmp}
use Rattle.cdb_grid.specs.OrderLaws.{tile_cmp-total}
use Rattle.cdb_grid.specs.declared.tile.Tile.{Tile}
use Rattle.cdb_source.proofs.Lists.{at_contains}

-- no tile stands twice
abbrev pub Once : List Tile → Type 0
Once xs = (i j : ℕ) → i < length xs → slice_get xs i ≡ slice_get xs j → i ≡ j

pub contains_at : (xs : List Tile) (k : ℕ) (x : Tile) → slice_get xs k ≡ Some x → Contains xs x
contains_at xs k x e = subst (λ y. Contains xs y) (get_or_from_slice_get xs k x x e)
    (Contains-get_or xs k x (slice_get_within xs k x e))

pub in_one : (x y : Tile) → Contains (x ∷ []) y → x ≡ y
in_one x y c = at c.0 c.1 c.2
  where
    at : (k : ℕ) → k < length (x ∷ []) → get_or (x ∷ []) k y ≡ y → x ≡ y
    at zero lt e = e
    at (suc k) lt e = let l : suc k < 1 = lt in absurd (omega arith)

pub once_none : Once []
once_none i j lt e = let l : i < 0 = lt in absurd (omega arith)

pub once_cons : (x : Tile) (xs : List Tile) → (Contains xs x → ⊥) → Once xs → Once (x ∷ xs)
once_cons x xs out o zero zero lt e = refl
once_cons x xs out o zero (suc j) lt e = absurd (out (contains_at xs j x (sym e)))
once_cons x xs out o (suc i) zero lt e = absurd (out (contains_at xs i x e))
once_cons x xs out o (suc i) (suc j) lt e = let l : suc i < suc (length xs) = lt in ap suc (o i j (omega arith) e)

pub once_tail : (x : Tile) (xs : List Tile) → Once (x ∷ xs) → Once xs
once_tail x xs o i j lt e =
    let s : suc i ≡ suc j = o (suc i) (suc j) (let l : suc i < suc (length xs) = omega arith in l) e in omega arith

pub once_head : (x : Tile) (xs : List Tile) → Once (x ∷ xs) → Contains xs x → ⊥
once_head x xs o c =
    let a = at_contains xs x c in
    let s : 0 ≡ suc a.0 = o 0 (suc a.0) (let l : 0 < suc (length xs) = omega arith in l) (sym a.1) in omega arith

pub once_append : (xs ys : List Tile) → Once xs → Once ys → ((x : Tile) → Contains xs x → Contains ys x → ⊥)
    → Once (xs ++ ys)
once_append [] ys o p apart = p
once_append (x ∷ xs) ys o p apart =
    once_cons x (xs ++ ys)
    (λ c. out (Contains-append_cases xs ys x c))
    (once_append xs ys (once_tail x xs o) p (λ y a b. apart y (Contains-append_right (x ∷ []) xs y a) b))
  where
    out : Contains xs x ⊎ Contains ys x → ⊥
    out (inl c) = once_head x xs o c
    out (inr c) = apart x (Contains-append_left (x ∷ []) xs x (0, lit< tt, refl)) c

-- the tiles of one list stand in another that is at least as long
pub length_le : (xs ys : List Tile) → Once xs → ((t : Tile) → Contains xs t → Contains ys t) → length xs ≤ length ys
length_le [] ys o into = omega arith
length_le (x ∷ xs) ys o into =
    let c : Contains ys x = into x (Contains-append_left (x ∷ []) xs x (0, lit< tt, refl)) in
    let p : IsPermutation ys (x ∷ remove ys c.0) = IsPermutation-remove ys c.0 x c.1 (sym c.2) in
    let n : length (x ∷ remove ys c.0) ≡ length ys = length_permutation ys (x ∷ remove ys c.0) p in
    let m : suc (length (remove ys c.0)) ≡ length ys = n in
    let rest : length xs ≤ length (remove ys c.0) = length_le xs (remove ys c.0) (once_tail x xs o)
    (λ t h. left (remove ys c.0) t h (Contains-append_cases (x ∷ []) (remove ys c.0) t
    (Contains-permutation ys (x ∷ remove ys c.0) t p (into t (Contains-append_right (x ∷ []) xs t h))))) in
    let goal : suc (length xs) ≤ length ys = omega arith in goal
  where
    left : (zs : List Tile) (t : Tile) → Contains xs t → Contains (x ∷ []) t ⊎ Contains zs t → Contains zs t
    left zs t h (inl i) = absurd (once_head x xs o (subst (λ y. Contains xs y) (sym (in_one x t i)) h))
    left zs t h (inr i) = i

-- a tile isn't before itself
pub irreflexive : (t : Tile) → tile_cmp t t ≡ Less → ⊥
irreflexive t e = let a = tile_cmp-total.antisymm t t in cc

-- so no tile of an ascending list stands twice
apart : (xs : List Tile) → AllPairs (λ s t. tile_cmp s t ≡ Less) xs → (i j : ℕ) → i < j → j < length xs → slice_get xs i
    ≡ slice_get xs j → ⊥
apart xs up i j p lt e =
    elim (slice_get_cases xs j).1 [
      | inl c ↦
          let x : Tile = c.0 in
          let at_j : get_or xs j x ≡ x = get_or_from_slice_get xs j x x c.2 in
          let at_i : get_or xs i x ≡ x = get_or_from_slice_get xs i x x (e ∙ c.2) in
          let less : tile_cmp (get_or xs i x) (get_or xs j x) ≡ Less = up i j x p lt in
          irreflexive x
          (subst (λ t. tile_cmp x t ≡ Less) at_j (subst (λ t. tile_cmp t (get_or xs j x) ≡ Less) at_i less))
      | inr n ↦ let past = n.0 in absurd (omega arith)
    ]

pub ascending_once : (xs : List Tile) → AllPairs (λ s t. tile_cmp s t ≡ Less) xs → (i j : ℕ) → i < length xs
    → slice_get xs i ≡ slice_get xs j → i ≡ j
ascending_once xs up i j lt e =
    elim (cases_lt i j) [
      | inl p ↦ elim (cases_lt j (length xs)) [
        | inl within ↦ absurd (apart xs up i j p within e)
        | inr past ↦ absurd (none (slice_get xs i) (slice_get_within_some xs i lt) (e ∙ slice_get_past xs j past))
      ]
      | inr p ↦ elim (cases_lt j i) [
        | inl q ↦ absurd (apart xs up j i q lt (sym e))
        | inr q ↦ omega arith
      ]
    ]
  where
    none : (o : Option Tile) → (x : Tile) × (o ≡ Some x) → o ≡ None → ⊥
    none o s n = let a = s.1 in cc

    slice_get_within_some : (xs : List Tile) (i : ℕ) → i < length xs → (x : Tile) × (slice_get xs i ≡ Some x)
    slice_get_within_some [] i lt = let l : i < 0 = lt in absurd (omega arith)
    slice_get_within_some (x ∷ xs) zero lt = (x, refl)
    slice_get_within_some (x ∷ xs) (suc i) lt = slice_get_within_some xs i (let l : suc i < suc (length xs) = lt in
        let m : i < length xs = omega arith in m)
