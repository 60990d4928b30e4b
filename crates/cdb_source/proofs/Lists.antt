-- Elements of lists, and where they stand.
use Rattle.std.proofs.Common.{◌≡◌, ℕ, zero, suc, ◌+◌, ◌<◌, List, [], ◌∷◌, ◌++◌, length, take, ◌⊎◌, inl, inr}
use Rattle.std.proofs.Common.{slice_get, Option, Some, None, Contains, refl, ap, ◌∙◌, subst, arith}
use Rattle.std.proofs.lemmas.Option.{slice_get-get_or, same_Some, none-some}

pub some_at : {A : Type 0} (xs : List A) (k : ℕ) → k < length xs → (x : A) × (slice_get xs k ≡ Some x)
some_at [] k l = absurd (omega (arith, l))
some_at (x ∷ xs) zero l = (x, refl)
some_at (x ∷ xs) (suc k) l = some_at xs k (omega (arith, l))

-- an element that a list has stands at its place
pub at_place : {A : Type 0} (xs : List A) (x : A) (c : Contains xs x) → slice_get xs c.0 ≡ Some x
at_place xs x c = slice_get-get_or xs c.0 x c.1 ∙ ap Some c.2

-- the first elements
pub in_take : {A : Type 0} (n : ℕ) (xs : List A) (k : ℕ) (x : A) → slice_get (take n xs) k ≡ Some x → (k < n)
    × (slice_get xs k ≡ Some x)
in_take zero xs k x e = absurd (none-some x e)
in_take (suc n) [] k x e = absurd (none-some x e)
in_take (suc n) (y ∷ xs) zero x e = (omega arith, e)
in_take (suc n) (y ∷ xs) (suc k) x e = let i = in_take n xs k x e in (omega (arith, i.0), i.1)

pub to_take : {A : Type 0} (n : ℕ) (xs : List A) (k : ℕ) (x : A) → k < n → slice_get xs k ≡ Some x
    → slice_get (take n xs) k ≡ Some x
to_take zero xs k x l e = absurd (omega (arith, l))
to_take (suc n) [] k x l e = e
to_take (suc n) (y ∷ xs) zero x l e = e
to_take (suc n) (y ∷ xs) (suc k) x l e = to_take n xs k x (omega (arith, l)) e

-- a list, cut around the element at a place
pub record Split {A : Type 0} (xs : List A) (k : ℕ) (y : A) : Type 0 where
  pub earlier : List A
  pub later : List A
  pub is : xs ≡ earlier ++ y ∷ later
  pub size : length earlier ≡ k
  pub rest : (i : ℕ) (z : A) → slice_get later i ≡ Some z → slice_get xs (k + 1 + i) ≡ Some z

pub split : {A : Type 0} (xs : List A) (k : ℕ) (y : A) → slice_get xs k ≡ Some y → Split xs k y
split [] k y e = absurd (none-some y e)
split {A = A} (x ∷ xs) zero y e = record {
  earlier = [];
  later = xs;
  is = ap (λ z. z ∷ xs) (same_Some x y e);
  size = refl;
  rest = λ i z at. let G : ℕ → Type 0 = λ j. slice_get (x ∷ xs) j ≡ Some z in let n : suc i ≡ 0 + 1 + i = omega arith in
      subst G n at;
}
split {A = A} (x ∷ xs) (suc k) y e = up (split xs k y e)
  where
    up : Split xs k y → Split (x ∷ xs) (suc k) y
    up s = record {
      earlier = x ∷ s.earlier;
      later = s.later;
      is = ap (λ t. x ∷ t) s.is;
      size = ap suc s.size;
      rest = λ i z at. let G : ℕ → Type 0 = λ j. slice_get (x ∷ xs) j ≡ Some z in
          let n : suc (k + 1 + i) ≡ suc k + 1 + i = omega arith in subst G n (s.rest i z at);
    }

-- one element more
pub data AtEnd {A : Type 0} (xs : List A) (y : A) (k : ℕ) (x : A) : Type 0 where
  before : slice_get xs k ≡ Some x → AtEnd xs y k x
  last : k ≡ length xs → y ≡ x → AtEnd xs y k x

pub at_end : {A : Type 0} (xs : List A) (y : A) (k : ℕ) (x : A) → slice_get (xs ++ y ∷ []) k ≡ Some x → AtEnd xs y k x
at_end [] y zero x e = AtEnd.last refl (same_Some y x e)
at_end [] y (suc k) x e = absurd (none-some x e)
at_end (z ∷ xs) y zero x e = AtEnd.before e
at_end (z ∷ xs) y (suc k) x e = up (at_end xs y k x e)
  where
    up : AtEnd xs y k x → AtEnd (z ∷ xs) y (suc k) x
    up (AtEnd.before at) = AtEnd.before at
    up (AtEnd.last end is) = AtEnd.last (ap suc end) is

pub get-left : {A : Type 0} (xs ys : List A) (i : ℕ) (y : A) → slice_get xs i ≡ Some y → slice_get (xs ++ ys) i ≡ Some y
get-left [] ys i y e = absurd (none-some y e)
get-left (x ∷ xs) ys zero y e = e
get-left (x ∷ xs) ys (suc i) y e = get-left xs ys i y e

-- which elements a list has
pub not_in_none : {A : Type 0} (x : A) → Contains [] x → ⊥
not_in_none x c = let lt : c.0 < 0 = c.1 in omega (arith, lt)

pub contains_later : {A : Type 0} (x : A) (xs : List A) (y : A) → Contains xs y → Contains (x ∷ xs) y
contains_later x xs y c = let lt = c.1 in (suc c.0, omega (arith, lt), c.2)

pub contains_either : {A : Type 0} (x : A) (xs : List A) (y : A) → Contains (x ∷ xs) y → (x ≡ y) ⊎ Contains xs y
contains_either x xs y (zero, k, e) = inl e
contains_either x xs y (suc i, k, e) = inr (i, omega (arith, k), e)

pub not_some : {A : Type 0} (o : Option A) → ((x : A) → o ≡ Some x → ⊥) → o ≡ None
not_some None h = refl
not_some (Some x) h = absurd (h x refl)

pub at_contains : {A : Type 0} (xs : List A) (x : A) → Contains xs x → (k : ℕ) × (slice_get xs k ≡ Some x)
at_contains xs x c = (c.0, slice_get-get_or xs c.0 x c.1 ∙ ap Some c.2)
