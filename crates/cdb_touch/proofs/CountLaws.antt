-- Laws of how many tiles a set has.
use Rattle.std.proofs.Common.{◌≡◌, ℕ, ◌+◌, ◌≤◌, ◌↔◌, ◌⊎◌, inl, inr, List, [], ◌∷◌, ◌++◌, length, refl, subst, arith, lit<, length-append}
use Rattle.std.specs.List.{Contains}
use Rattle.std.proofs.lemmas.List.Elements.{Contains-append_left, Contains-append_right, Contains-append_cases}
use Rattle.cdb_grid.specs.declared.tile.Tile.{Tile}
use Rattle.cdb_source.specs.declared.head.SourceHead.{SourceHead}
use Rattle.cdb_source.specs.Reached.{Reaches, IsReachCount, IsLoad}
use Rattle.cdb_source.proofs.OnceLaws.{in_one, once_none, once_cons, once_append, length_le}
use Rattle.cdb_source.proofs.Lists.{not_in_none}
use Rattle.cdb_touch.specs.inside.Count.{HasCount}

-- a set has one count
pub HasCount-only : {M : Tile → Type 0} (m n : ℕ) → HasCount M m → HasCount M n → m ≡ n
HasCount-only m n a b =
    let p : length a.tiles ≤ length b.tiles =
    length_le a.tiles b.tiles a.listed.once (λ t c. (b.listed.exact t).1 ((a.listed.exact t).0 c)) in
    let q : length b.tiles ≤ length a.tiles =
    length_le b.tiles a.tiles b.listed.once (λ t c. (a.listed.exact t).1 ((b.listed.exact t).0 c)) in
    let x = a.counted in let y = b.counted in omega arith

pub HasCount-none : {M : Tile → Type 0} → ((t : Tile) → M t → ⊥) → HasCount M 0
HasCount-none out = record {
  tiles = [];
  listed = record { exact = λ t. (λ c. absurd (not_in_none t c), λ m. absurd (out t m)); once = once_none };
  counted = refl;
}

pub HasCount-iff : {A B : Tile → Type 0} (n : ℕ) → ((t : Tile) → A t ↔ B t) → HasCount A n → HasCount B n
HasCount-iff n same a = record {
  tiles = a.tiles;
  listed = record {
    exact = λ t. (λ c. (same t).0 ((a.listed.exact t).0 c), λ m. (a.listed.exact t).1 ((same t).1 m));
    once = a.listed.once;
  };
  counted = a.counted;
}

pub HasCount-one : {M : Tile → Type 0} (x : Tile) → M x → ((t : Tile) → M t → x ≡ t) → HasCount M 1
HasCount-one {M} x m only = record {
  tiles = x ∷ [];
  listed = record {
    exact = λ t. (λ c. subst M (in_one x t c) m, λ k. subst (λ y. Contains (x ∷ []) y) (only t k) (0, lit< tt, refl));
    once = once_cons x [] (not_in_none x) once_none;
  };
  counted = refl;
}

pub HasCount-union : {A B M : Tile → Type 0} (m n : ℕ) → HasCount A m → HasCount B n → ((t : Tile) → A t → B t → ⊥)
    → ((t : Tile) → (A t ⊎ B t) ↔ M t) → HasCount M (m + n)
HasCount-union {A} {B} {M} m n a b apart same = record {
  tiles = a.tiles ++ b.tiles;
  listed = record {
    exact = λ t. (λ c. (same t).0 (split t (Contains-append_cases a.tiles b.tiles t c)), λ k. join t ((same t).1 k));
    once = once_append a.tiles b.tiles a.listed.once b.listed.once (λ t x y. apart t ((a.listed.exact t).0 x)
        ((b.listed.exact t).0 y));
  };
  counted = let x = a.counted in let y = b.counted in
      let e : length (a.tiles ++ b.tiles) ≡ length a.tiles + length b.tiles =
      length-append a.tiles b.tiles in omega arith;
}
  where
    split : (t : Tile) → Contains a.tiles t ⊎ Contains b.tiles t → A t ⊎ B t
    split t (inl c) = inl ((a.listed.exact t).0 c)
    split t (inr c) = inr ((b.listed.exact t).0 c)

    join : (t : Tile) → A t ⊎ B t → Contains (a.tiles ++ b.tiles) t
    join t (inl k) = Contains-append_left a.tiles b.tiles t ((a.listed.exact t).1 k)
    join t (inr k) = Contains-append_right a.tiles b.tiles t ((b.listed.exact t).1 k)

pub HasCount-same : {M : Tile → Type 0} (m n : ℕ) → m ≡ n → HasCount M m → HasCount M n
HasCount-same {M} m n e h = subst (λ k. HasCount M k) e h

-- what one source reaches
pub reach_count : (head : SourceHead) (n : ℕ) → HasCount (Reaches head) n → IsReachCount head n
reach_count head n h = record { tiles = h.tiles; listed = h.listed; counted = h.counted }

pub count_of_reach : (head : SourceHead) (n : ℕ) → IsReachCount head n → HasCount (Reaches head) n
count_of_reach head n h = record { tiles = h.tiles; listed = h.listed; counted = h.counted }

-- the load of one source more
pub IsLoad-push : (heads : List SourceHead) (head : SourceHead) (m n : ℕ) → IsLoad heads m → IsReachCount head n
    → IsLoad (heads ++ head ∷ []) (m + n)
IsLoad-push [] head m n a r = let e : m ≡ 0 = a in (n, 0, (r, refl, omega arith))
IsLoad-push (h ∷ heads) head m n a r =
    let x : m ≡ a.0 + a.1 = a.2.2 in
    (a.0, a.1 + n, (a.2.0, IsLoad-push heads head a.1 n a.2.1 r, omega arith))
