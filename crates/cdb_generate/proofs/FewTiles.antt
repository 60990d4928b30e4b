-- A list in which no tile stands twice is no longer than there are numbers for its tiles.
use Rattle.std.proofs.Common.{◌≡◌, ℕ, zero, suc, ◌-◌, ◌<◌, ◌≤◌, min, inl, inr, List, [], ◌∷◌, length, refl, subst, arith, lit<}
use Rattle.std.specs.List.{Contains}
use Rattle.std.proofs.lemmas.Bool.{cases_lt}
use Rattle.std.proofs.lemmas.List.Elements.{Contains-append_left, Contains-append_right}
use Rattle.cdb_grid.specs.declared.tile.Tile.{Tile}
use Rattle.cdb_source.proofs.OnceLaws.{Once, once_head, once_tail}

-- numbers but for one of them, moved together
abbrev without : ℕ → ℕ → ℕ
without gap n = n - min 1 (n - gap)

without-below : (gap n most : ℕ) → n < suc most → gap < suc most → (n ≡ gap → ⊥) → without gap n < most
without-below gap n most a b apart = elim (cases_lt n gap) [
  | inl p ↦ omega arith
  | inr p ↦ elim (cases_lt gap n) [ inl q ↦ omega arith | inr q ↦ absurd (apart (omega arith)) ]
]

without-same : (gap m n : ℕ) → (m ≡ gap → ⊥) → (n ≡ gap → ⊥) → without gap m ≡ without gap n → m ≡ n
without-same gap m n a b e = elim (cases_lt m gap) [
  | inl p ↦ elim (cases_lt gap n) [
    | inl q ↦ omega arith
    | inr q ↦ elim
        (cases_lt n gap) [ inl r ↦ omega arith | inr r ↦ absurd (b (omega arith)) ]
  ]
  | inr p ↦ elim (cases_lt gap m) [
    | inl q ↦ elim (cases_lt gap n) [
      | inl r ↦ omega arith
      | inr r ↦ elim
          (cases_lt n gap) [ inl s ↦ omega arith | inr s ↦ absurd (b (omega arith)) ]
    ]
    | inr q ↦ absurd (a (omega arith))
  ]
]

-- each tile has a number below the bound, and no other tile of the list has it
pub record AreTold (code : Tile → ℕ) (most : ℕ) (tiles : List Tile) : Type 0 where
  pub below : (t : Tile) → Contains tiles t → code t < most
  pub same : (t u : Tile) → Contains tiles t → Contains tiles u → code t ≡ code u → t ≡ u

pub few : (most : ℕ) (code : Tile → ℕ) (tiles : List Tile) → Once tiles → AreTold code most tiles → length tiles ≤ most
few most code [] once told = omega arith
few zero code (x ∷ xs) once told =
    let lt : code x < 0 = told.below x (Contains-append_left (x ∷ []) xs x (0, lit< tt, refl)) in absurd (omega arith)
few (suc most) code (x ∷ xs) once told =
    let here = Contains-append_left (x ∷ []) xs x (0, lit< tt, refl) in
    let there : (t : Tile) → Contains xs t → Contains (x ∷ xs) t = λ t c. Contains-append_right (x ∷ []) xs t c in
    let apart : (t : Tile) → Contains xs t → code t ≡ code x → ⊥ =
    λ t c e. once_head x xs once (subst (λ y. Contains xs y) (told.same t x (there t c) here e) c) in
    let rest : AreTold (λ t. without (code x) (code t)) most xs = record {
      below = λ t c. without-below (code x) (code t) most (told.below t (there t c)) (told.below x here) (apart t c);
      same = λ t u c d e. told.same t u (there t c) (there u d) (without-same (code x) (code t) (code u)
          (apart t c) (apart u d) e);
    } in
    let le : length xs ≤ most = few most (λ t. without (code x) (code t)) xs (once_tail x xs once) rest in
    let all : suc (length xs) ≤ suc most = omega arith in all
