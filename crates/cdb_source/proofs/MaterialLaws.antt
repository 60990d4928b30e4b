-- Laws of the material of a cell: with later sources.
use Rattle.std.proofs.Common.{◌≡◌, ℕ, zero, suc, ℤ, List, [], ◌∷◌, ◌++◌, Option, Some, None, refl, sym, ap, ◌∙◌}
use Rattle.std.specs.Prelude.{filter_map}
use Rattle.std.specs.Option.{option_or}
use Rattle.cdb_grid.specs.Grid.{Place, beside, centre}
use Rattle.cdb_source.specs.declared.kind.Kind.TheVariants.{Material}
use Rattle.cdb_source.specs.Values.{Sampled, newest_own, mode, mode_of_four, material}
use Rattle.cdb_source.proofs.ElevationLaws.{newest_own-append}

abbrev values_of : List (Option ℤ) → List ℤ
values_of os = filter_map (λ v. v) os

mode_empty : (values : List ℤ) → mode values ≡ None → values ≡ []
unfolding mode
mode_empty [] e = refl
mode_empty (v ∷ values) e = absurd (cc)

mode-nil : mode [] ≡ None
unfolding mode
mode-nil = refl

no_values : (o : Option ℤ) (os : List (Option ℤ)) → values_of (o ∷ os) ≡ [] → (o ≡ None) × (values_of os ≡ [])
no_values None os e = (refl, e)
no_values (Some v) os e = absurd (cc)

-- none of four has a value where their mode is none
record NoneOfFour (a b c d : Option ℤ) : Type 0 where
  first : a ≡ None
  second : b ≡ None
  third : c ≡ None
  fourth : d ≡ None

none_of_four : (a b c d : Option ℤ) → mode_of_four a b c d ≡ None → NoneOfFour a b c d
none_of_four a b c d e =
    let w = no_values a (b ∷ c ∷ d ∷ []) (mode_empty (values_of (a ∷ b ∷ c ∷ d ∷ [])) e) in
    let x = no_values b (c ∷ d ∷ []) w.1 in
    let y = no_values c (d ∷ []) x.1 in
    let z = no_values d [] y.1 in
    record { first = w.0; second = x.0; third = y.0; fourth = z.0 }

pub of_none : (a b c d : Option ℤ) → a ≡ None → b ≡ None → c ≡ None → d ≡ None → mode_of_four a b c d ≡ None
of_none a b c d e f g h = rw (e, f, g, h) mode-nil

either_none : (a b : Option ℤ) → option_or a b ≡ None → (a ≡ None) × (b ≡ None)
either_none None b e = (refl, e)
either_none (Some v) b e = absurd (cc)

abbrev four : List Sampled → ℕ → Place → Option ℤ
four ss h c = mode_of_four (material ss h (beside h c 0 0)) (material ss h (beside h c 0 1))
    (material ss h (beside h c 1 0)) (material ss h (beside h c 1 1))

-- where there is no material, there was none before the later sources
pub earlier_no_material : (ss ts : List Sampled) (h : ℕ) (c : Place) → material (ss ++ ts) h c ≡ None
    → material ss h c ≡ None
unfolding material
earlier_no_material ss ts zero c e = refl
earlier_no_material ss ts (suc h) c e =
    let parts = either_none (four (ss ++ ts) h c) (newest_own Material (ss ++ ts) (suc h) (centre (suc h) c)) e in
    let own = either_none (newest_own Material ts (suc h) (centre (suc h) c))
    (newest_own Material ss (suc h) (centre (suc h) c))
    (sym (newest_own-append Material ss ts (suc h) (centre (suc h) c)) ∙ parts.1) in
    let none = none_of_four (material (ss ++ ts) h (beside h c 0 0)) (material (ss ++ ts) h (beside h c 0 1))
    (material (ss ++ ts) h (beside h c 1 0)) (material (ss ++ ts) h (beside h c 1 1)) parts.0 in
    let before = of_none (material ss h (beside h c 0 0)) (material ss h (beside h c 0 1))
    (material ss h (beside h c 1 0)) (material ss h (beside h c 1 1))
    (earlier_no_material ss ts h (beside h c 0 0) none.first) (earlier_no_material ss ts h (beside h c 0 1) none.second)
    (earlier_no_material ss ts h (beside h c 1 0) none.third)
    (earlier_no_material ss ts h (beside h c 1 1) none.fourth) in
    rw (before, own.1) refl

four_none : (ss ts : List Sampled) (h : ℕ) (c : Place) → four (ss ++ ts) h c ≡ None → four ss h c ≡ None
four_none ss ts h c e =
    let none = none_of_four (material (ss ++ ts) h (beside h c 0 0)) (material (ss ++ ts) h (beside h c 0 1))
    (material (ss ++ ts) h (beside h c 1 0)) (material (ss ++ ts) h (beside h c 1 1)) e in
    of_none (material ss h (beside h c 0 0)) (material ss h (beside h c 0 1)) (material ss h (beside h c 1 0))
    (material ss h (beside h c 1 1))
    (earlier_no_material ss ts h (beside h c 0 0) none.first) (earlier_no_material ss ts h (beside h c 0 1) none.second)
    (earlier_no_material ss ts h (beside h c 1 0) none.third) (earlier_no_material ss ts h (beside h c 1 1) none.fourth)

-- the material by its definition
pub material-suc : (ss : List Sampled) (h : ℕ) (c : Place) → material ss (suc h) c
    ≡ option_or (four ss h c) (newest_own Material ss (suc h) (centre (suc h) c))
unfolding material
material-suc ss h c = refl

pub material-zero : (ss : List Sampled) (c : Place) → material ss 0 c ≡ None
unfolding material
material-zero ss c = refl

-- the four finer cells, then the later sources of exactly this level, then what was there before
pub material_later : (ss ts : List Sampled) (h : ℕ) (c : Place)
    → material (ss ++ ts) (suc h) c
    ≡ option_or (four (ss ++ ts) h c)
    (option_or (newest_own Material ts (suc h) (centre (suc h) c)) (material ss (suc h) c))
material_later ss ts h c =
    material-suc (ss ++ ts) h c
    ∙ ap (option_or (four (ss ++ ts) h c)) (newest_own-append Material ss ts (suc h) (centre (suc h) c))
    ∙ go (four (ss ++ ts) h c) refl
  where
    go : (o : Option ℤ) → four (ss ++ ts) h c ≡ o
        → option_or o
        (option_or (newest_own Material ts (suc h) (centre (suc h) c))
        (newest_own Material ss (suc h) (centre (suc h) c)))
        ≡ option_or o (option_or (newest_own Material ts (suc h) (centre (suc h) c)) (material ss (suc h) c))
    go (Some v) e = refl
    go None e = ap (option_or (newest_own Material ts (suc h) (centre (suc h) c)))
        (sym (material-suc ss h c
        ∙ ap (λ (o : Option ℤ). option_or o (newest_own Material ss (suc h) (centre (suc h) c)))
        (four_none ss ts h c e)))
