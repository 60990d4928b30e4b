-- The elevation in the subject's own words: the value of the best source.
use Rattle.std.proofs.Common.{◌≡◌, ℕ, zero, suc, ◌<◌, ◌≤◌, ℤ, true, false, cond, ◌&&◌, nat_le, List, [], ◌∷◌, map, Option, Some, None, refl, sym, ap, ◌∙◌, arith, inl, inr, ◌⊎◌}
use Rattle.std.specs.Prelude.{slice_get}
use Rattle.std.specs.Option.{option_map}
use Rattle.std.proofs.lemmas.Bool.{cases_lt, cases_Bool, leb-true}
use Rattle.std.proofs.lemmas.Bool.Decides.{nat_tests}
use Rattle.std.proofs.lemmas.Option.{slice_get-map, same_Some}
use Rattle.cdb_grid.specs.Grid.{Place}
use Rattle.cdb_source.specs.declared.kind.Kind.{Kind}
use Rattle.cdb_source.specs.declared.kind.Kind.TheVariants.{Elevation, Material}
use Rattle.cdb_source.specs.Offers.{over, best}
use Rattle.cdb_source.specs.Values.{Sampled, same_kind, offer, elevation}
use Rattle.cdb_source.specs.Meaning.{HasElevation, IsElevation}

-- an offer
abbrev Offer : Type 0
Offer = ℕ × ℤ

-- the offer numbered i stands: each other one is of a greater height, or of the same height and not later
record IsBestAt (os : List (Option Offer)) (x : Offer) (i : ℕ) : Type 0 where
  there : slice_get os i ≡ Some (Some x)
  greatest : (j : ℕ) (y : Offer) → slice_get os j ≡ Some (Some y) → (x.0 < y.0) ⊎ ((x.0 ≡ y.0) × (j ≤ i))

abbrev IsBestOffer : List (Option Offer) → Option Offer → Type 0
IsBestOffer os None = (j : ℕ) (y : Offer) → slice_get os j ≡ Some (Some y) → ⊥
IsBestOffer os (Some x) = (i : ℕ) × IsBestAt os x i

later : (x y : Offer) (j i : ℕ) → (x.0 < y.0) ⊎ ((x.0 ≡ y.0) × (j ≤ i)) → (x.0 < y.0) ⊎ ((x.0 ≡ y.0) × (suc j ≤ suc i))
later x y j i (inl lt) = inl lt
later x y j i (inr e) = inr (e.0, omega (arith, e.1))

-- of x at the front and the best y behind it
behind : (os : List (Option Offer)) (x y : Offer) (i : ℕ) → y.0 ≤ x.0 → IsBestAt os y i
    → IsBestAt (Some x ∷ os) y (suc i)
behind os x y i le r = record { there = r.there; greatest = go }
  where
    first : (z : Offer) → Some (Some x) ≡ Some (Some z) → (y.0 < z.0) ⊎ ((y.0 ≡ z.0) × (zero ≤ suc i))
    first z e =
        let same : x ≡ z = cc in
        let height : x.0 ≡ z.0 = ap (λ (o : Offer). o.0) same in
        elim (cases_lt y.0 x.0)
        [ inl lt ↦ inl (omega (arith, height, lt)) | inr ge ↦ inr (omega (arith, height, le, ge), omega arith) ]

    go : (j : ℕ) (z : Offer) → slice_get (Some x ∷ os) j ≡ Some (Some z) → (y.0 < z.0) ⊎ ((y.0 ≡ z.0) × (j ≤ suc i))
    go zero z e = first z e
    go (suc j) z e = later y z j i (r.greatest j z e)

in_front : (os : List (Option Offer)) (x y : Offer) (i : ℕ) → x.0 < y.0 → IsBestAt os y i
    → IsBestAt (Some x ∷ os) x zero
in_front os x y i lt r = record { there = refl; greatest = go }
  where
    rest : (j : ℕ) (z : Offer) → (y.0 < z.0) ⊎ ((y.0 ≡ z.0) × (j ≤ i)) → (x.0 < z.0) ⊎ ((x.0 ≡ z.0) × (suc j ≤ zero))
    rest j z (inl less) = inl (omega (arith, lt, less))
    rest j z (inr e) = let same = e.0 in inl (omega (arith, lt, same))

    go : (j : ℕ) (z : Offer) → slice_get (Some x ∷ os) j ≡ Some (Some z) → (x.0 < z.0) ⊎ ((x.0 ≡ z.0) × (j ≤ zero))
    go zero z e = let same : x ≡ z = cc in inr (ap (λ (o : Offer). o.0) same, omega arith)
    go (suc j) z e = rest j z (r.greatest j z e)

lt_of_false : (m n : ℕ) → nat_le m n ≡ false → n < m
lt_of_false m n h = grind (arith, nat_tests)

best_step : (o : Option Offer) (os : List (Option Offer)) (b : Option Offer) → IsBestOffer os b
    → IsBestOffer (o ∷ os) (over o b)
best_step None os None r = go
  where
    go : (j : ℕ) (y : Offer) → slice_get (None ∷ os) j ≡ Some (Some y) → ⊥
    go zero y e = cc
    go (suc j) y e = r j y e
best_step (Some x) os None r = (zero, record { there = refl; greatest = go })
  where
    go : (j : ℕ) (y : Offer) → slice_get (Some x ∷ os) j ≡ Some (Some y) → (x.0 < y.0) ⊎ ((x.0 ≡ y.0) × (j ≤ zero))
    go zero y e = let same : x ≡ y = cc in inr (ap (λ (o : Offer). o.0) same, omega arith)
    go (suc j) y e = absurd (r j y e)
best_step None os (Some y) r = (suc r.0, record { there = r.1.there; greatest = go })
  where
    go : (j : ℕ) (z : Offer) → slice_get (None ∷ os) j ≡ Some (Some z) → (y.0 < z.0) ⊎ ((y.0 ≡ z.0) × (j ≤ suc r.0))
    go zero z e = absurd (cc)
    go (suc j) z e = later y z j r.0 (r.1.greatest j z e)
best_step (Some x) os (Some y) r = elim (cases_Bool (nat_le y.0 x.0)) [
  | inl t ↦ rw t (suc r.0, behind os x y r.0 (leb-true y.0 x.0 t) r.1)
  | inr f ↦ rw f (zero, in_front os x y r.0 (lt_of_false y.0 x.0 f) r.1)
]

best_is : (os : List (Option Offer)) → IsBestOffer os (best os)
best_is [] = λ j y e. cc
best_is (o ∷ os) = let rec = best_is os in best_step o os (best os) rec

-- where an offer comes from
pub record ComesFrom (h : ℕ) (p : Place) (s : Sampled) (x : ℕ × ℤ) : Type 0 where
  pub kind : s.kind ≡ Elevation
  pub level : s.height ≤ h
  pub height : s.height ≡ x.0
  pub value : s.at p ≡ Some x.1

offered : (k : Kind) (m h : ℕ) (o : Option ℤ) (x : Offer)
    → cond (same_kind k Elevation && nat_le m h) (option_map (λ v. (m, v)) o) None ≡ Some x
    → (k ≡ Elevation) × (m ≤ h) × (m ≡ x.0) × (o ≡ Some x.1)
offered Material m h o x e = absurd (cc)
offered Elevation m h None x e =
    elim (cases_Bool (nat_le m h)) [ inl t ↦ absurd (none_is (rw t at e)) | inr f ↦ absurd (none_is (rw f at e)) ]
  where
    none_is : (None ≡ Some x) → ⊥
    none_is e = cc
offered Elevation m h (Some v) x e = elim (cases_Bool (nat_le m h)) [
  | inl t ↦ let same : (m, v) ≡ x = same_Some (m, v) x (rw t at e) in
      (refl, leb-true m h t, ap (λ (o : Offer). o.0) same, ap (λ (o : Offer). Some o.1) same)
  | inr f ↦ absurd (none_is (rw f at e))
]
  where
    none_is : (None ≡ Some x) → ⊥
    none_is e = cc

pub comes_from : (h : ℕ) (p : Place) (s : Sampled) (x : ℕ × ℤ) → offer h p s ≡ Some x → ComesFrom h p s x
comes_from h p s x e = let r = offered s.kind s.height h (s.at p) x e in
    record { kind = r.0; level = r.1; height = r.2; value = r.3 }

-- a source that has an elevation offers it
pub offers : (h : ℕ) (p : Place) (s : Sampled) (v : ℤ) → s.kind ≡ Elevation → s.height ≤ h → s.at p ≡ Some v
    → offer h p s ≡ Some (s.height, v)
offers h p s v kind level value = let t : nat_le s.height h ≡ true = grind (arith, nat_tests) in
    rw (kind, t, value) refl

mapped : {A B : Type 0} (f : A → B) (o : Option A) (y : B) → option_map f o ≡ Some y → (x : A)
    × (o ≡ Some x) × (f x ≡ y)
mapped f None y e = absurd (cc)
mapped f (Some x) y e = (x, refl, same_Some (f x) y e)

from_offer : (ss : List Sampled) (h : ℕ) (p : Place) (j : ℕ) (y : Offer) → slice_get (map (offer h p) ss) j
    ≡ Some (Some y) → (s : Sampled) × HasElevation ss h p j s y.1 × (s.height ≡ y.0)
from_offer ss h p j y e =
    let at_source = mapped (offer h p) (slice_get ss j) (Some y) (sym (slice_get-map (offer h p) ss j) ∙ e) in
    let c = comes_from h p at_source.0 y at_source.2 in
    (at_source.0, record { there = at_source.1; kind = c.kind; level = c.level; value = c.value }, c.height)

to_offer : (ss : List Sampled) (h : ℕ) (p : Place) (j : ℕ) (s : Sampled) (v : ℤ) → HasElevation ss h p j s v
    → slice_get (map (offer h p) ss) j ≡ Some (Some (s.height, v))
to_offer ss h p j s v has =
    slice_get-map (offer h p) ss j ∙ ap (option_map (offer h p)) has.there
    ∙ ap (λ (o : Option Offer). Some o) (offers h p s v has.kind has.level has.value)

from_best : (ss : List Sampled) (h : ℕ) (p : Place) (b : Option Offer) → IsBestOffer (map (offer h p) ss) b
    → IsElevation ss h p (option_map (λ o. o.1) b)
from_best ss h p None none = λ i s v has. none i (s.height, v) (to_offer ss h p i s v has)
from_best ss h p (Some x) r =
    let from = from_offer ss h p r.0 x r.1.there in
    (r.0, from.0, record { has = from.1; greatest = go from.0 from.2 })
  where
    go : (s : Sampled) → s.height ≡ x.0 → (j : ℕ) (t : Sampled) (w : ℤ) → HasElevation ss h p j t w
        → (s.height < t.height) ⊎ ((s.height ≡ t.height) × (j ≤ r.0))
    go s e j t w has = rw e (r.1.greatest j (t.height, w) (to_offer ss h p j t w has))

-- the elevation is that of the best source
pub elevation_is : (ss : List Sampled) (h : ℕ) (p : Place) → IsElevation ss h p (elevation ss h p)
elevation_is ss h p = from_best ss h p (best (map (offer h p) ss)) (best_is (map (offer h p) ss))

one_number : (m n i j : ℕ) → (m < n) ⊎ ((m ≡ n) × (j ≤ i)) → (n < m) ⊎ ((n ≡ m) × (i ≤ j)) → i ≡ j
one_number m n i j (inl a) (inl b) = omega arith
one_number m n i j (inl a) (inr b) = let e = b.0 in omega arith
one_number m n i j (inr a) (inl b) = let e = a.0 in omega arith
one_number m n i j (inr a) (inr b) = let e = a.1 in let f = b.1 in omega arith

-- and nothing else is
pub elevation_only : (ss : List Sampled) (h : ℕ) (p : Place) (a b : Option ℤ) → IsElevation ss h p a
    → IsElevation ss h p b → a ≡ b
elevation_only ss h p None None k l = refl
elevation_only ss h p None (Some w) k l = absurd (k l.0 l.1 w l.2.has)
elevation_only ss h p (Some v) None k l = absurd (l k.0 k.1 v k.2.has)
elevation_only ss h p (Some v) (Some w) k l =
    let i = k.0 in let j = l.0 in let s = k.1 in let t = l.1 in
    let same : i ≡ j = one_number s.height t.height i j (k.2.greatest j t w l.2.has) (l.2.greatest i s v k.2.has) in
    let sources : Some s ≡ Some t = sym k.2.has.there ∙ ap (λ (n : ℕ). slice_get ss n) same ∙ l.2.has.there in
    let source : s ≡ t = same_Some s t sources in
    sym k.2.has.value ∙ ap (λ (r : Sampled). r.at p) source ∙ l.2.has.value
