-- Laws of the elevation and of the material at a place, one source after the other.
use Rattle.std.proofs.Common.{◌≡◌, ℕ, ◌+◌, ◌<◌, ◌≤◌, ℤ, true, false, cond, nat_le, inl, inr, List, [], ◌∷◌, ◌++◌, length, take, get_or, map, Option, Some, None, refl, sym, ap, ◌∙◌, arith}
use Rattle.std.specs.Option.{option_map, option_or}
use Rattle.std.proofs.lemmas.Bool.{cases_lt, le-leb, lt-leb}
use Rattle.std.proofs.lemmas.List.{take_more, take_all, map-append}
use Rattle.cdb_grid.specs.Grid.{Place}
use Rattle.cdb_source.specs.declared.source.Source.{Source}
use Rattle.cdb_source.specs.declared.kind.Kind.TheVariants.{Material}
use Rattle.cdb_source.specs.Offers.{over, best, newest}
use Rattle.cdb_source.specs.Values.{sampled, offer, own, newest_own, elevation_of}
use Rattle.cdb_source.proofs.OfferLaws.{over_none, newest-append}

over_three : {X : Type 0} (x y z : ℕ × X) → over (Some x) (cond (nat_le z.0 y.0) (Some z) (Some y))
    ≡ over (cond (nat_le y.0 x.0) (Some y) (Some x)) (Some z)
over_three x y z =
    elim (cases_lt y.0 z.0) [
      | inl a ↦ let zy : nat_le z.0 y.0 ≡ false = lt-leb z.0 y.0 a in
          elim (cases_lt x.0 y.0) [
            | inl b ↦ let yx : nat_le y.0 x.0 ≡ false = lt-leb y.0 x.0 b in
                let zx : nat_le z.0 x.0 ≡ false = lt-leb z.0 x.0 (omega arith) in
                rw (zy, yx) (rw zx refl)
            | inr b ↦ let yx : nat_le y.0 x.0 ≡ true = le-leb y.0 x.0 b in rw (zy, yx) (rw zy refl)
          ]
      | inr a ↦ let zy : nat_le z.0 y.0 ≡ true = le-leb z.0 y.0 a in
          elim (cases_lt x.0 y.0) [
            | inl b ↦ let yx : nat_le y.0 x.0 ≡ false = lt-leb y.0 x.0 b in rw (zy, yx) refl
            | inr b ↦ let yx : nat_le y.0 x.0 ≡ true = le-leb y.0 x.0 b in
                let zx : nat_le z.0 x.0 ≡ true = le-leb z.0 x.0 (omega arith) in
                rw (zy, yx) (rw (zx, zy) refl)
          ]
    ]

over_assoc : {X : Type 0} (a b c : Option (ℕ × X)) → over a (over b c) ≡ over (over a b) c
over_assoc a b None = refl
over_assoc a None (Some z) = refl
over_assoc None (Some y) (Some z) = over_none (over (Some y) (Some z))
over_assoc (Some x) (Some y) (Some z) = over_three x y z

best-push : {X : Type 0} (os : List (Option (ℕ × X))) (o : Option (ℕ × X)) → best (os ++ o ∷ []) ≡ over (best os) o
best-push [] o = sym (over_none o)
best-push (p ∷ os) o = ap (over p) (best-push os o) ∙ over_assoc p (best os) o

-- the best of one source more
pub best_more : (h : ℕ) (p : Place) (ss : List Source) (i : ℕ) (s : Source) → i < length ss → s ≡ get_or ss i s
    → best (map (offer h p) (map sampled (take (i + 1) ss))) ≡ over (best (map (offer h p) (map sampled (take i ss))))
    (offer h p (sampled s))
best_more h p ss i s lt is =
    ap (λ xs. best (map (offer h p) (map sampled xs))) (take_more ss i s lt ∙ ap (λ x. take i ss ++ x ∷ []) (sym is))
    ∙ ap (λ xs. best (map (offer h p) xs)) (map-append sampled (take i ss) (s ∷ []))
    ∙ ap best (map-append (offer h p) (map sampled (take i ss)) (sampled s ∷ []))
    ∙ best-push (map (offer h p) (map sampled (take i ss))) (offer h p (sampled s))

-- the best of all sources is the elevation
pub elevation_of_best : (h : ℕ) (p : Place) (ss : List Source) (i : ℕ) (o : Option (ℕ × ℤ)) → length ss ≤ i
    → o ≡ best (map (offer h p) (map sampled (take i ss)))
    → option_map {T = ℕ × ℤ} (λ x. x.1) o ≡ elevation_of ss h p
elevation_of_best h p ss i o le e = ap (option_map {T = ℕ × ℤ} (λ x. x.1))
    (e ∙ ap (λ xs. best (map (offer h p) (map sampled xs))) (take_all i ss le))

-- the newest material of one source more
pub newest_more : (h : ℕ) (p : Place) (ss : List Source) (i : ℕ) (s : Source) → i < length ss → s ≡ get_or ss i s
    → newest_own Material (map sampled (take (i + 1) ss)) h p ≡ option_or (own Material h p (sampled s))
    (newest_own Material (map sampled (take i ss)) h p)
newest_more h p ss i s lt is =
    ap (λ xs. newest (map (own Material h p) (map sampled xs)))
    (take_more ss i s lt ∙ ap (λ x. take i ss ++ x ∷ []) (sym is))
    ∙ ap (λ xs. newest (map (own Material h p) xs)) (map-append sampled (take i ss) (s ∷ []))
    ∙ ap newest (map-append (own Material h p) (map sampled (take i ss)) (sampled s ∷ []))
    ∙ newest-append (map (own Material h p) (map sampled (take i ss))) (own Material h p (sampled s) ∷ [])

-- of all sources
pub newest_of_all : (h : ℕ) (p : Place) (ss : List Source) (i : ℕ) (o : Option ℤ) → length ss ≤ i
    → o ≡ newest_own Material (map sampled (take i ss)) h p
    → o ≡ newest_own Material (map sampled ss) h p
newest_of_all h p ss i o le e = e ∙ ap (λ xs. newest_own Material (map sampled xs) h p) (take_all i ss le)
