-- Laws of the elevation at one place: one level more, and later sources.
use Rattle.std.proofs.Common.{◌≡◌, ℕ, suc, ◌≤◌, ℤ, false, cond, ◌&&◌, nat_le, List, [], ◌∷◌, ◌++◌, map, Option, Some, None, refl, sym, ap, ap₂, ◌∙◌, arith, inl, inr}
use Rattle.std.specs.Option.{option_map, option_or}
use Rattle.std.proofs.lemmas.List.{map-append}
use Rattle.std.proofs.lemmas.Bool.{cases_Bool}
use Rattle.std.proofs.lemmas.Bool.Decides.{nat_tests}
use Rattle.cdb_grid.specs.Units.{height_of}
use Rattle.cdb_grid.proofs.UnitLaws.{height-least}
use Rattle.cdb_source.specs.declared.source.Source.{Source}
use Rattle.cdb_source.specs.Sample.{sample_at}
use Rattle.cdb_grid.specs.Grid.{Place}
use Rattle.cdb_source.specs.declared.kind.Kind.{Kind}
use Rattle.cdb_source.specs.declared.kind.Kind.TheVariants.{Elevation, Material}
use Rattle.cdb_source.specs.Offers.{over, best, newest}
use Rattle.cdb_source.specs.Values.{Sampled, same_kind, offer, elevation, own, newest_own, sampled}
use Rattle.cdb_source.proofs.OfferLaws.{newest-append, tagged, IsUpTo, over_up_to, over_step, offer_step, offer_up_to}

best_up_to : (ss : List Sampled) (h : ℕ) (p : Place) → IsUpTo h (best (map (offer h p) ss))
best_up_to [] h p = tt
best_up_to (s ∷ ss) h p =
    let rec = best_up_to ss h p in
    over_up_to h (offer h p s) (best (map (offer h p) ss))
    (offer_up_to (same_kind s.kind Elevation) s.height h (s.at p)) rec

-- what stands at a height is what stands at the one below, else the newest of exactly this height
best-suc : (ss : List Sampled) (h : ℕ) (p : Place)
    → best (map (offer (suc h) p) ss) ≡ option_or (best (map (offer h p) ss))
    (tagged (suc h) (newest_own Elevation ss (suc h) p))
best-suc [] h p = refl
best-suc (s ∷ ss) h p =
    let rec = best-suc ss h p in
    let first = offer_step (same_kind s.kind Elevation) s.height h (s.at p) in
    ap₂ over first rec
    ∙ over_step h (offer h p s) (best (map (offer h p) ss)) (own Elevation (suc h) p s)
    (newest_own Elevation ss (suc h) p)
    (offer_up_to (same_kind s.kind Elevation) s.height h (s.at p)) (best_up_to ss h p)

untagged : (h : ℕ) (a : Option (ℕ × ℤ)) (n : Option ℤ) → option_map {T = ℕ × ℤ} (λ o. o.1) (option_or a (tagged h n))
    ≡ option_or (option_map {T = ℕ × ℤ} (λ o. o.1) a) n
untagged h None None = refl
untagged h None (Some v) = refl
untagged h (Some x) n = refl

-- the elevation of a level is that of the next finer one, else the newest of exactly this level
pub elevation-suc : (ss : List Sampled) (h : ℕ) (p : Place) → elevation ss (suc h) p
    ≡ option_or (elevation ss h p) (newest_own Elevation ss (suc h) p)
elevation-suc ss h p =
    ap (option_map {T = ℕ × ℤ} (λ o. o.1)) (best-suc ss h p)
    ∙ untagged (suc h) (best (map (offer h p) ss)) (newest_own Elevation ss (suc h) p)

-- the newest of exactly one level, with later sources
pub newest_own-append : (kind : Kind) (ss ts : List Sampled) (h : ℕ) (p : Place) → newest_own kind (ss ++ ts) h p
    ≡ option_or (newest_own kind ts h p) (newest_own kind ss h p)
newest_own-append kind ss ts h p = ap newest (map-append (own kind h p) ss ts)
    ∙ newest-append (map (own kind h p) ss) (map (own kind h p) ts)

over_is_none : (a b : Option (ℕ × ℤ)) → over a b ≡ None → (a ≡ None) × (b ≡ None)
over_is_none None None e = (refl, refl)
over_is_none None (Some y) e = absurd (cc)
over_is_none (Some x) None e = absurd (cc)
over_is_none (Some x) (Some y) e =
    elim (cases_Bool (nat_le y.0 x.0))
    [ inl t ↦ absurd (none_is (rw t at e)) | inr f ↦ absurd (other_none_is (rw f at e)) ]
  where
    none_is : (Some y ≡ None) → ⊥
    none_is e = cc

    other_none_is : (Some x ≡ None) → ⊥
    other_none_is e = cc

best_none : (xs ys : List (Option (ℕ × ℤ))) → best (xs ++ ys) ≡ None → best xs ≡ None
best_none [] ys e = refl
best_none (x ∷ xs) ys e =
    let parts = over_is_none x (best (xs ++ ys)) e in
    let rec = best_none xs ys parts.1 in
    rw (parts.0, rec) refl

value_none : (o : Option (ℕ × ℤ)) → option_map {T = ℕ × ℤ} (λ x. x.1) o ≡ None → o ≡ None
value_none None e = refl
value_none (Some x) e = absurd (cc)

-- where there is no elevation, there was none before the later sources
pub earlier_none : (ss ts : List Sampled) (h : ℕ) (p : Place) → elevation (ss ++ ts) h p ≡ None
    → elevation ss h p ≡ None
earlier_none ss ts h p e =
    let both : best (map (offer h p) ss ++ map (offer h p) ts) ≡ None = ap best (sym (map-append (offer h p) ss ts))
    ∙ value_none (best (map (offer h p) (ss ++ ts))) e in
    ap (option_map {T = ℕ × ℤ} (λ o. o.1)) (best_none (map (offer h p) ss) (map (offer h p) ts) both)

-- the next finer level, then the later sources of exactly this level, then what was there before
pub three_passes : (ss ts : List Sampled) (h : ℕ) (p : Place)
    → elevation (ss ++ ts) (suc h) p ≡ option_or (elevation (ss ++ ts) h p)
    (option_or (newest_own Elevation ts (suc h) p) (elevation ss (suc h) p))
three_passes ss ts h p =
    elevation-suc (ss ++ ts) h p
    ∙ ap (option_or (elevation (ss ++ ts) h p)) (newest_own-append Elevation ss ts (suc h) p)
    ∙ go (elevation (ss ++ ts) h p) refl
  where
    go : (o : Option ℤ) → elevation (ss ++ ts) h p ≡ o
        → option_or o (option_or (newest_own Elevation ts (suc h) p) (newest_own Elevation ss (suc h) p))
        ≡ option_or o (option_or (newest_own Elevation ts (suc h) p) (elevation ss (suc h) p))
    go (Some v) e = refl
    go None e = ap (option_or (newest_own Elevation ts (suc h) p))
        (sym (elevation-suc ss h p ∙ ap (λ (o : Option ℤ). option_or o (newest_own Elevation ss (suc h) p))
        (earlier_none ss ts h p e)))

pub earlier_stand : (ss ts : List Sampled) (h : ℕ) (p : Place) → elevation (ss ++ ts) h p ≡ None
    → newest_own Elevation ts (suc h) p ≡ None
    → elevation (ss ++ ts) (suc h) p ≡ elevation ss (suc h) p
earlier_stand ss ts h p e f =
    three_passes ss ts h p
    ∙ ap (λ (o : Option ℤ). option_or o (option_or (newest_own Elevation ts (suc h) p) (elevation ss (suc h) p))) e
    ∙ ap (λ (o : Option ℤ). option_or o (elevation ss (suc h) p)) f

unoffered : (k : Kind) (m : ℕ) (o : Option ℤ) → nat_le m 0 ≡ false
    → cond (same_kind k Elevation && nat_le m 0) (option_map {U = ℕ × ℤ} (λ v. (m, v)) o) None ≡ None
unoffered Material m o e = refl
unoffered Elevation m o e = rw e refl

not_up_to_zero : (h : ℕ) → 1 ≤ h → nat_le h 0 ≡ false
not_up_to_zero h le = grind (arith, nat_tests)

none_at_zero : (ss : List Source) (p : Place) → best (map (offer 0 p) (map sampled ss)) ≡ None
none_at_zero [] p = refl
none_at_zero (s ∷ ss) p =
    let rec = none_at_zero ss p in
    let low = not_up_to_zero (height_of s.head.level.number) (height-least s.head.level.number s.head.level.finest) in
    ap₂ over (unoffered s.head.kind (height_of s.head.level.number) (sample_at s p) low) rec

-- above the finest level there is none
pub elevation-zero : (ss : List Source) (p : Place) → elevation (map sampled ss) 0 p ≡ None
elevation-zero ss p = ap (option_map {T = ℕ × ℤ} (λ o. o.1)) (none_at_zero ss p)
