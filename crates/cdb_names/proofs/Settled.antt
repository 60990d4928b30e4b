-- Texts that begin with fields of a value, and where they stop: there is one such place.
use Rattle.std.proofs.Common.{◌≡◌, ℕ, zero, suc, ◌<◌, ◌≤◌, List, [], ◌∷◌, ◌++◌, take, drop, inl, inr, refl, ap, sym, subst, ◌∙◌, arith}
use Rattle.std.specs.Prelude.{IsTrue}
use Rattle.std.proofs.lemmas.Bool.{cases_order}
use Rattle.cdb_model.specs.Names.{Text, spell, may_follow, BeginsWith, StopsBefore}

-- whatever follows a field among these, it may stand behind the fields before it
abbrev pub AreFields : List Text → Type 0
AreFields [] = Unit {0}
AreFields (field ∷ fields) = ((rest : Text) → IsTrue (may_follow (field ∷ fields) (field ++ rest))) × AreFields fields

-- where a text stops, and what is left of it after so many fields of any value
pub record Settles {X : Type 0} (fields : X → List Text) (text rest : Text) : Type 0 where
  pub stops : StopsBefore fields text rest
  pub one : (x : X) (after : Text) → BeginsWith (fields x) text stops.count after → after ≡ rest

-- a text that begins with some of these fields begins with fewer of them
fewer : (fs : List Text) → AreFields fs → (n m : ℕ) → n ≤ m → (rest : Text) → IsTrue (may_follow (drop m fs) rest)
    → (after : Text) × ((spell (take m fs) rest ≡ spell (take n fs) after) × IsTrue (may_follow (drop n fs) after))
fewer [] are zero zero le rest h = (rest, (refl, h))
fewer [] are zero (suc m) le rest h = (rest, (refl, h))
fewer [] are (suc n) zero le rest h = absurd (omega arith)
fewer [] are (suc n) (suc m) le rest h = (rest, (refl, h))
fewer (f ∷ fs) are zero zero le rest h = (rest, (refl, h))
fewer (f ∷ fs) are zero (suc m) le rest h = (f ++ spell (take m fs) rest, (refl, are.0 (spell (take m fs) rest)))
fewer (f ∷ fs) are (suc n) zero le rest h = absurd (omega arith)
fewer (f ∷ fs) are (suc n) (suc m) le rest h =
    let i = fewer fs are.1 n m (omega arith) rest h in
    (i.0, (ap (λ (text : Text). f ++ text) i.1.0, i.1.1))

-- a text of all these fields begins with any number of them
any_number : (fs : List Text) → AreFields fs → (n : ℕ) → (after : Text)
    × ((spell fs [] ≡ spell (take n fs) after) × IsTrue (may_follow (drop n fs) after))
any_number [] are zero = ([], (refl, refl))
any_number [] are (suc n) = ([], (refl, refl))
any_number (f ∷ fs) are zero = (f ++ spell fs [], (refl, are.0 (spell fs [])))
any_number (f ∷ fs) are (suc n) = let i = any_number fs are.1 n in (i.0, (ap (λ (text : Text). f ++ text) i.1.0, i.1.1))

begins_with_fewer : (fs : List Text) → AreFields fs → (text : Text) (n m : ℕ) → n ≤ m → (rest : Text)
    → BeginsWith fs text m rest → (after : Text) × BeginsWith fs text n after
begins_with_fewer fs are text n m le rest b =
    let i = fewer fs are n m le rest b.follows in
    (i.0, record { parts = b.parts ∙ i.1.0; follows = i.1.1 })

-- a text that is settled stops nowhere else
pub one_rest : {X : Type 0} (fields : X → List Text) → ((x : X) → AreFields (fields x)) → (text rest other : Text)
    → Settles fields text rest → StopsBefore fields text other → other ≡ rest
one_rest {X} fields are text rest other s f = elim (cases_order f.count s.stops.count) [
  | inl same ↦ s.one f.value other (subst (λ (n : ℕ). BeginsWith (fields f.value) text n other) same f.begins)
  | inr (inl lt) ↦
      let b = begins_with_fewer (fields s.stops.value) (are s.stops.value) text (suc f.count)
      s.stops.count (omega arith) rest s.stops.begins in
      absurd (f.no_more s.stops.value b.0 b.1)
  | inr (inr lt) ↦
      let b = begins_with_fewer (fields f.value) (are f.value) text (suc s.stops.count) f.count (omega arith)
      other f.begins in
      absurd (s.stops.no_more f.value b.0 b.1)
]

-- a text of all fields of a value stops nowhere
pub never_stops : {X : Type 0} (fields : X → List Text) → ((x : X) → AreFields (fields x)) → (text other : Text) (x : X)
    → text ≡ spell (fields x) [] → StopsBefore fields text other → ⊥
never_stops fields are text other x is f =
    let i = any_number (fields x) (are x) (suc f.count) in
    f.no_more x i.0 (record { parts = is ∙ i.1.0; follows = i.1.1 })
