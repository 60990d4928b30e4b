-- Each field of a name: what was read is spelled so, and what is spelled so is read again, whatever follows.
use Rattle.std.proofs.Common.{◌≡◌, ℕ, zero, suc, ◌+◌, ◌-◌, ◌<◌, ◌≤◌, ◌^◌, Bool, true, false, cond, ◌&&◌, [], ◌∷◌, ◌++◌, length, drop, Some, None, ◌%◌, inl, inr, refl, ap, sym, subst, ◌∙◌, arith, ℤ, pos, negsuc, ◌≤ℤ◌}
use Rattle.std.specs.Prelude.{option_and_then, nat_eq, nat_lt, nat_le, ◌==◌, neg_ℤ, codes, ◌/◌}
use Rattle.std.specs.Fmt.{decimal}
use Rattle.std.specs.List.{starts_with}
use Rattle.std.proofs.lemmas.Bool.{eqb-true, ltb-true, leb-true, lt-ltb, le-leb, eq-eqb, ne_eqb, and_parts}
use Rattle.std.proofs.lemmas.Int.{ints}
use Rattle.std.proofs.lemmas.Option.{cond_some, same_Some}
use Rattle.cdb_grid.specs.Units.{width_at, row_of, column_of}
use Rattle.cdb_grid.specs.declared.family.Family.{Family}
use Rattle.cdb_grid.specs.declared.family.Family.TheVariants.{Elev, Low, High, Mat}
use Rattle.cdb_model.specs.Names.{Text, two, three, lat_text, lon_text, dataset_text, level_text, begins_with_digit}
use Rattle.cdb_names.specs.Fields.{after, two_at, three_at, lat_of, lat_at, lon_of, is_on_grid, lon_at, family_of, family_at, coarse_of, fine_of, coarse_at, fine_at, level_at, bounded_number_at, numbered_at}
use Rattle.cdb_names.proofs.Tools.{chosen, then_some, map_some, pair_is}
use Rattle.cdb_names.proofs.DigitLaws.{two_again, two_at_takes, three_at_takes, three_at_again}
use Rattle.cdb_names.proofs.NumberLaws.{number_takes, number_again}

-- a number from 1 on stands for the negative number one below
pub below_zero : (n : ℕ) → 0 < n → neg_ℤ (pos n) ≡ negsuc (n - 1)
below_zero zero h = absurd (omega arith)
below_zero (suc n) h = ap negsuc (omega arith)

-- ---- prefixes

pub starts_takes : (prefix text : Text) → starts_with nat_eq text prefix ≡ true
    → text ≡ prefix ++ drop (length prefix) text
starts_takes [] text e = refl
starts_takes (p ∷ prefix) [] e = absurd cc
starts_takes (p ∷ prefix) (c ∷ text) e =
    let t = and_parts (nat_eq p c) (starts_with nat_eq text prefix) e in
    let same : p ≡ c = eqb-true p c t.0 in
    rw same (ap (λ (r : Text). c ∷ r) (starts_takes prefix text t.1))

pub starts_again : (prefix rest : Text) → starts_with nat_eq (prefix ++ rest) prefix ≡ true
starts_again [] rest = refl
starts_again (p ∷ prefix) rest = let e : nat_eq p p ≡ true = eq-eqb p p refl in rw e (starts_again prefix rest)

drop_again : (prefix rest : Text) → drop (length prefix) (prefix ++ rest) ≡ rest
drop_again [] rest = refl
drop_again (p ∷ prefix) rest = drop_again prefix rest

pub after_takes : (prefix text rest : Text) → after prefix text ≡ Some rest → text ≡ prefix ++ rest
after_takes prefix text rest e =
    let g = cond_some (starts_with nat_eq text prefix) (drop (length prefix) text) rest e in
    starts_takes prefix text g.0 ∙ ap (λ (r : Text). prefix ++ r) g.1

pub after_again : (prefix rest : Text) → after prefix (prefix ++ rest) ≡ Some rest
after_again prefix rest = rw (starts_again prefix rest, drop_again prefix rest) refl

-- ---- latitude

-- the facts of a latitude
abbrev pub IsLat : ℤ → Type 0
IsLat lat = (negsuc 89 ≤ℤ lat) × (lat ≤ℤ pos 89)

lat_value : (letter n : ℕ) (l : ℤ) → lat_of letter n ≡ Some l → IsLat l × (lat_text l ≡ letter ∷ two n)
lat_value letter n l e =
    elim (chosen ((letter == 78) && nat_lt n 90) (Some (pos n))
    (cond ((letter == 83) && (nat_lt 0 n && nat_le n 90)) (Some (neg_ℤ (pos n))) None) (Some l) e) [
      | inl h ↦
          let t = and_parts (letter == 78) (nat_lt n 90) h.0 in
          let c : letter ≡ 78 = eqb-true letter 78 t.0 in
          let lt : n < 90 = ltb-true n 90 t.1 in
          subst (λ (z : ℤ). IsLat z × (lat_text z ≡ letter ∷ two n)) (same_Some (pos n) l h.1)
          ((omega (arith, ints), omega (arith, ints)), rw c refl)
      | inr h ↦
          let g = cond_some ((letter == 83) && (nat_lt 0 n && nat_le n 90)) (neg_ℤ (pos n)) l h.1 in
          let t = and_parts (letter == 83) (nat_lt 0 n && nat_le n 90) g.0 in
          let u = and_parts (nat_lt 0 n) (nat_le n 90) t.1 in
          let c : letter ≡ 83 = eqb-true letter 83 t.0 in
          let lt : 0 < n = ltb-true 0 n u.0 in
          let le : n ≤ 90 = leb-true n 90 u.1 in
          let one : n - 1 + 1 ≡ n = omega arith in
          subst (λ (z : ℤ). IsLat z × (lat_text z ≡ letter ∷ two n)) (sym (below_zero n lt) ∙ g.1)
          ((omega (arith, ints), omega (arith, ints)), rw (c, one) refl)
    ]

pub lat_takes : (text : Text) (l : ℤ) (rest : Text) → lat_at text ≡ Some (l, rest) → IsLat l
    × (text ≡ lat_text l ++ rest)
unfolding lat_at
lat_takes [] l rest e = absurd cc
lat_takes (letter ∷ text) l rest e =
    let b = then_some (two_at text) _ (l, rest) e in
    let c = then_some (lat_of letter b.0.0) _ (l, rest) b.2 in
    let p = pair_is c.0 l b.0.1 rest (same_Some _ _ c.2) in
    let v = lat_value letter b.0.0 c.0 c.1 in
    let t = two_at_takes text b.0.0 b.0.1 b.1 in
    let whole : letter ∷ text ≡ lat_text c.0 ++ b.0.1 = ap (λ (r : Text). letter ∷ r) t.0
    ∙ sym (ap (λ (f : Text). f ++ b.0.1) v.1) in (
      subst IsLat p.0 v.0,
      subst (λ (z : ℤ). letter ∷ text ≡ lat_text z ++ rest)
          p.0 (subst (λ (r : Text). letter ∷ text ≡ lat_text c.0 ++ r) p.1 whole),
    )

lat_value_again : (n : ℕ) → n < 90 → (lat_of 78 n ≡ Some (pos n)) × (lat_of 83 (n + 1) ≡ Some (negsuc n))
lat_value_again n h =
    let a : nat_lt n 90 ≡ true = lt-ltb n 90 h in
    let b : nat_lt 0 (n + 1) ≡ true = lt-ltb 0 (n + 1) (omega arith) in
    let c : nat_le (n + 1) 90 ≡ true = le-leb (n + 1) 90 (omega arith) in
    let d : neg_ℤ (pos (n + 1)) ≡ negsuc n = below_zero (n + 1) (omega arith) ∙ ap negsuc (omega arith) in
    (rw a refl, rw (b, c, d) refl)

pub lat_again : (l : ℤ) (rest : Text) → IsLat l → lat_at (lat_text l ++ rest) ≡ Some (l, rest)
unfolding lat_at
lat_again (pos n) rest h = let lt : n < 90 = omega (arith, ints, h.1) in
    rw (two_again n (omega arith), (lat_value_again n lt).0) refl
lat_again (negsuc n) rest h = let lt : n < 90 = omega (arith, ints, h.0) in
    rw (two_again (n + 1) (omega arith), (lat_value_again n lt).1) refl

-- ---- longitude

-- the facts of the longitude of a geocell with this south edge
abbrev pub IsLon : ℤ → ℤ → Type 0
IsLon lat lon = (negsuc 179 ≤ℤ lon) × (lon ≤ℤ pos 179) × (column_of lon % width_at (row_of lat) ≡ 0)

abbrev InGlobe : ℤ → Type 0
InGlobe lon = (negsuc 179 ≤ℤ lon) × (lon ≤ℤ pos 179)

lon_value : (letter n : ℕ) (l : ℤ) → lon_of letter n ≡ Some l → InGlobe l × (lon_text l ≡ letter ∷ three n)
lon_value letter n l e =
    elim (chosen ((letter == 69) && nat_lt n 180) (Some (pos n))
    (cond ((letter == 87) && (nat_lt 0 n && nat_le n 180)) (Some (neg_ℤ (pos n))) None) (Some l) e) [
      | inl h ↦
          let t = and_parts (letter == 69) (nat_lt n 180) h.0 in
          let c : letter ≡ 69 = eqb-true letter 69 t.0 in
          let lt : n < 180 = ltb-true n 180 t.1 in
          subst (λ (z : ℤ). InGlobe z × (lon_text z ≡ letter ∷ three n)) (same_Some (pos n) l h.1)
          ((omega (arith, ints), omega (arith, ints)), rw c refl)
      | inr h ↦
          let g = cond_some ((letter == 87) && (nat_lt 0 n && nat_le n 180)) (neg_ℤ (pos n)) l h.1 in
          let t = and_parts (letter == 87) (nat_lt 0 n && nat_le n 180) g.0 in
          let u = and_parts (nat_lt 0 n) (nat_le n 180) t.1 in
          let c : letter ≡ 87 = eqb-true letter 87 t.0 in
          let lt : 0 < n = ltb-true 0 n u.0 in
          let le : n ≤ 180 = leb-true n 180 u.1 in
          let one : n - 1 + 1 ≡ n = omega arith in
          subst (λ (z : ℤ). InGlobe z × (lon_text z ≡ letter ∷ three n)) (sym (below_zero n lt) ∙ g.1)
          ((omega (arith, ints), omega (arith, ints)), rw (c, one) refl)
    ]

pub lon_takes : (lat : ℤ) (text : Text) (l : ℤ) (rest : Text) → lon_at lat text ≡ Some (l, rest) → IsLon lat l
    × (text ≡ lon_text l ++ rest)
unfolding lon_at
lon_takes lat [] l rest e = absurd cc
lon_takes lat (letter ∷ text) l rest e =
    let b = then_some (three_at text) _ (l, rest) e in
    let c = then_some (lon_of letter b.0.0) _ (l, rest) b.2 in
    let g = cond_some (is_on_grid lat c.0) (c.0, b.0.1) (l, rest) c.2 in
    let p = pair_is c.0 l b.0.1 rest g.1 in
    let grid : column_of c.0 % width_at (row_of lat) ≡ 0 = eqb-true (column_of c.0 % width_at (row_of lat)) 0 g.0 in
    let v = lon_value letter b.0.0 c.0 c.1 in
    let t = three_at_takes text b.0.0 b.0.1 b.1 in
    let whole : letter ∷ text ≡ lon_text c.0 ++ b.0.1 = ap (λ (r : Text). letter ∷ r) t.0
    ∙ sym (ap (λ (f : Text). f ++ b.0.1) v.1) in
    let facts : IsLon lat c.0 = (v.0.0, v.0.1, grid) in (
      subst (IsLon lat) p.0 facts,
      subst (λ (z : ℤ). letter ∷ text ≡ lon_text z ++ rest)
          p.0 (subst (λ (r : Text). letter ∷ text ≡ lon_text c.0 ++ r) p.1 whole),
    )

lon_value_again : (n : ℕ) → n < 180 → (lon_of 69 n ≡ Some (pos n)) × (lon_of 87 (n + 1) ≡ Some (negsuc n))
lon_value_again n h =
    let a : nat_lt n 180 ≡ true = lt-ltb n 180 h in
    let b : nat_lt 0 (n + 1) ≡ true = lt-ltb 0 (n + 1) (omega arith) in
    let c : nat_le (n + 1) 180 ≡ true = le-leb (n + 1) 180 (omega arith) in
    let d : neg_ℤ (pos (n + 1)) ≡ negsuc n = below_zero (n + 1) (omega arith) ∙ ap negsuc (omega arith) in
    (rw a refl, rw (b, c, d) refl)

on_grid : (lat lon : ℤ) → IsLon lat lon → is_on_grid lat lon ≡ true
on_grid lat lon h = eq-eqb (column_of lon % width_at (row_of lat)) 0 h.2

pub lon_again : (lat l : ℤ) (rest : Text) → IsLon lat l → lon_at lat (lon_text l ++ rest) ≡ Some (l, rest)
unfolding lon_at
lon_again lat (pos n) rest h =
    let lt : n < 180 = omega (arith, ints, h.1) in
    rw (three_at_again n rest (omega arith), (lon_value_again n lt).0, on_grid lat (pos n) h) refl
lon_again lat (negsuc n) rest h =
    let lt : n < 180 = omega (arith, ints, h.0) in
    rw (three_at_again (n + 1) rest (omega arith), (lon_value_again n lt).1, on_grid lat (negsuc n) h) refl

-- ---- dataset

pub dataset_len : (f : Family) → length (dataset_text f) ≡ 15
dataset_len Elev = refl
dataset_len Low = refl
dataset_len High = refl
dataset_len Mat = refl

starts_with_dataset : (f : Family) (text : Text) → starts_with nat_eq text (dataset_text f) ≡ true
    → text ≡ dataset_text f ++ drop 15 text
starts_with_dataset f text e = starts_takes (dataset_text f) text e
    ∙ ap (λ (k : ℕ). dataset_text f ++ drop k text) (dataset_len f)

family_value : (text : Text) (f : Family) → family_of text ≡ Some f → text ≡ dataset_text f ++ drop 15 text
family_value text f e = by (starts_with nat_eq text (codes "_D001_S001_T001"))
    (starts_with nat_eq text (codes "_D002_S001_T001")) (starts_with nat_eq text (codes "_D002_S001_T002"))
    (starts_with nat_eq text (codes "_D005_S001_T001")) refl refl refl refl e
  where
    found : (g : Family) → starts_with nat_eq text (dataset_text g) ≡ true → Some g ≡ Some f
        → text ≡ dataset_text f ++ drop 15 text
    found g s i = subst (λ (h : Family). text ≡ dataset_text h ++ drop 15 text) (same_Some g f i)
        (starts_with_dataset g text s)

    by : (a b c d : Bool) → starts_with nat_eq text (codes "_D001_S001_T001") ≡ a
        → starts_with nat_eq text (codes "_D002_S001_T001") ≡ b → starts_with nat_eq text (codes "_D002_S001_T002") ≡ c
        → starts_with nat_eq text (codes "_D005_S001_T001") ≡ d
        → cond a (Some Elev) (cond b (Some Low) (cond c (Some High) (cond d (Some Mat) None))) ≡ Some f
        → text ≡ dataset_text f ++ drop 15 text
    by true b c d p q r s i = found Elev p i
    by false true c d p q r s i = found Low q i
    by false false true d p q r s i = found High r i
    by false false false true p q r s i = found Mat s i
    by false false false false p q r s i = absurd cc

pub family_takes : (text : Text) (f : Family) (rest : Text) → family_at text ≡ Some (f, rest)
    → text ≡ dataset_text f ++ rest
unfolding family_at
family_takes text f rest e =
    let m = map_some (family_of text) (λ family. (family, drop 15 text)) (f, rest) e in
    let p = pair_is m.0 f (drop 15 text) rest m.2 in
    subst (λ (r : Text). text ≡ dataset_text f ++ r)
    p.1 (subst (λ (g : Family). text ≡ dataset_text g ++ drop 15 text) p.0 (family_value text m.0 m.1))

pub family_again : (f : Family) (rest : Text) → family_at (dataset_text f ++ rest) ≡ Some (f, rest)
unfolding family_at
family_again Elev rest = refl
family_again Low rest = refl
family_again High rest = refl
family_again Mat rest = refl

-- ---- level

abbrev pub IsLevel : ℤ → Type 0
IsLevel l = (negsuc 9 ≤ℤ l) × (l ≤ℤ pos 23)

coarse_takes : (text : Text) (l : ℤ) (rest : Text) → coarse_at text ≡ Some (l, rest) → IsLevel l
    × (text ≡ level_text l ++ rest)
unfolding coarse_at
coarse_takes text l rest e =
    let a = then_some (after (codes "_LC") text) _ (l, rest) e in
    let b = then_some (two_at a.0) _ (l, rest) a.2 in
    let c = then_some (coarse_of b.0.0) _ (l, rest) b.2 in
    let p = pair_is c.0 l b.0.1 rest (same_Some _ _ c.2) in
    let n = b.0.0 in
    let g = cond_some (nat_lt 0 b.0.0 && nat_le b.0.0 10) (neg_ℤ (pos b.0.0)) c.0 c.1 in
    let u = and_parts (nat_lt 0 b.0.0) (nat_le b.0.0 10) g.0 in
    let lt : 0 < b.0.0 = ltb-true 0 b.0.0 u.0 in
    let le : b.0.0 ≤ 10 = leb-true b.0.0 10 u.1 in
    let is : negsuc (b.0.0 - 1) ≡ l = sym (below_zero b.0.0 lt) ∙ g.1 ∙ p.0 in
    let one : b.0.0 - 1 + 1 ≡ b.0.0 = omega arith in
    let t = two_at_takes a.0 b.0.0 b.0.1 b.1 in
    let whole : text ≡ 95 ∷ 76 ∷ 67 ∷ (two b.0.0 ++ b.0.1) = after_takes (codes "_LC") text a.0 a.1
    ∙ ap (λ (r : Text). 95 ∷ 76 ∷ 67 ∷ r) t.0 in
    let spelled : text ≡ level_text (negsuc (b.0.0 - 1)) ++ rest = whole
    ∙ ap (λ (k : ℕ). 95 ∷ 76 ∷ 67 ∷ (two k ++ b.0.1)) (sym one)
    ∙ ap (λ (r : Text). level_text (negsuc (b.0.0 - 1)) ++ r) p.1 in
    let facts : IsLevel (negsuc (b.0.0 - 1)) = (omega (arith, ints), omega (arith, ints)) in
    (subst IsLevel is facts, subst (λ (z : ℤ). text ≡ level_text z ++ rest) is spelled)

fine_takes : (text : Text) (l : ℤ) (rest : Text) → fine_at text ≡ Some (l, rest) → IsLevel l
    × (text ≡ level_text l ++ rest)
unfolding fine_at
fine_takes text l rest e =
    let a = then_some (after (codes "_L") text) _ (l, rest) e in
    let b = then_some (two_at a.0) _ (l, rest) a.2 in
    let c = then_some (fine_of b.0.0) _ (l, rest) b.2 in
    let p = pair_is c.0 l b.0.1 rest (same_Some _ _ c.2) in
    let g = cond_some (nat_lt b.0.0 24) (pos b.0.0) c.0 c.1 in
    let lt : b.0.0 < 24 = ltb-true b.0.0 24 g.0 in
    let is : pos b.0.0 ≡ l = g.1 ∙ p.0 in
    let t = two_at_takes a.0 b.0.0 b.0.1 b.1 in
    let whole : text ≡ 95 ∷ 76 ∷ (two b.0.0 ++ b.0.1) = after_takes (codes "_L") text a.0 a.1
    ∙ ap (λ (r : Text). 95 ∷ 76 ∷ r) t.0 in
    let spelled : text ≡ level_text (pos b.0.0) ++ rest = whole ∙ ap (λ (r : Text). level_text (pos b.0.0) ++ r) p.1 in
    let facts : IsLevel (pos b.0.0) = (omega (arith, ints), omega (arith, ints)) in
    (subst IsLevel is facts, subst (λ (z : ℤ). text ≡ level_text z ++ rest) is spelled)

pub level_takes : (text : Text) (l : ℤ) (rest : Text) → level_at text ≡ Some (l, rest) → IsLevel l
    × (text ≡ level_text l ++ rest)
unfolding level_at
level_takes text l rest e =
    elim (chosen (starts_with nat_eq text (codes "_LC")) (coarse_at text) (fine_at text) (Some (l, rest)) e) [
      | inl h ↦ coarse_takes text l rest h.1
      | inr h ↦ fine_takes text l rest h.1
    ]

pub level_again : (l : ℤ) (rest : Text) → IsLevel l → level_at (level_text l ++ rest) ≡ Some (l, rest)
unfolding level_at coarse_at fine_at
level_again (pos n) rest h =
    let lt : n < 24 = omega (arith, ints, h.1) in
    let other : nat_eq 67 (48 + n / 10) ≡ false = ne_eqb 67 (48 + n / 10) (omega arith) in
    rw (other, two_again n (omega arith), lt-ltb n 24 lt) refl
level_again (negsuc n) rest h =
    let lt : n < 10 = omega (arith, ints, h.0) in
    let a : nat_lt 0 (n + 1) ≡ true = lt-ltb 0 (n + 1) (omega arith) in
    let b : nat_le (n + 1) 10 ≡ true = le-leb (n + 1) 10 (omega arith) in
    let d : neg_ℤ (pos (n + 1)) ≡ negsuc n = below_zero (n + 1) (omega arith) ∙ ap negsuc (omega arith) in
    rw (two_again (n + 1) (omega arith), a, b, d) refl

-- ---- up and right

pub numbered_takes : (prefix : Text) (limit : ℕ) (text : Text) (n : ℕ) (rest : Text) → limit ≤ 2 ^ 32
    → numbered_at prefix limit text ≡ Some (n, rest) → (n < limit) × (text ≡ prefix ++ (decimal n ++ rest))
    × (begins_with_digit rest ≡ false)
unfolding numbered_at
numbered_takes prefix limit text n rest small e =
    let a = then_some (after prefix text) (λ rest. bounded_number_at limit rest) (n, rest) e in
    let t = number_takes limit a.0 n rest small a.2 in
    (t.0, after_takes prefix text a.0 a.1 ∙ ap (λ (r : Text). prefix ++ r) t.1, t.2)

pub numbered_again : (prefix : Text) (limit n : ℕ) (rest : Text) → n < limit → limit ≤ 2 ^ 32 → begins_with_digit rest
    ≡ false → numbered_at prefix limit (prefix ++ (decimal n ++ rest)) ≡ Some (n, rest)
unfolding numbered_at
numbered_again prefix limit n rest lt small e =
    ap (option_and_then (λ rest. bounded_number_at limit rest)) (after_again prefix (decimal n ++ rest))
    ∙ number_again limit n rest lt small e
