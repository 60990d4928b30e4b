-- Each folder of a path: what was read is spelled so, and what is spelled so is read again, whatever follows.
use Rattle.std.proofs.Common.{◌≡◌, ℕ, ◌+◌, ◌*◌, ◌<◌, ◌≤◌, ◌^◌, Bool, true, false, cond, ◌&&◌, [], ◌∷◌, ◌++◌, length, drop, Option, Some, None, inl, inr, refl, ap, sym, subst, ◌∙◌, arith, append_assoc, ℤ, pos, negsuc}
use Rattle.std.specs.Prelude.{nat_eq, nat_lt, nat_le, codes, ◌/◌, ◌%◌}
use Rattle.std.specs.Fmt.{decimal}
use Rattle.std.specs.List.{starts_with}
use Rattle.std.proofs.lemmas.Bool.{ltb-true, leb-true, lt-ltb, le-leb, ne_eqb, and_parts}
use Rattle.std.proofs.lemmas.Int.{ints}
use Rattle.std.proofs.lemmas.Option.{cond_some, same_Some}
use Rattle.cdb_grid.specs.declared.family.Family.{Family}
use Rattle.cdb_grid.specs.declared.family.Family.TheVariants.{Elev, Low, High, Mat}
use Rattle.cdb_model.specs.Names.{Text, two, four, lat_text, lon_text, version_folder, dataset_folder, level_folder}
use Rattle.cdb_names.specs.declared.folder.DatasetFolder.{DatasetFolder}
use Rattle.cdb_names.specs.declared.folder.DatasetFolder.TheVariants.{Elevation, MinMaxElevation, RmTexture}
use Rattle.cdb_names.specs.Fields.{after, two_at, fine_of, lat_at, lon_at, numbered_at}
use Rattle.cdb_names.specs.inside.Fields.{four_at, version_of, version_at, fine_folder_at, slashed, version_folder_at, lat_folder_at, lon_folder_at, dataset_folder_at, level_folder_at, up_folder_at}
use Rattle.cdb_names.specs.Reading.{dataset_folder_of, level_folder_of}
use Rattle.cdb_names.proofs.Tools.{chosen, then_some, map_some, pair_is}
use Rattle.cdb_names.proofs.DigitLaws.{two_again, two_at_takes}
use Rattle.cdb_names.proofs.FieldLaws.{IsLat, IsLon, IsLevel, starts_takes, after_takes, lat_takes, lat_again, lon_takes, lon_again, numbered_takes, numbered_again}
use Rattle.cdb_names.proofs.FolderLaws.{some_family, some_level}

-- ---- a slash

pub slashed_takes : {X : Type 0} (o : Option (X × Text)) (x : X) (rest : Text) → slashed o ≡ Some (x, rest)
    → o ≡ Some (x, 47 ∷ rest)
slashed_takes None x rest e = absurd cc
slashed_takes {X} (Some p) x rest e =
    let m = map_some (after (codes "/") p.1) (λ rest. (p.0, rest)) (x, rest) e in
    let q = pair_is p.0 x m.0 rest m.2 in
    let t : p.1 ≡ 47 ∷ rest = after_takes (codes "/") p.1 m.0 m.1 ∙ ap (λ (r : Text). 47 ∷ r) q.1 in
    let a : ◌≡◌ {A = X × Text} (p.0, p.1) (x, p.1) = ap (λ (y : X). (y, p.1)) q.0 in
    let b : ◌≡◌ {A = X × Text} (x, p.1) (x, 47 ∷ rest) = ap (λ (r : Text). (x, r)) t in
    ap Some (a ∙ b)

pub slashed_again : {X : Type 0} (o : Option (X × Text)) (x : X) (rest : Text) → o ≡ Some (x, 47 ∷ rest)
    → slashed o ≡ Some (x, rest)
slashed_again o x rest e = ap slashed e

-- a part with its slash, and then a rest
pub part_is : (part rest : Text) → (part ++ 47 ∷ []) ++ rest ≡ part ++ 47 ∷ rest
part_is part rest = append_assoc part (47 ∷ []) rest

-- ---- version

four_takes : (text : Text) (n : ℕ) (rest : Text) → four_at text ≡ Some (n, rest) → (text ≡ four n ++ rest) × (n < 10000)
unfolding four_at
four_takes text n rest e =
    let a = then_some (two_at text) _ (n, rest) e in
    let b = then_some (two_at a.0.1) _ (n, rest) a.2 in
    let p = pair_is (a.0.0 * 100 + b.0.0) n b.0.1 rest (same_Some _ _ b.2) in
    let s = two_at_takes text a.0.0 a.0.1 a.1 in
    let t = two_at_takes a.0.1 b.0.0 b.0.1 b.1 in
    let small : a.0.0 < 100 = s.1 in
    let low : b.0.0 < 100 = t.1 in
    let is : a.0.0 * 100 + b.0.0 ≡ n = p.0 in
    let high_is : a.0.0 ≡ n / 100 = omega arith in
    let low_is : b.0.0 ≡ n % 100 = omega arith in
    let whole : text ≡ two a.0.0 ++ (two b.0.0 ++ b.0.1) = s.0 ∙ ap (λ (r : Text). two a.0.0 ++ r) t.0 in (
      whole ∙ ap (λ (k : ℕ). two k ++ (two b.0.0 ++ b.0.1)) high_is
          ∙ ap (λ (k : ℕ). two (n / 100) ++ (two k ++ b.0.1)) low_is
          ∙ ap (λ (r : Text). two (n / 100) ++ (two (n % 100) ++ r)) p.1,
      omega arith,
    )

four_again : (n : ℕ) (rest : Text) → n < 10000 → four_at (four n ++ rest) ≡ Some (n, rest)
unfolding four_at
four_again n rest h =
    let e : n / 100 * 100 + n % 100 ≡ n = omega arith in
    rw (two_again (n / 100) (omega arith), two_again (n % 100) (omega arith)) (ap (λ (k : ℕ). Some (k, rest)) e)

version_takes : (text : Text) (v : ℕ) (rest : Text) → version_at text ≡ Some (v, rest)
    → (text ≡ version_folder v ++ rest) × (1 ≤ v) × (v ≤ 4096)
unfolding version_at
version_takes text v rest e =
    let a = then_some (after (codes "V") text) _ (v, rest) e in
    let b = then_some (four_at a.0) _ (v, rest) a.2 in
    let c = then_some (four_at b.0.1) _ (v, rest) b.2 in
    let d = then_some (version_of b.0.0 c.0.0) _ (v, rest) c.2 in
    let p = pair_is d.0 v c.0.1 rest (same_Some _ _ d.2) in
    let g = cond_some (nat_lt 0 (b.0.0 * 10000 + c.0.0) && nat_le (b.0.0 * 10000 + c.0.0) 4096)
    (b.0.0 * 10000 + c.0.0) d.0 d.1 in
    let u = and_parts (nat_lt 0 (b.0.0 * 10000 + c.0.0)) (nat_le (b.0.0 * 10000 + c.0.0) 4096) g.0 in
    let some : 0 < b.0.0 * 10000 + c.0.0 = ltb-true 0 (b.0.0 * 10000 + c.0.0) u.0 in
    let most : b.0.0 * 10000 + c.0.0 ≤ 4096 = leb-true (b.0.0 * 10000 + c.0.0) 4096 u.1 in
    let s = four_takes a.0 b.0.0 b.0.1 b.1 in
    let t = four_takes b.0.1 c.0.0 c.0.1 c.1 in
    let high : b.0.0 < 10000 = s.1 in
    let low : c.0.0 < 10000 = t.1 in
    let is : b.0.0 * 10000 + c.0.0 ≡ v = g.1 ∙ p.0 in
    let high_is : b.0.0 ≡ v / 10000 = omega arith in
    let low_is : c.0.0 ≡ v % 10000 = omega arith in
    let whole : text ≡ 86 ∷ (four b.0.0 ++ (four c.0.0 ++ c.0.1)) = after_takes (codes "V") text a.0 a.1
    ∙ ap (λ (r : Text). 86 ∷ r) (s.0 ∙ ap (λ (r : Text). four b.0.0 ++ r) t.0) in (
      whole ∙ ap (λ (k : ℕ). 86 ∷ (four k ++ (four c.0.0 ++ c.0.1))) high_is
          ∙ ap (λ (k : ℕ). 86 ∷ (four (v / 10000) ++ (four k ++ c.0.1))) low_is
          ∙ ap (λ (r : Text). 86 ∷ (four (v / 10000) ++ (four (v % 10000) ++ r))) p.1,
      omega arith,
      omega arith,
    )

version_value_again : (v : ℕ) → 1 ≤ v → v ≤ 4096 → version_of (v / 10000) (v % 10000) ≡ Some v
version_value_again v some most =
    let e : v / 10000 * 10000 + v % 10000 ≡ v = omega arith in
    let a : nat_lt 0 v ≡ true = lt-ltb 0 v some in
    let b : nat_le v 4096 ≡ true = le-leb v 4096 most in
    rw (e, a, b) refl

version_again : (v : ℕ) (rest : Text) → 1 ≤ v → v ≤ 4096 → version_at (version_folder v ++ rest) ≡ Some (v, rest)
unfolding version_at
version_again v rest some most =
    rw (
      four_again (v / 10000) (four (v % 10000) ++ rest) (omega arith),
      four_again (v % 10000) rest (omega arith),
      version_value_again v some most,
    ) refl

pub version_folder_takes : (text : Text) (v : ℕ) (rest : Text) → version_folder_at text ≡ Some (v, rest)
    → (text ≡ (version_folder v ++ 47 ∷ []) ++ rest) × (1 ≤ v) × (v ≤ 4096)
unfolding version_folder_at
version_folder_takes text v rest e =
    let t = version_takes text v (47 ∷ rest) (slashed_takes (version_at text) v rest e) in
    (t.0 ∙ sym (part_is (version_folder v) rest), t.1, t.2)

pub version_folder_again : (v : ℕ) (rest : Text) → 1 ≤ v → v ≤ 4096
    → version_folder_at ((version_folder v ++ 47 ∷ []) ++ rest) ≡ Some (v, rest)
unfolding version_folder_at
version_folder_again v rest some most = slashed_again _ v rest (version_again v (47 ∷ rest) some most)

-- ---- latitude and longitude

pub lat_folder_takes : (text : Text) (l : ℤ) (rest : Text) → lat_folder_at text ≡ Some (l, rest) → IsLat l
    × (text ≡ (lat_text l ++ 47 ∷ []) ++ rest)
unfolding lat_folder_at
lat_folder_takes text l rest e =
    let t = lat_takes text l (47 ∷ rest) (slashed_takes (lat_at text) l rest e) in
    (t.0, t.1 ∙ sym (part_is (lat_text l) rest))

pub lat_folder_again : (l : ℤ) (rest : Text) → IsLat l → lat_folder_at ((lat_text l ++ 47 ∷ []) ++ rest)
    ≡ Some (l, rest)
unfolding lat_folder_at
lat_folder_again l rest h = slashed_again _ l rest (ap lat_at (part_is (lat_text l) rest) ∙ lat_again l (47 ∷ rest) h)

pub lon_folder_takes : (lat : ℤ) (text : Text) (l : ℤ) (rest : Text) → lon_folder_at lat text ≡ Some (l, rest)
    → IsLon lat l × (text ≡ (lon_text l ++ 47 ∷ []) ++ rest)
unfolding lon_folder_at
lon_folder_takes lat text l rest e =
    let t = lon_takes lat text l (47 ∷ rest) (slashed_takes (lon_at lat text) l rest e) in
    (t.0, t.1 ∙ sym (part_is (lon_text l) rest))

pub lon_folder_again : (lat l : ℤ) (rest : Text) → IsLon lat l → lon_folder_at lat ((lon_text l ++ 47 ∷ []) ++ rest)
    ≡ Some (l, rest)
unfolding lon_folder_at
lon_folder_again lat l rest h =
    slashed_again _ l rest (ap (lon_at lat) (part_is (lon_text l) rest) ∙ lon_again lat l (47 ∷ rest) h)

-- ---- dataset

-- the text of a dataset's folder, with its slash
abbrev dataset_part : DatasetFolder → Text
dataset_part Elevation = codes "001_Elevation/"
dataset_part MinMaxElevation = codes "002_MinMaxElevation/"
dataset_part RmTexture = codes "005_RMTexture/"

pub dataset_folder_takes : (text : Text) (d : DatasetFolder) (rest : Text) → dataset_folder_at text ≡ Some (d, rest)
    → text ≡ (dataset_folder (some_family d) ++ 47 ∷ []) ++ rest
unfolding dataset_folder_at
dataset_folder_takes text d rest e = part ∙ ap (λ (f : Text). f ++ rest) (spelled d)
  where
    spelled : (d : DatasetFolder) → dataset_part d ≡ dataset_folder (some_family d) ++ 47 ∷ []
    spelled Elevation = refl
    spelled MinMaxElevation = refl
    spelled RmTexture = refl

    found : (k : DatasetFolder) (n : ℕ) → n ≡ length (dataset_part k) → starts_with nat_eq text (dataset_part k) ≡ true
        → ◌≡◌ {A = Option (DatasetFolder × Text)} (Some (k, drop n text)) (Some (d, rest))
        → text ≡ dataset_part d ++ rest
    found k n len s i =
        let p = pair_is k d (drop n text) rest (same_Some _ _ i) in
        let t = starts_takes (dataset_part k) text s in
        t ∙ ap (λ (m : ℕ). dataset_part k ++ drop m text) (sym len) ∙ ap (λ (r : Text). dataset_part k ++ r) p.1
        ∙ ap (λ (f : DatasetFolder). dataset_part f ++ rest) p.0

    by : (a b c : Bool) → starts_with nat_eq text (codes "001_Elevation/") ≡ a
        → starts_with nat_eq text (codes "002_MinMaxElevation/") ≡ b
        → starts_with nat_eq text (codes "005_RMTexture/") ≡ c
        → ◌≡◌ {A = Option (DatasetFolder × Text)}
        (cond a (Some (Elevation, drop 14 text))
        (cond b (Some (MinMaxElevation, drop 20 text)) (cond c (Some (RmTexture, drop 14 text)) None)))
        (Some (d, rest)) → text ≡ dataset_part d ++ rest
    by true b c p q r i = found Elevation 14 refl p i
    by false true c p q r i = found MinMaxElevation 20 refl q i
    by false false true p q r i = found RmTexture 14 refl r i
    by false false false p q r i = absurd cc

    part : text ≡ dataset_part d ++ rest
    part = by (starts_with nat_eq text (codes "001_Elevation/"))
        (starts_with nat_eq text (codes "002_MinMaxElevation/")) (starts_with nat_eq text (codes "005_RMTexture/"))
        refl refl refl e

pub dataset_folder_again : (f : Family) (rest : Text) → dataset_folder_at ((dataset_folder f ++ 47 ∷ []) ++ rest)
    ≡ Some (dataset_folder_of f, rest)
unfolding dataset_folder_at
dataset_folder_again Elev rest = refl
dataset_folder_again Low rest = refl
dataset_folder_again High rest = refl
dataset_folder_again Mat rest = refl

-- ---- level

-- the level that stands for all levels of its folder
abbrev pub level_for_folder : ℤ → ℤ
level_for_folder l = some_level (level_folder_of l)

fine_folder_takes : (text : Text) (l : ℤ) (rest : Text) → fine_folder_at text ≡ Some (l, rest) → IsLevel l
    × (text ≡ level_folder l ++ rest) × (level_for_folder l ≡ l)
unfolding fine_folder_at
fine_folder_takes text l rest e =
    let a = then_some (after (codes "L") text) _ (l, rest) e in
    let b = then_some (two_at a.0) _ (l, rest) a.2 in
    let c = then_some (fine_of b.0.0) _ (l, rest) b.2 in
    let p = pair_is c.0 l b.0.1 rest (same_Some _ _ c.2) in
    let g = cond_some (nat_lt b.0.0 24) (pos b.0.0) c.0 c.1 in
    let lt : b.0.0 < 24 = ltb-true b.0.0 24 g.0 in
    let is : pos b.0.0 ≡ l = g.1 ∙ p.0 in
    let t = two_at_takes a.0 b.0.0 b.0.1 b.1 in
    let whole : text ≡ 76 ∷ (two b.0.0 ++ b.0.1) = after_takes (codes "L") text a.0 a.1
    ∙ ap (λ (r : Text). 76 ∷ r) t.0 in
    let spelled : text ≡ level_folder (pos b.0.0) ++ rest = whole
    ∙ ap (λ (r : Text). level_folder (pos b.0.0) ++ r) p.1 in
    let facts : IsLevel (pos b.0.0) = (omega (arith, ints), omega (arith, ints)) in (
      subst IsLevel is facts,
      subst (λ (z : ℤ). text ≡ level_folder z ++ rest) is spelled,
      subst (λ (z : ℤ). level_for_folder z ≡ z) is refl,
    )

pub level_folder_takes : (text : Text) (l : ℤ) (rest : Text) → level_folder_at text ≡ Some (l, rest) → IsLevel l
    × (text ≡ (level_folder l ++ 47 ∷ []) ++ rest) × (level_for_folder l ≡ l)
unfolding level_folder_at
level_folder_takes text l rest e =
    elim (chosen (starts_with nat_eq text (codes "LC/")) (Some (negsuc 0, drop 3 text)) (slashed (fine_folder_at text))
    (Some (l, rest)) e) [
      | inl h ↦
          let p = pair_is (negsuc 0) l (drop 3 text) rest (same_Some _ _ h.1) in
          let t : text ≡ codes "LC/" ++ drop 3 text = starts_takes (codes "LC/") text h.0 in
          let spelled : text ≡ (level_folder (negsuc 0) ++ 47 ∷ []) ++ rest = t
          ∙ ap (λ (r : Text). codes "LC/" ++ r) p.1 in
          let facts : IsLevel (negsuc 0) = (omega (arith, ints), omega (arith, ints)) in (
            subst IsLevel p.0 facts,
            subst (λ (z : ℤ). text ≡ (level_folder z ++ 47 ∷ []) ++ rest) p.0 spelled,
            subst (λ (z : ℤ). level_for_folder z ≡ z) p.0 refl,
          )
      | inr h ↦
          let t = fine_folder_takes text l (47 ∷ rest) (slashed_takes (fine_folder_at text) l rest h.1) in
          (t.0, t.1 ∙ sym (part_is (level_folder l) rest), t.2)
    ]

pub level_folder_again : (l : ℤ) (rest : Text) → IsLevel l → level_folder_at ((level_folder l ++ 47 ∷ []) ++ rest)
    ≡ Some (level_for_folder l, rest)
unfolding level_folder_at fine_folder_at
level_folder_again (pos n) rest h =
    let lt : n < 24 = omega (arith, ints, h.1) in
    let other : nat_eq 67 (48 + n / 10) ≡ false = ne_eqb 67 (48 + n / 10) (omega arith) in
    rw (other, two_again n (omega arith), lt-ltb n 24 lt) refl
level_folder_again (negsuc n) rest h = refl

-- ---- row

pub up_folder_takes : (limit : ℕ) (text : Text) (n : ℕ) (rest : Text) → limit ≤ 2 ^ 32 → up_folder_at limit text
    ≡ Some (n, rest) → (n < limit) × (text ≡ ((85 ∷ decimal n) ++ 47 ∷ []) ++ rest)
unfolding up_folder_at
up_folder_takes limit text n rest small e =
    let t = numbered_takes (codes "U") limit text n (47 ∷ rest) small
    (slashed_takes (numbered_at (codes "U") limit text) n rest e) in
    (t.0, t.1 ∙ sym (part_is (85 ∷ decimal n) rest))

pub up_folder_again : (limit n : ℕ) (rest : Text) → n < limit → limit ≤ 2 ^ 32
    → up_folder_at limit (((85 ∷ decimal n) ++ 47 ∷ []) ++ rest) ≡ Some (n, rest)
unfolding up_folder_at
up_folder_again limit n rest lt small =
    slashed_again _ n rest (ap (numbered_at (codes "U") limit) (part_is (85 ∷ decimal n) rest)
    ∙ numbered_again (codes "U") limit n (47 ∷ rest) lt small refl)
