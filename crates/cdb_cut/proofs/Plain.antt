-- A value is never the number that stands for none, so that a frame spells each value and none apart.
use Rattle.std.proofs.Common.{◌≡◌, ℕ, zero, suc, ◌+◌, ◌-◌, ◌*◌, ◌%◌, ◌/◌, ◌<◌, ◌≤◌, ℤ, pos, negsuc, ◌+ℤ◌, ◌*ℤ◌, ◌<ℤ◌, Bool, true, false, cond, ◌&&◌, ◌||◌, List, [], ◌∷◌, map, get_or, All, Option, None, Some, IfSome, refl, sym, ap, subst, ◌∙◌, arith, nat_le, nat_lt, nat_eq}
use Rattle.std.specs.Prelude.{unsigned_abs, slice_get, option_and_then, int_lt, filter_map, fold}
use Rattle.std.specs.Option.{option_map, option_or}
use Rattle.std.specs.Ordering.{int_eq}
use Rattle.std.proofs.lemmas.Int.{ints}
use Rattle.std.proofs.lemmas.Nat.{mod_below, mul-le}
use Rattle.std.proofs.lemmas.Bool.Decides.{Decides-int_eq}
use Rattle.std.proofs.lemmas.List.Elements.{All-get_or}
use Rattle.std.proofs.lemmas.Option.{slice_get_within, get_or_from_slice_get}
use Rattle.cdb_grid.specs.Grid.{Place, beside, centre}
use Rattle.cdb_source.specs.Posts.{IsPost, none_of, coded}
use Rattle.cdb_source.specs.Sample.{value_of, post_at, plus, weighted_sum, rounded, row_step, column_step, corner_of, mean_at, value_in, is_in_box, sample_at}
use Rattle.cdb_source.specs.Offers.{over, best}
use Rattle.cdb_source.specs.Values.{Sampled, sampled, same_kind, offer, own, newest_own, elevation, lesser, greater, low, high, count_of, oftener, mode, mode_of_four, material}
use Rattle.cdb_source.specs.Reached.{kind_of, family_value}
use Rattle.cdb_source.specs.declared.kind.Kind.{Kind}
use Rattle.cdb_source.specs.declared.kind.Kind.TheVariants.{Elevation, Material}
use Rattle.cdb_source.specs.declared.source.Source.{Source}
use Rattle.cdb_grid.specs.declared.family.Family.{Family}
use Rattle.cdb_grid.specs.declared.family.Family.TheVariants.{Elev, Low, High, Mat}
use Rattle.cdb_source.proofs.SampleLaws.{rounded-most}
use Rattle.cdb_cut.proofs.MeanLaws.{near_plus, four_weights}

-- a value, where there is one, isn't the number of a kind that stands for none
abbrev pub IsPlain : Kind → Option ℤ → Type 0
IsPlain kind o = IfSome o (λ v. v ≡ none_of kind → ⊥)

-- ---- reading a number back

pub test_same : (v n : ℤ) → v ≡ n → int_eq v n ≡ true
test_same v n e = (Decides-int_eq v n).1 e

pub test_other : (v n : ℤ) → (v ≡ n → ⊥) → int_eq v n ≡ false
test_other v n ne = by (int_eq v n) refl
  where
    by : (b : Bool) → int_eq v n ≡ b → int_eq v n ≡ false
    by true e = absurd (ne ((Decides-int_eq v n).0 e))
    by false e = e

-- the number of none is read as none, and that of a value as this value
pub read_back : (kind : Kind) (o : Option ℤ) → IsPlain kind o → value_of kind (coded kind o) ≡ o
read_back Elevation None p = refl
read_back Material None p = refl
read_back kind (Some v) p = rw (test_other v (none_of kind) p) refl

pub none_read : (kind : Kind) → value_of kind (none_of kind) ≡ None
none_read Elevation = refl
none_read Material = refl

pub read_plain : (kind : Kind) (v : ℤ) → IsPlain kind (value_of kind v)
read_plain kind v = by (int_eq v (none_of kind)) refl
  where
    by : (b : Bool) → int_eq v (none_of kind) ≡ b → IfSome (cond b None (Some v)) (λ n. n ≡ none_of kind → ⊥)
    by true e = tt
    by false e = λ same. let yes : int_eq v (none_of kind) ≡ true = test_same v (none_of kind) same in
        let no : true ≡ false = sym yes ∙ e in cc

-- ---- one source

near_by : (n : ℕ) (b : Bool) → int_eq (negsuc n) (negsuc 32767) ≡ b → n ≤ 32767
    → IfSome (cond b None (Some (negsuc n))) (λ v. unsigned_abs v ≤ 32767)
near_by n true e most = tt
near_by n false e most =
    let other : n ≡ 32767 → ⊥ = λ same. let no : true ≡ false =
    sym ((Decides-int_eq (negsuc n) (negsuc 32767)).1 (ap negsuc same)) ∙ e in cc in
    omega (arith, other)

near_value : (v : ℤ) → IsPost Elevation v → IfSome (value_of Elevation v) (λ n. unsigned_abs n ≤ 32767)
near_value (pos n) p = omega (arith, ints, p.greatest)
near_value (negsuc n) p = near_by n (int_eq (negsuc n) (negsuc 32767)) refl (omega (arith, ints, p.least))

near_got : (s : Source) (i : ℕ) (o : Option ℤ) → s.head.kind ≡ Elevation → slice_get s.posts i ≡ o
    → IfSome (option_and_then (value_of Elevation) o) (λ v. unsigned_abs v ≤ 32767)
near_got s i None e is = tt
near_got s i (Some v) e is =
    let posts : All (IsPost Elevation) s.posts = subst (λ (k : Kind). All (IsPost k) s.posts) e s.in_range in
    let at : get_or s.posts i v ≡ v = get_or_from_slice_get s.posts i v v is in
    near_value v
    (subst (IsPost Elevation) at
    (All-get_or (IsPost Elevation) s.posts i v (slice_get_within s.posts i v is) posts))

near_where : (b : Bool) (o : Option ℤ) → IfSome o (λ v. unsigned_abs v ≤ 32767)
    → IfSome (cond b o None) (λ v. unsigned_abs v ≤ 32767)
near_where true o near = near
near_where false o near = tt

pub near_post : (s : Source) (row col : ℕ) → s.head.kind ≡ Elevation
    → IfSome (post_at s row col) (λ v. unsigned_abs v ≤ 32767)
near_post s row col e =
    let i = row * s.head.cols + col in
    let got = near_got s i (slice_get s.posts i) e refl in
    near_where (nat_lt row s.head.rows && nat_lt col s.head.cols)
    (option_and_then (value_of s.head.kind) (slice_get s.posts i))
    (subst (λ (k : Kind). IfSome (option_and_then (value_of k) (slice_get s.posts i)) (λ v. unsigned_abs v ≤ 32767))
    (sym e) got)

-- the weighted sum of four posts is at most 32767 times the sum of the weights
pub near_sum : (post : ℕ → ℕ → Option ℤ) (m n up right : ℕ) → 0 < m → 0 < n
    → ((row col : ℕ) → IfSome (post row col) (λ v. unsigned_abs v ≤ 32767))
    → IfSome (weighted_sum post m n up right) (λ t. unsigned_abs t ≤ 32767 * (m * n))
unfolding weighted_sum
near_sum post m n up right some_row some_col near =
    let i = up / m in let j = right / n in let a = up % m in let b = right % n in
    let zero_near : unsigned_abs (pos 0) ≤ 32767 * 0 = omega (arith, ints) in
    let one = near_plus ((m - a) * (n - b)) 0 (post i j) (Some (pos 0)) zero_near (near i j) in
    let two = near_plus ((m - a) * b) (0 + (m - a) * (n - b)) (post i (j + 1))
    (plus ((m - a) * (n - b)) (post i j) (Some (pos 0))) one (near i (j + 1)) in
    let three = near_plus (a * (n - b)) (0 + (m - a) * (n - b) + (m - a) * b) (post (i + 1) j)
    (plus ((m - a) * b) (post i (j + 1)) (plus ((m - a) * (n - b)) (post i j) (Some (pos 0)))) two
    (near (i + 1) j) in
    let four = near_plus (a * b) (0 + (m - a) * (n - b) + (m - a) * b + a * (n - b)) (post (i + 1) (j + 1))
    (plus (a * (n - b)) (post (i + 1) j)
    (plus ((m - a) * b) (post i (j + 1)) (plus ((m - a) * (n - b)) (post i j) (Some (pos 0))))) three
    (near (i + 1) (j + 1)) in
    let row_below : a < m = mod_below up m some_row in
    let col_below : b < n = mod_below right n some_col in
    subst (λ (w : ℕ). IfSome (weighted_sum post m n up right) (λ t. unsigned_abs t ≤ 32767 * w))
    (four_weights m n a b (omega arith) (omega arith)) four

-- a mean of numbers of at most 32767 in size isn't -32768
mean_other : (d : ℕ) (n : ℤ) → 1 ≤ d → unsigned_abs n ≤ 32767 * d → (rounded d n ≡ negsuc 32767 → ⊥)
mean_other d n le near e =
    let most = subst (λ (r : ℤ). (pos 2 *ℤ n +ℤ pos d) <ℤ (pos (2 * d) *ℤ (r +ℤ pos 1))) e (rounded-most d n le) in
    let same : pos (2 * d) *ℤ (negsuc 32767 +ℤ pos 1) ≡ negsuc 65533 *ℤ pos d = times d in
    too_low n d le near (subst (λ (z : ℤ). (pos 2 *ℤ n +ℤ pos d) <ℤ z) same most)
  where
    times : (d : ℕ) → pos (2 * d) *ℤ (negsuc 32767 +ℤ pos 1) ≡ negsuc 65533 *ℤ pos d
    times d = omega (arith, ints)

    too_low : (n : ℤ) (d : ℕ) → 1 ≤ d → unsigned_abs n ≤ 32767 * d
        → (pos 2 *ℤ n +ℤ pos d) <ℤ (negsuc 65533 *ℤ pos d) → ⊥
    too_low n d le near lt = omega (arith, ints)

rounded_other : (d : ℕ) (o : Option ℤ) → 1 ≤ d → IfSome o (λ n. unsigned_abs n ≤ 32767 * d)
    → IsPlain Elevation (option_map (rounded d) o)
rounded_other d None least near = tt
rounded_other d (Some n) least near = mean_other d n least near

mean_plain : (s : Source) (p : Place) → s.head.kind ≡ Elevation → IsPlain Elevation (mean_at s p)
mean_plain s p e =
    let m = row_step s.head in let n = column_step s.head in
    let rows = s.head.in_range.row_step in let cols = s.head.in_range.column_step in
    let least : 1 * 1 ≤ m * n = mul-le 1 1 m n rows.least cols.least in
    rounded_other (m * n)
    (weighted_sum (post_at s) m n (p.north - (corner_of s.head).north) (p.east - (corner_of s.head).east))
    (omega arith)
    (near_sum (post_at s) m n (p.north - (corner_of s.head).north) (p.east - (corner_of s.head).east)
    rows.least cols.least (λ row col. near_post s row col e))

plain_got : (kind : Kind) (o : Option ℤ) → IsPlain kind (option_and_then (value_of kind) o)
plain_got kind None = tt
plain_got kind (Some v) = read_plain kind v

plain_where : (kind : Kind) (b : Bool) (o : Option ℤ) → IsPlain kind o → IsPlain kind (cond b o None)
plain_where kind true o p = p
plain_where kind false o p = tt

value_in_plain : (k : Kind) (s : Source) (p : Place) → s.head.kind ≡ k → IsPlain k (value_in k s p)
value_in_plain Elevation s p e = mean_plain s p e
value_in_plain Material s p e =
    let row = (p.north - (corner_of s.head).north) / row_step s.head in
    let col = (p.east - (corner_of s.head).east) / column_step s.head in
    subst (λ (k : Kind). IsPlain k (post_at s row col)) e
    (plain_where s.head.kind (nat_lt row s.head.rows && nat_lt col s.head.cols)
    (option_and_then (value_of s.head.kind) (slice_get s.posts (row * s.head.cols + col)))
    (plain_got s.head.kind (slice_get s.posts (row * s.head.cols + col))))

pub sample_plain : (s : Source) (p : Place) → IsPlain s.head.kind (sample_at s p)
unfolding sample_at
sample_plain s p = plain_where s.head.kind (is_in_box s.head p) (value_in s.head.kind s p)
    (value_in_plain s.head.kind s p refl)

-- ---- several sources: what holds of the values of each holds of the values of all
module _ (Q : ℤ → Type 0) where
  -- a fact of a source's values, where it is of a kind
  abbrev pub HasAll : Kind → Sampled → Type 0
  HasAll k s = s.kind ≡ k → (p : Place) → IfSome (s.at p) Q

  abbrev pub Each : Kind → List Sampled → Type 0
  Each k [] = Unit {0}
  Each k (s ∷ ss) = HasAll k s × Each k ss

  abbrev Tagged : Option (ℕ × ℤ) → Type 0
  Tagged o = IfSome o (λ v. Q v.1)

  offer_has : (s : Sampled) (h : ℕ) (p : Place) → HasAll Elevation s → Tagged (offer h p s)
  offer_has s h p has = by s.kind (nat_le s.height h) (s.at p) (λ e. has e p)
    where
      tagged : (o : Option ℤ) → IfSome o Q → Tagged (option_map (λ v. (s.height, v)) o)
      tagged None f = tt
      tagged (Some v) f = f

      by : (k : Kind) (b : Bool) (o : Option ℤ) → (k ≡ Elevation → IfSome o Q)
          → Tagged (cond (same_kind k Elevation && b) (option_map (λ v. (s.height, v)) o) None)
      by Elevation true o f = tagged o (f refl)
      by Elevation false o f = tt
      by Material true o f = tt
      by Material false o f = tt

  over_has : (a b : Option (ℕ × ℤ)) → Tagged a → Tagged b → Tagged (over a b)
  over_has None None f g = tt
  over_has None (Some y) f g = g
  over_has (Some x) None f g = f
  over_has (Some x) (Some y) f g = by (nat_le y.0 x.0)
    where
      by : (b : Bool) → Tagged (cond b (Some y) (Some x))
      by true = g
      by false = f

  best_has : (ss : List Sampled) (h : ℕ) (p : Place) → Each Elevation ss → Tagged (best (map (offer h p) ss))
  best_has [] h p has = tt
  best_has (s ∷ ss) h p has = over_has (offer h p s) (best (map (offer h p) ss)) (offer_has s h p has.0)
      (best_has ss h p has.1)

  elevation_has : (ss : List Sampled) (h : ℕ) (p : Place) → Each Elevation ss → IfSome (elevation ss h p) Q
  elevation_has ss h p has = by (best (map (offer h p) ss)) (best_has ss h p has)
    where
      by : (o : Option (ℕ × ℤ)) → Tagged o → IfSome (option_map (λ v. v.1) o) Q
      by None f = tt
      by (Some v) f = f

  lesser_has : (a b : Option ℤ) → IfSome a Q → IfSome b Q → IfSome (lesser a b) Q
  lesser_has None b f g = g
  lesser_has (Some x) None f g = f
  lesser_has (Some x) (Some y) f g = by (int_lt y x)
    where
      by : (b : Bool) → IfSome (Some (cond b y x)) Q
      by true = g
      by false = f

  greater_has : (a b : Option ℤ) → IfSome a Q → IfSome b Q → IfSome (greater a b) Q
  greater_has None b f g = g
  greater_has (Some x) None f g = f
  greater_has (Some x) (Some y) f g = by (int_lt x y)
    where
      by : (b : Bool) → IfSome (Some (cond b y x)) Q
      by true = g
      by false = f

  or_has : (a b : Option ℤ) → IfSome a Q → IfSome b Q → IfSome (option_or a b) Q
  or_has None b f g = g
  or_has (Some x) b f g = f

  low_has : (ss : List Sampled) (h : ℕ) (c : Place) → Each Elevation ss → IfSome (low ss h c) Q
  unfolding low
  low_has ss zero c has = tt
  low_has ss (suc h) c has =
      lesser_has _ _ (elevation_has ss (suc h) c has)
      (lesser_has _ _ (lesser_has _ _ (low_has ss h (beside h c 0 0) has) (low_has ss h (beside h c 0 1) has))
      (lesser_has _ _ (low_has ss h (beside h c 1 0) has) (low_has ss h (beside h c 1 1) has)))

  high_has : (ss : List Sampled) (h : ℕ) (c : Place) → Each Elevation ss → IfSome (high ss h c) Q
  unfolding high
  high_has ss zero c has = tt
  high_has ss (suc h) c has =
      greater_has _ _ (elevation_has ss (suc h) c has)
      (greater_has _ _ (greater_has _ _ (high_has ss h (beside h c 0 0) has) (high_has ss h (beside h c 0 1) has))
      (greater_has _ _ (high_has ss h (beside h c 1 0) has) (high_has ss h (beside h c 1 1) has)))

  own_has : (k : Kind) (s : Sampled) (h : ℕ) (p : Place) → HasAll k s → IfSome (own k h p s) Q
  own_has k s h p has = by s.kind k (nat_eq s.height h) (s.at p) (λ e. has e p)
    where
      by : (j k : Kind) (b : Bool) (o : Option ℤ) → (j ≡ k → IfSome o Q) → IfSome (cond (same_kind j k && b) o None) Q
      by Elevation Elevation true o f = f refl
      by Elevation Elevation false o f = tt
      by Elevation Material true o f = tt
      by Elevation Material false o f = tt
      by Material Elevation true o f = tt
      by Material Elevation false o f = tt
      by Material Material true o f = f refl
      by Material Material false o f = tt

  pub newest_has : (k : Kind) (ss : List Sampled) (h : ℕ) (p : Place) → Each k ss → IfSome (newest_own k ss h p) Q
  newest_has k [] h p has = tt
  newest_has k (s ∷ ss) h p has = or_has (newest_own k ss h p) (own k h p s) (newest_has k ss h p has.1)
      (own_has k s h p has.0)

  abbrev All4 : List (Option ℤ) → Type 0
  All4 [] = Unit {0}
  All4 (o ∷ os) = IfSome o Q × All4 os

  abbrev AllZ : List ℤ → Type 0
  AllZ [] = Unit {0}
  AllZ (v ∷ vs) = Q v × AllZ vs

  somes_has : (os : List (Option ℤ)) → All4 os → AllZ (filter_map (λ v. v) os)
  somes_has [] has = tt
  somes_has (None ∷ os) has = somes_has os has.1
  somes_has (Some v ∷ os) has = (has.0, somes_has os has.1)

  fold_has : (all : List ℤ) (v : ℤ) (vs : List ℤ) → Q v → AllZ vs → Q (fold (oftener all) v vs)
  fold_has all v [] q has = q
  fold_has all v (w ∷ vs) q has = fold_has all (oftener all v w) vs (either_has all v w q has.0) has.1
    where
      either_has : (all : List ℤ) (v w : ℤ) → Q v → Q w → Q (oftener all v w)
      either_has all v w f g =
          by (nat_lt (count_of all v) (count_of all w) || (nat_eq (count_of all v) (count_of all w) && int_lt w v))
        where
          by : (b : Bool) → Q (cond b w v)
          by true = g
          by false = f

  mode_has : (vs : List ℤ) → AllZ vs → IfSome (mode vs) Q
  unfolding mode
  mode_has [] has = tt
  mode_has (v ∷ vs) has = fold_has (v ∷ vs) v vs has.0 has.1

  pub four_has : (a b c d : Option ℤ) → IfSome a Q → IfSome b Q → IfSome c Q → IfSome d Q
      → IfSome (mode_of_four a b c d) Q
  four_has a b c d f g h i = mode_has (filter_map (λ v. v) (a ∷ b ∷ c ∷ d ∷ []))
      (somes_has (a ∷ b ∷ c ∷ d ∷ []) (f, (g, (h, (i, tt)))))

  material_has : (ss : List Sampled) (h : ℕ) (c : Place) → Each Material ss → IfSome (material ss h c) Q
  unfolding material
  material_has ss zero c has = tt
  material_has ss (suc h) c has =
      or_has _ _ (four_has _ _ _ _ (material_has ss h (beside h c 0 0) has) (material_has ss h (beside h c 0 1) has)
      (material_has ss h (beside h c 1 0) has) (material_has ss h (beside h c 1 1) has))
      (newest_has Material ss (suc h) (centre (suc h) c) has)

  pub family_has : (f : Family) (ss : List Source) (h : ℕ) (c : Place) → Each (kind_of f) (map sampled ss)
      → IfSome (family_value f ss h c) Q
  family_has Elev ss h c has = elevation_has (map sampled ss) h c has
  family_has Low ss h c has = low_has (map sampled ss) h c has
  family_has High ss h c has = high_has (map sampled ss) h c has
  family_has Mat ss h c has = material_has (map sampled ss) h c has

pub all_plain : (k : Kind) (ss : List Source) → Each (λ v. v ≡ none_of k → ⊥) k (map sampled ss)
all_plain k [] = tt
all_plain k (s ∷ ss) = (λ e p. subst (λ (j : Kind). IsPlain j (sample_at s p)) e (sample_plain s p), all_plain k ss)

-- the values of a family are plain
pub value_plain : (f : Family) (ss : List Source) (h : ℕ) (c : Place) → IsPlain (kind_of f) (family_value f ss h c)
value_plain f ss h c = family_has (λ v. v ≡ none_of (kind_of f) → ⊥) f ss h c (all_plain (kind_of f) ss)

pub newest_plain : (k : Kind) (ss : List Source) (h : ℕ) (p : Place) → IsPlain k (newest_own k (map sampled ss) h p)
newest_plain k ss h p = newest_has (λ v. v ≡ none_of k → ⊥) k (map sampled ss) h p (all_plain k ss)

pub or_plain : (k : Kind) (a b : Option ℤ) → IsPlain k a → IsPlain k b → IsPlain k (option_or a b)
or_plain k a b p q = or_has (λ v. v ≡ none_of k → ⊥) a b p q

pub lesser_plain : (k : Kind) (a b : Option ℤ) → IsPlain k a → IsPlain k b → IsPlain k (lesser a b)
lesser_plain k a b p q = lesser_has (λ v. v ≡ none_of k → ⊥) a b p q

pub greater_plain : (k : Kind) (a b : Option ℤ) → IsPlain k a → IsPlain k b → IsPlain k (greater a b)
greater_plain k a b p q = greater_has (λ v. v ≡ none_of k → ⊥) a b p q
