-- One tile made from frames has the values of its sources.
use Rattle.std.proofs.Common.{◌≡◌, ℕ, ◌+◌, ◌-◌, ◌*◌, ◌/◌, ◌<◌, ◌⊎◌, inl, inr, ℤ, Bool, true, false, cond, List, [], ◌∷◌, ◌++◌, length, All, Option, Some, None, refl, sym, ap, ap₂, ◌∙◌, subst, arith}
use Rattle.std.specs.Prelude.{int_lt}
use Rattle.std.specs.Option.{option_or}
use Rattle.std.proofs.lemmas.List.Elements.{All-push}
use Rattle.cdb_grid.specs.Grid.{Place, beside}
use Rattle.cdb_grid.specs.Tiles.{tile_height, tile_side, element_corner, IsInTile}
use Rattle.cdb_grid.specs.Frames.{number_at, IsBeside, IsPartChanged, four_under}
use Rattle.cdb_grid.specs.declared.family.Family.{Family}
use Rattle.cdb_grid.specs.declared.family.Family.TheVariants.{Elev, Low, High, Mat}
use Rattle.cdb_grid.specs.declared.tile.Tile.{Tile}
use Rattle.cdb_source.specs.declared.kind.Kind.{Kind}
use Rattle.cdb_source.specs.declared.kind.Kind.TheVariants.{Elevation, Material}
use Rattle.cdb_source.specs.declared.source.Source.{Source}
use Rattle.cdb_source.specs.Posts.{none_of, coded}
use Rattle.cdb_source.specs.Values.{lesser, greater}
use Rattle.cdb_source.specs.Reached.{kind_of, family_value, tile_value, Reaches}
use Rattle.cdb_source.specs.Folds.{lesser_number, greater_number}
use Rattle.cdb_source.proofs.MaterialLaws as materials
use Rattle.cdb_source.proofs.ReachLaws.{tile_unreached}
use Rattle.cdb_cut.specs.OneTile.{IsFrameOf, finer_height, of_four, under, joined_value, four_rule, IsFolded, StandsIn}
use Rattle.cdb_cut.proofs.Plain.{IsPlain, read_back, value_plain, or_plain, lesser_plain, greater_plain, four_has}
use Rattle.cdb_grid.proofs.ChildPlaces.{InPart, height-under, child_corner_at, part_or_beside, beside_out, inside_child}

-- ---- the rules of the folds, over values

of_four_plain : (f : Family) (a b c d : Option ℤ) → IsPlain (kind_of f) a → IsPlain (kind_of f) b
    → IsPlain (kind_of f) c → IsPlain (kind_of f) d → IsPlain (kind_of f) (of_four f a b c d)
of_four_plain Elev a b c d p q r s = p
of_four_plain Low a b c d p q r s = lesser_plain Elevation (lesser a b) (lesser c d) (lesser_plain Elevation a b p q)
    (lesser_plain Elevation c d r s)
of_four_plain High a b c d p q r s = greater_plain Elevation (greater a b) (greater c d)
    (greater_plain Elevation a b p q) (greater_plain Elevation c d r s)
of_four_plain Mat a b c d p q r s = four_has (λ v. v ≡ none_of Material → ⊥) a b c d p q r s

joined_plain : (f : Family) (a b : Option ℤ) → IsPlain (kind_of f) a → IsPlain (kind_of f) b
    → IsPlain (kind_of f) (joined_value f a b)
joined_plain Elev a b p q = or_plain Elevation b a q p
joined_plain Low a b p q = lesser_plain Elevation a b p q
joined_plain High a b p q = greater_plain Elevation a b p q
joined_plain Mat a b p q = or_plain Material b a q p

lesser_coded : (a b : Option ℤ) → IsPlain Elevation a → IsPlain Elevation b
    → lesser_number (coded Elevation a) (coded Elevation b) ≡ coded Elevation (lesser a b)
lesser_coded a b p q = ap (coded Elevation) (ap₂ lesser (read_back Elevation a p) (read_back Elevation b q))

greater_coded : (a b : Option ℤ) → IsPlain Elevation a → IsPlain Elevation b
    → greater_number (coded Elevation a) (coded Elevation b) ≡ coded Elevation (greater a b)
greater_coded a b p q = ap (coded Elevation) (ap₂ greater (read_back Elevation a p) (read_back Elevation b q))

-- a rule on numbers does what the family asks of values
rule_coded : (f : Family) (o a b c d : Option ℤ) → IsPlain (kind_of f) o → IsPlain (kind_of f) a → IsPlain (kind_of f) b
    → IsPlain (kind_of f) c → IsPlain (kind_of f) d
    → four_rule f (coded (kind_of f) o) (coded (kind_of f) a) (coded (kind_of f) b) (coded (kind_of f) c)
    (coded (kind_of f) d) ≡ coded (kind_of f) (joined_value f o (of_four f a b c d))
rule_coded Elev o a b c d p q r s t =
    ap (coded Elevation) (ap₂ option_or (read_back Elevation a q) (read_back Elevation o p))
rule_coded Low o a b c d p q r s t =
    ap₂ (λ x y. lesser_number (coded Elevation o) (lesser_number x y)) (lesser_coded a b q r) (lesser_coded c d s t)
    ∙ ap (λ x. lesser_number (coded Elevation o) x)
    (lesser_coded (lesser a b) (lesser c d) (lesser_plain Elevation a b q r) (lesser_plain Elevation c d s t))
    ∙ lesser_coded o (lesser (lesser a b) (lesser c d)) p (of_four_plain Low a b c d q r s t)
rule_coded High o a b c d p q r s t =
    ap₂ (λ x y. greater_number (coded Elevation o) (greater_number x y)) (greater_coded a b q r) (greater_coded c d s t)
    ∙ ap (λ x. greater_number (coded Elevation o) x)
    (greater_coded (greater a b) (greater c d) (greater_plain Elevation a b q r) (greater_plain Elevation c d s t))
    ∙ greater_coded o (greater (greater a b) (greater c d)) p (of_four_plain High a b c d q r s t)
rule_coded Mat o a b c d p q r s t =
    rw (
      read_back Material a q,
      read_back Material b r,
      read_back Material c s,
      read_back Material d t,
      read_back Material o p,
    ) refl

-- to join twice is to join once
twice : (f : Family) (o u : Option ℤ) → joined_value f (joined_value f o u) u ≡ joined_value f o u
twice Elev o None = refl
twice Elev o (Some v) = refl
twice Mat o None = refl
twice Mat o (Some v) = refl
twice Low None None = refl
twice Low None (Some y) = either_same (int_lt y y)
  where
    either_same : (b : Bool) → Some (cond b y y) ≡ Some y
    either_same true = refl
    either_same false = refl
twice Low (Some x) None = refl
twice Low (Some x) (Some y) = by (int_lt y x) refl
  where
    either_same : (b : Bool) → Some (cond b y y) ≡ Some y
    either_same true = refl
    either_same false = refl

    by : (b : Bool) → int_lt y x ≡ b → Some (cond (int_lt y (cond b y x)) y (cond b y x)) ≡ Some (cond b y x)
    by true e = either_same (int_lt y y)
    by false e = rw e refl
twice High None None = refl
twice High None (Some y) = either_same (int_lt y y)
  where
    either_same : (b : Bool) → Some (cond b y y) ≡ Some y
    either_same true = refl
    either_same false = refl
twice High (Some x) None = refl
twice High (Some x) (Some y) = by (int_lt x y) refl
  where
    either_same : (b : Bool) → Some (cond b y y) ≡ Some y
    either_same true = refl
    either_same false = refl

    by : (b : Bool) → int_lt x y ≡ b → Some (cond (int_lt (cond b y x) y) y (cond b y x)) ≡ Some (cond b y x)
    by true e = either_same (int_lt y y)
    by false e = rw e refl

pub joined_none : (f : Family) (o : Option ℤ) → joined_value f o None ≡ o
joined_none Elev o = refl
joined_none Low None = refl
joined_none Low (Some v) = refl
joined_none High None = refl
joined_none High (Some v) = refl
joined_none Mat o = refl

pub four_none : (f : Family) (a b c d : Option ℤ) → a ≡ None → b ≡ None → c ≡ None → d ≡ None → of_four f a b c d ≡ None
four_none Elev a b c d p q r s = p
four_none Low a b c d p q r s = rw (p, q, r, s) refl
four_none High a b c d p q r s = rw (p, q, r, s) refl
four_none Mat a b c d p q r s = materials.of_none a b c d p q r s

-- what stands under an element is plain
pub under_plain_at : (ss : List Source) (t : Tile) (row col : ℕ)
    → IsPlain (kind_of t.family) (under t.family ss (finer_height t) (element_corner t row col))
under_plain_at ss t row col =
    let f : Family = t.family in let h : ℕ = finer_height t in let C : Place = element_corner t row col in
    of_four_plain f (family_value f ss h (beside h C 0 0)) (family_value f ss h (beside h C 0 1))
    (family_value f ss h (beside h C 1 0)) (family_value f ss h (beside h C 1 1))
    (value_plain f ss h (beside h C 0 0)) (value_plain f ss h (beside h C 0 1)) (value_plain f ss h (beside h C 1 0))
    (value_plain f ss h (beside h C 1 1))

-- ---- a finer tile folded in
module _ (ss : List Source) (t : Tile) (start : ℕ → ℕ → Option ℤ) (c : Tile) (row col : ℕ)
    (at : StandsIn c t row col) where
  abbrev half : ℕ
  half = tile_side c / 2

  abbrev f : Family
  f = t.family

  abbrev k : Kind
  k = kind_of t.family

  abbrev h : ℕ
  h = finer_height t

  height_is : tile_height c ≡ h
  height_is = let e = height-under c t at.parent in omega arith

  -- the values of the finer tile under an element of the part
  pub child_value : (r q i j : ℕ) → r < half → q < half → i < 2 → j < 2
      → tile_value ss c (2 * r + i) (2 * q + j)
      ≡ family_value f ss h (beside h (element_corner t (row + r) (col + q)) i j)
  child_value r q i j rl ql il jl =
      let fits = at.row_fits in
      ap (λ (g : Family). family_value g ss (tile_height c) (element_corner c (2 * r + i) (2 * q + j)))
      (sym at.parent.family)
      ∙ ap (family_value f ss (tile_height c)) (child_corner_at c t row col at.parent at.begins r q i j (omega arith))
      ∙ ap (λ (n : ℕ). family_value f ss n (beside n (element_corner t (row + r) (col + q)) i j)) height_is

  child_kind : kind_of c.family ≡ k
  child_kind = ap kind_of (sym at.parent.family)

  child_number : (child : List ℤ) → IsFrameOf ss c child → (r q i j : ℕ) → r < half → q < half → i < 2 → j < 2
      → number_at child (tile_side c) (2 * r + i) (2 * q + j)
      ≡ coded k (family_value f ss h (beside h (element_corner t (row + r) (col + q)) i j))
  child_number child of r q i j rl ql il jl =
      of.each (2 * r + i) (2 * q + j) (inside_child c t row col at.parent at.begins r i rl il)
      (inside_child c t row col at.parent at.begins q j ql jl)
      ∙ ap₂ coded child_kind (child_value r q i j rl ql il jl)

  -- the number that the rule gives, where the number was that of a value
  ruled : (child : List ℤ) → IsFrameOf ss c child → (r q : ℕ) → r < half → q < half → (o : Option ℤ) → IsPlain k o
      → four_under (four_rule f) child (tile_side c) r q (coded k o)
      ≡ coded k (joined_value f o (under f ss h (element_corner t (row + r) (col + q))))
  ruled child of r q rl ql o plain =
      let C : Place = element_corner t (row + r) (col + q) in
      let value : ℕ → ℕ → Option ℤ = λ i j. family_value f ss h (beside h C i j) in
      let number : ℕ → ℕ → ℤ = λ i j. number_at child (tile_side c) (2 * r + i) (2 * q + j) in
      let is : (i j : ℕ) → i < 2 → j < 2 → number i j ≡ coded k (value i j) =
      λ i j il jl. child_number child of r q i j rl ql il jl in
      let none : 0 < 2 = omega arith in let one : 1 < 2 = omega arith in
      let plain_at : (i j : ℕ) → IsPlain k (value i j) = λ i j. value_plain f ss h (beside h C i j) in
      let zero_row : 2 * r ≡ 2 * r + 0 = omega arith in
      let zero_col : 2 * q ≡ 2 * q + 0 = omega arith in
      ap₂ (λ x y. four_rule f (coded k o) (number_at child (tile_side c) x y)
      (number_at child (tile_side c) x (2 * q + 1)) (number_at child (tile_side c) (2 * r + 1) y)
      (number_at child (tile_side c) (2 * r + 1) (2 * q + 1))) zero_row zero_col
      ∙ rw (is 0 0 none none, is 0 1 none one, is 1 0 one none, is 1 1 one one)
      (rule_coded f o (value 0 0) (value 0 1) (value 1 0) (value 1 1) plain (plain_at 0 0) (plain_at 0 1) (plain_at 1 0)
      (plain_at 1 1))

  abbrev full : ℕ → ℕ → Option ℤ
  full r q = joined_value f (start r q) (under f ss h (element_corner t r q))

  abbrev Folded : List Tile → List ℤ → ℕ → ℕ → Type 0
  Folded done frame r q =
      (number_at frame (tile_side t) r q ≡ coded k (full r q))
      ⊎ ((number_at frame (tile_side t) r q ≡ coded k (start r q))
      × All (λ d. IsInTile d (element_corner t r q) → ⊥) done)

  -- beside the part nothing changes, and the element isn't in the finer tile
  beside_folded : (done : List Tile) (old new : List ℤ) (r q : ℕ) → number_at new (tile_side t) r q
      ≡ number_at old (tile_side t) r q
      → (IsInTile c (element_corner t r q) → ⊥) → Folded done old r q → Folded (done ++ c ∷ []) new r q
  beside_folded done old new r q same out (inl e) = inl (same ∙ e)
  beside_folded done old new r q same out (inr e) =
      inr (same ∙ e.0, All-push (λ d. IsInTile d (element_corner t r q) → ⊥) done c e.1 out)

  -- a finer tile is folded where each number of its part comes to be so, and the rest stays
  pub part_folded : (done : List Tile) (old new : List ℤ) → length new ≡ length old
      → ((x y : ℕ) → x < half → y < half → Folded done old (row + x) (col + y)
      → Folded (done ++ c ∷ []) new (row + x) (col + y))
      → ((r q : ℕ) → r < tile_side t → q < tile_side t → (IsBeside row half r) ⊎ (IsBeside col half q)
      → number_at new (tile_side t) r q ≡ number_at old (tile_side t) r q)
      → IsFolded ss t start done old → IsFolded ss t start (done ++ c ∷ []) new
  part_folded done old new size part rest before = record {
    size = size ∙ before.size;
    each = λ r q rl ql. elim (part_or_beside c t row col at.parent at.begins r q) [
      | inl p ↦ inside r q p (before.each r q rl ql)
      | inr b ↦ beside_folded done old new r q (rest r q rl ql b)
          (beside_out c t row col at.parent at.begins r q b) (before.each r q rl ql)
    ];
  }
    where
      at_place : (r q x y : ℕ) → row + x ≡ r → col + y ≡ q → x < half → y < half → Folded done old r q
          → Folded (done ++ c ∷ []) new r q
      at_place r q x y er eq xl yl was =
          subst (λ a. Folded (done ++ c ∷ []) new a q) er (subst (λ b. Folded (done ++ c ∷ []) new (row + x) b) eq
          (part x y xl yl
          (subst (λ a. Folded done old a (col + y)) (sym er) (subst (λ b. Folded done old r b) (sym eq) was))))

      inside : (r q : ℕ) → InPart c t row col at.parent at.begins r q → Folded done old r q
          → Folded (done ++ c ∷ []) new r q
      inside r q p was = let s = p.south in let n = p.north in let w = p.west in let e = p.east in
          at_place r q (r - row) (q - col) (omega arith) (omega arith) (omega arith) (omega arith) was

  -- in the part the number is joined with what stands under it
  in_folded : (starts : (r q : ℕ) → IsPlain k (start r q)) (child : List ℤ) → IsFrameOf ss c child
      → (done : List Tile) (old new : List ℤ) (r q : ℕ) → r < half → q < half
      → number_at new (tile_side t) (row + r) (col + q) ≡ four_under (four_rule f) child (tile_side c) r q
      (number_at old (tile_side t) (row + r) (col + q))
      → Folded done old (row + r) (col + q) → Folded (done ++ c ∷ []) new (row + r) (col + q)
  in_folded starts child of done old new r q rl ql changed (inl e) =
      inl (changed ∙ ap (four_under (four_rule f) child (tile_side c) r q) e
      ∙ ruled child of r q rl ql (full (row + r) (col + q))
      (joined_plain f (start (row + r) (col + q)) _ (starts (row + r) (col + q))
      (under_plain_at ss t (row + r) (col + q)))
      ∙ ap (coded k) (twice f (start (row + r) (col + q)) (under f ss h (element_corner t (row + r) (col + q)))))
  in_folded starts child of done old new r q rl ql changed (inr e) =
      inl (changed ∙ ap (four_under (four_rule f) child (tile_side c) r q) e.0
      ∙ ruled child of r q rl ql (start (row + r) (col + q)) (starts (row + r) (col + q)))

  pub fold_child : (starts : (r q : ℕ) → IsPlain k (start r q)) (child : List ℤ) → IsFrameOf ss c child
      → (done : List Tile) (old new : List ℤ)
      → IsFolded ss t start done old → IsPartChanged (four_under (four_rule f) child (tile_side c)) row col half half
      (tile_side t) old new
      → IsFolded ss t start (done ++ c ∷ []) new
  fold_child starts child of done old new before changed =
      part_folded done old new changed.size
      (λ x y xl yl was. in_folded starts child of done old new x y xl yl (changed.changed x y xl yl) was)
      changed.rest before

  -- where what stands under the part changes nothing, the number stays
  stays_folded : (done : List Tile) (frame : List ℤ) (r q : ℕ) → full r q ≡ start r q → Folded done frame r q
      → Folded (done ++ c ∷ []) frame r q
  stays_folded done frame r q idle (inl e) = inl e
  stays_folded done frame r q idle (inr e) = inl (e.0 ∙ ap (coded k) (sym idle))

  -- a finer tile under which there is nothing to fold
  pub still_child : ((r q : ℕ) → r < half → q < half → full (row + r) (col + q) ≡ start (row + r) (col + q))
      → (done : List Tile) (frame : List ℤ)
      → IsFolded ss t start done frame → IsFolded ss t start (done ++ c ∷ []) frame
  still_child idle done frame before =
      part_folded done frame frame refl
      (λ x y xl yl was. stays_folded done frame (row + x) (col + y) (idle x y xl yl) was)
      (λ r q rl ql b. refl) before

  -- a finer tile that no source reaches has nothing to fold
  pub miss_child : All (λ (s : Source). Reaches s.head c → ⊥) ss → (done : List Tile) (frame : List ℤ)
      → IsFolded ss t start done frame → IsFolded ss t start (done ++ c ∷ []) frame
  miss_child none =
      still_child (λ r q rl ql. ap (joined_value f (start (row + r) (col + q))) (nothing_under r q rl ql)
      ∙ joined_none f (start (row + r) (col + q)))
    where
      empty : (r q i j : ℕ) → r < half → q < half → i < 2 → j < 2
          → family_value f ss h (beside h (element_corner t (row + r) (col + q)) i j) ≡ None
      empty r q i j rl ql il jl = sym (child_value r q i j rl ql il jl)
          ∙ tile_unreached c ss none (2 * r + i) (2 * q + j) (inside_child c t row col at.parent at.begins r i rl il)
          (inside_child c t row col at.parent at.begins q j ql jl)

      nothing_under : (r q : ℕ) → r < half → q < half → under f ss h (element_corner t (row + r) (col + q)) ≡ None
      nothing_under r q rl ql = let z : 0 < 2 = omega arith in let o : 1 < 2 = omega arith in
          four_none f _ _ _ _ (empty r q 0 0 rl ql z z) (empty r q 0 1 rl ql z o) (empty r q 1 0 rl ql o z)
          (empty r q 1 1 rl ql o o)
