-- A painted frame has the samples of the source.
use Rattle.std.proofs.Common.{◌≡◌, ℕ, zero, suc, ◌+◌, ◌-◌, ◌*◌, ◌/◌, ◌%◌, ◌<◌, ◌≤◌, ◌⊎◌, inl, inr, ℤ, pos, true, false, ◌&&◌, nat_lt, nat_le, List, length, Option, Some, None, IfSome, refl, sym, ap, ap₂, ◌∙◌, subst, arith}
use Rattle.std.specs.Prelude.{unsigned_abs}
use Rattle.std.specs.Option.{option_or}
use Rattle.std.specs.Ordering.{int_eq}
use Rattle.std.proofs.lemmas.Int.{ints}
use Rattle.std.proofs.lemmas.Bool.{cases_lt, cases_Bool, le-leb}
use Rattle.std.proofs.lemmas.Bool.Decides.{nat_tests, Decides-int_eq}
use Rattle.std.proofs.lemmas.Option.{slice_get-get_or}
use Rattle.std.proofs.lemmas.Nat.{div-add-mod', mod_below, mod-mul-add}
use Rattle.std.proofs.Math.Nat.{mul-le-mul_right, mul-div-mul_left}
use Rattle.cdb_grid.specs.Grid.{Place}
use Rattle.cdb_grid.specs.Tiles.{tile_side, element_place}
use Rattle.cdb_grid.specs.Frames.{number_in, number_at, IsBeside, IsPartChanged}
use Rattle.cdb_grid.specs.declared.tile.Tile.{Tile}
use Rattle.cdb_grid.proofs.FrameLaws.{part_in, part_length}
use Rattle.cdb_source.specs.declared.kind.Kind.{Kind}
use Rattle.cdb_source.specs.declared.kind.Kind.TheVariants.{Elevation, Material}
use Rattle.cdb_source.specs.declared.head.SourceHead.{SourceHead}
use Rattle.cdb_source.specs.declared.source.Source.{Source}
use Rattle.cdb_source.specs.Posts.{none_of, coded}
use Rattle.cdb_source.specs.Reached.{kind_of}
use Rattle.cdb_source.specs.Sample.{IsBefore, is_before, IsInBox, is_in_box, corner_of, box_height, box_width, row_step, column_step, value_of, post_at, value_in, sample_at}
use Rattle.cdb_source.proofs.OfferLaws.{or_none}
use Rattle.cdb_source.proofs.SampleLaws.{in_box_of_sample}
use Rattle.cdb_cut.specs.Blend.{value_from}
use Rattle.cdb_cut.specs.inside.Blend.{mean_of_four}
use Rattle.cdb_cut.specs.Window.{LooksAt, IsWindow, rows_of}
use Rattle.cdb_cut.specs.inside.Parts.{IsPartOf}
use Rattle.cdb_cut.specs.Painted.{window_post, painted_rule, IsCovered}
use Rattle.cdb_cut.specs.OneTile.{IsPainted}
use Rattle.cdb_cut.proofs.Plain.{near_post}
use Rattle.cdb_cut.proofs.Raised.{High, four_scaled}
use Rattle.cdb_cut.proofs.RowRules.{mean_same, post_looked, beyond_looked, cell_looked, zero_or_more}
use Rattle.cdb_cut.proofs.PaintedRows.{value_is, either_side, window_tests}
use Rattle.cdb_cut.proofs.WindowLaws.{looked_at, looked_within, in_box_at, numbers_of, At}
use Rattle.cdb_cut.proofs.PostLaws.{both_tests}

-- ---- the same row is looked at, in whatever divisor distances are counted

less_times : (g x y : ℕ) → 1 ≤ g → x < y → g * x < g * y
less_times g x y p lt = let m : suc x * g ≤ y * g = mul-le-mul_right g lt in omega arith

le_times : (g x y : ℕ) → x ≤ y → g * x ≤ g * y
le_times g x y le = let m : x * g ≤ y * g = mul-le-mul_right g le in omega arith

pub looks_scaled : (kind : Kind) (g m far row : ℕ) → 1 ≤ g → LooksAt kind m far row → LooksAt kind (g * m) (g * far) row
looks_scaled Elevation g m far row p l =
    let a : g * (row * m) < g * (far + m) = less_times g (row * m) (far + m) p l.0 in
    let b : g * far < g * (row * m + m) = less_times g far (row * m + m) p l.1 in
    (omega arith, omega arith)
looks_scaled Material g m far row p l =
    let a : g * (row * m) ≤ g * far = le_times g (row * m) far l.0 in
    let b : g * far < g * (row * m + m) = less_times g far (row * m + m) p l.1 in
    (omega arith, omega arith)

-- ---- a post of the window is the source's

before_span : (kind : Kind) (corner x wide : ℕ) → corner ≤ x → IsBefore kind x (corner + wide)
    → IsBefore kind (x - corner) wide
before_span Elevation corner x wide le b = omega arith
before_span Material corner x wide le b = omega arith

no_column : (row rows col cols : ℕ) → cols ≤ col → (nat_lt row rows && nat_lt col cols) ≡ false
no_column row rows col cols a = grind (arith, nat_tests)

no_column_in : (first row col cols : ℕ) → cols ≤ col → (nat_lt col cols && nat_le first row) ≡ false
no_column_in first row col cols a = grind (arith, nat_tests)

pub window_is : (s : Source) (first count row col : ℕ) → first ≤ row → row < first + count → first + count ≤ s.head.rows
    → window_post s.head.kind (rows_of s first count) first s.head.cols row col ≡ post_at s row col
window_is s first count row col from to within = elim (cases_lt col s.head.cols) [
  | inr out ↦ rw (no_column_in first row col s.head.cols out, no_column row s.head.rows col s.head.cols out) refl
  | inl lt ↦
      let cols : ℕ = s.head.cols in
      let length_is : length s.posts ≡ s.head.rows * cols = s.count in
      let whole : (first + count) * cols ≤ s.head.rows * cols = mul-le-mul_right cols within in
      let room : first * cols + count * cols ≤ length s.posts = omega arith in
      let upto : suc (row - first) * cols ≤ count * cols = mul-le-mul_right cols (omega arith) in
      let below : (row - first) * cols + col < count * cols = omega arith in
      let wide : length (rows_of s first count) ≡ count * cols =
      part_length (first * cols) (count * cols) s.posts room in
      let lt_in : (row - first) * cols + col < length (rows_of s first count) = omega arith in
      let here : first * cols + ((row - first) * cols + col) ≡ row * cols + col = index first (row - first) row cols col
      (omega arith) in
      let lt_all : row * cols + col < length s.posts = omega arith in
      rw (
        window_tests first row col cols from lt,
        both_tests row col s.head.rows cols (omega arith) lt,
        slice_get-get_or (rows_of s first count) ((row - first) * cols + col) (pos 0) lt_in,
        slice_get-get_or s.posts (row * cols + col) (pos 0) lt_all,
      )
      (ap (value_of s.head.kind) (part_in (first * cols) (count * cols) ((row - first) * cols + col) s.posts below room
      ∙ ap (number_in s.posts) here))
]
  where
    index : (f d r c k : ℕ) → f + d ≡ r → f * c + (d * c + k) ≡ r * c + k
    index f d r c k e = let m : (f + d) * c ≡ r * c = ap (λ x. x * c) e in omega arith

-- ---- the box

test_before : (kind : Kind) (x edge : ℕ) → IsBefore kind x edge → is_before kind x edge ≡ true
test_before Elevation x edge b = grind (arith, nat_tests)
test_before Material x edge b = grind (arith, nat_tests)

pub box_test : (head : SourceHead) (p : Place) → IsInBox head p → is_in_box head p ≡ true
box_test head p b =
    rw (
      le-leb (corner_of head).north p.north b.south,
      test_before head.kind p.north ((corner_of head).north + box_height head) b.north,
      le-leb (corner_of head).east p.east b.west,
      test_before head.kind p.east ((corner_of head).east + box_width head) b.east,
    ) refl

-- ---- quotients of distances with a common divisor

quotient_scaled : (g x m : ℕ) → 1 ≤ g → g * x / (g * m) ≡ x / m
quotient_scaled g x m p = mul-div-mul_left x m p

rest_scaled : (g x m : ℕ) → 1 ≤ g → 1 ≤ m → g * x % (g * m) ≡ g * (x % m)
rest_scaled g x m p q =
    let e : x / m * m + x % m ≡ x = div-add-mod' x m in
    let l : x % m < m = mod_below x m q in
    let lt : g * (x % m) < g * m = less_times g (x % m) m p l in
    ap (λ y. y % (g * m)) (parts (x / m) (x % m) e) ∙ mod-mul-add (x / m) (g * m) (g * (x % m)) lt
  where
    parts : (a b : ℕ) → a * m + b ≡ x → g * x ≡ a * (g * m) + g * b
    parts a b e = let f : g * (a * m + b) ≡ g * x = ap (λ y. g * y) e in omega arith

high_post : (s : Source) (row col : ℕ) → s.head.kind ≡ Elevation → High (post_at s row col)
high_post s row col e = by (post_at s row col) (near_post s row col e)
  where
    by : (o : Option ℤ) → IfSome o (λ v. unsigned_abs v ≤ 32767) → High o
    by None n = tt
    by (Some v) n = omega (arith, ints)

either_corner : {P : Type 0} (a b : ℕ) → (a ≡ 0) ⊎ (1 ≤ a) → (b ≡ 0) ⊎ (1 ≤ b) → (1 ≤ a → P) → ((a ≡ 0) ⊎ (b ≡ 0)) ⊎ P
either_corner a b (inl z) y f = inl (inl z)
either_corner a b (inr p) y f = inr (f p)

-- what posts have at a point is the same in whatever divisors distances are counted, and by the window's posts
pub value_scaled : (k : Kind) (s : Source) (window : ℕ → ℕ → Option ℤ) (g h m n up right : ℕ) → s.head.kind ≡ k → 1 ≤ g
    → 1 ≤ h → 1 ≤ m → 1 ≤ n
    → ((row col : ℕ) → LooksAt k m up row → window row col ≡ post_at s row col)
    → value_from k window m n up right ≡ value_from k (post_at s) (g * m) (h * n) (g * up) (h * right)
value_scaled Elevation s window g h m n up right kind p q pm pn same =
    let i : ℕ = up / m in let j : ℕ = right / n in let a : ℕ = up % m in let b : ℕ = right % n in
    let la : a < m = mod_below up m pm in let lb : b < n = mod_below right n pn in
    let stands : i * m + a ≡ up = div-add-mod' up m in
    let low : (col : ℕ) → window i col ≡ post_at s i col = λ col. same i col (post_looked m up i a la stands) in
    let high : 1 ≤ a → (col : ℕ) → window (i + 1) col ≡ post_at s (i + 1) col =
    λ r col. same (i + 1) col (beyond_looked m up i a la r stands) in
    let post : ℕ → ℕ → Option ℤ = post_at s in
    value_is window m n up right
    ∙ mean_same m n a b _ _ _ _ (post i j) (post i (j + 1)) (post (i + 1) j) (post (i + 1) (j + 1)) (low j)
    (inr (low (j + 1)))
    (either_side a (zero_or_more a) (λ r. high r j))
    (either_corner a b (zero_or_more a) (zero_or_more b) (λ r. high r (j + 1)))
    ∙ sym (four_scaled g h m n a b (post i j) (post i (j + 1)) (post (i + 1) j) (post (i + 1) (j + 1)) p q pm pn
    (omega arith) (omega arith)
    (high_post s i j kind) (high_post s i (j + 1) kind) (high_post s (i + 1) j kind) (high_post s (i + 1) (j + 1) kind))
    ∙ sym (value_is post (g * m) (h * n) (g * up) (h * right)
    ∙ ap₂ (λ x y. mean_of_four (g * m) (h * n) x y (post (g * up / (g * m)) (h * right / (h * n)))
    (post (g * up / (g * m)) (h * right / (h * n) + 1)) (post (g * up / (g * m) + 1) (h * right / (h * n)))
    (post (g * up / (g * m) + 1) (h * right / (h * n) + 1)))
    (rest_scaled g up m p pm) (rest_scaled h right n q pn)
    ∙ ap₂ (λ x y. mean_of_four (g * m) (h * n) (g * a) (h * b) (post x y) (post x (y + 1)) (post (x + 1) y)
    (post (x + 1) (y + 1))) (quotient_scaled g up m p) (quotient_scaled h right n q))
value_scaled Material s window g h m n up right kind p q pm pn same =
    same (up / m) (right / n) (cell_looked m up (up / m) (up % m) (mod_below up m pm) (div-add-mod' up m))
    ∙ sym (ap₂ (post_at s) (quotient_scaled g up m p) (quotient_scaled h right n q))

value_in_is : (k : Kind) (s : Source) (p : Place)
    → value_in k s p ≡ value_from k (post_at s) (row_step s.head) (column_step s.head)
    (p.north - (corner_of s.head).north) (p.east - (corner_of s.head).east)
value_in_is Elevation s p = refl
value_in_is Material s p = refl

pub sample_in : (s : Source) (p : Place) → IsInBox s.head p
    → sample_at s p ≡ value_from s.head.kind (post_at s) (row_step s.head) (column_step s.head)
    (p.north - (corner_of s.head).north) (p.east - (corner_of s.head).east)
unfolding sample_at
sample_in s p b = rw (box_test s.head p b) (value_in_is s.head.kind s p)

pub sample_out : (s : Source) (p : Place) → (IsInBox s.head p → ⊥) → sample_at s p ≡ None
sample_out s p out = by (sample_at s p) refl
  where
    by : (o : Option ℤ) → sample_at s p ≡ o → o ≡ None
    by None e = refl
    by (Some v) e = absurd (out (in_box_of_sample s p v e))

-- a number reads as a value, and back
pub code_back : (kind : Kind) (n : ℤ) → coded kind (value_of kind n) ≡ n
code_back kind n = elim (cases_Bool (int_eq n (none_of kind))) [
  | inl t ↦ rw t (none_coded kind ∙ sym ((Decides-int_eq n (none_of kind)).0 t))
  | inr f ↦ rw f refl
]
  where
    none_coded : (k : Kind) → coded k None ≡ none_of k
    none_coded Elevation = refl
    none_coded Material = refl

-- ---- the part
module _ (head : SourceHead) (t : Tile) (first count : ℕ) (row_first row_end col_first col_end us ut m rs rt n : ℕ)
    (w : IsWindow head t first count) (part : IsPartOf head t row_first row_end col_first col_end us ut m rs rt n) where
  up_at : (r : ℕ) → (corner_of head).north ≤ part.north + row_first * part.up → part.lat.divisor * (us + r * ut)
      ≡ part.north + (row_first + r) * part.up - (corner_of head).north
  up_at r le = along part.north (corner_of head).north part.up part.lat.divisor us ut row_first r le
      part.lat.start_is part.lat.stride_is
    where
      along : (base corner stride g s u k r : ℕ) → corner ≤ base + k * stride → base + k * stride - corner ≡ g * s
          → stride ≡ g * u → g * (s + r * u) ≡ base + (k + r) * stride - corner
      along base corner stride g s u k r le e f = let x : r * stride ≡ r * (g * u) = ap (λ z. r * z) f in omega arith

  right_at : (c : ℕ) → (corner_of head).east ≤ part.east + col_first * part.right → part.lon.divisor * (rs + c * rt)
      ≡ part.east + (col_first + c) * part.right - (corner_of head).east
  right_at c le = along part.east (corner_of head).east part.right part.lon.divisor rs rt col_first c le
      part.lon.start_is part.lon.stride_is
    where
      along : (base corner stride g s u k r : ℕ) → corner ≤ base + k * stride → base + k * stride - corner ≡ g * s
          → stride ≡ g * u → g * (s + r * u) ≡ base + (k + r) * stride - corner
      along base corner stride g s u k r le e f = let x : r * stride ≡ r * (g * u) = ap (λ z. r * z) f in omega arith

  row_inside : (r : ℕ) → r < row_end - row_first → row_first + r < tile_side t
  row_inside r lt = let x = part.runs.row_within in omega arith

  col_inside : (c : ℕ) → c < col_end - col_first → col_first + c < tile_side t
  col_inside c lt = let x = part.runs.col_within in omega arith

  south_of : (r : ℕ) → r < row_end - row_first → ((corner_of head).north ≤ part.north + (row_first + r) * part.up)
      × IsBefore head.kind (part.north + (row_first + r) * part.up) ((corner_of head).north + box_height head)
  south_of r lt = (part.runs.rows (row_first + r) (row_inside r lt)).0 (omega arith, omega arith)

  west_of : (c : ℕ) → c < col_end - col_first → ((corner_of head).east ≤ part.east + (col_first + c) * part.right)
      × IsBefore head.kind (part.east + (col_first + c) * part.right) ((corner_of head).east + box_width head)
  west_of c lt = (part.runs.cols (col_first + c) (col_inside c lt)).0 (omega arith, omega arith)

  first_row : (corner_of head).north ≤ part.north + row_first * part.up
  first_row = let x = part.some_rows in subst (λ k. (corner_of head).north ≤ part.north + k * part.up)
      (let e : row_first + 0 ≡ row_first = omega arith in e) (south_of 0 (omega arith)).0

  first_col : (corner_of head).east ≤ part.east + col_first * part.right
  first_col = let x = part.some_cols in subst (λ k. (corner_of head).east ≤ part.east + k * part.right)
      (let e : col_first + 0 ≡ col_first = omega arith in e) (west_of 0 (omega arith)).0

  -- a row that is looked at from the part is one of the window
  pub row_covered : (r row : ℕ) → r < row_end - row_first → LooksAt head.kind m (us + r * ut) row → (first ≤ row)
      × (row < first + count)
  row_covered r row lt looks =
      let x = part.some_cols in
      let scaled : LooksAt head.kind (part.lat.divisor * m) (part.lat.divisor * (us + r * ut)) row =
      looks_scaled head.kind part.lat.divisor m (us + r * ut) row part.lat.some looks in
      let full : LooksAt head.kind (row_step head)
      (part.north + (row_first + r) * part.up - (corner_of head).north) row =
      subst (λ y. LooksAt head.kind y (part.north + (row_first + r) * part.up - (corner_of head).north) row)
      (sym part.lat.step_is)
      (subst (λ y. LooksAt head.kind (part.lat.divisor * m) y row) (up_at r first_row) scaled) in
      w.all row
      (looked_at head t part.north part.east part.up part.right row_first row_end col_first col_end
      part.runs (row_first + r) col_first row (omega arith) (omega arith) (omega arith) part.some_cols full)

  pub col_covered : (c col : ℕ) → c < col_end - col_first → LooksAt head.kind n (rs + c * rt) col → col < head.cols
  col_covered c col lt looks =
      let scaled : LooksAt head.kind (part.lon.divisor * n) (part.lon.divisor * (rs + c * rt)) col =
      looks_scaled head.kind part.lon.divisor n (rs + c * rt) col part.lon.some looks in
      let full : LooksAt head.kind (column_step head) (part.east + (col_first + c) * part.right - (corner_of head).east)
      col =
      subst (λ y. LooksAt head.kind y (part.east + (col_first + c) * part.right - (corner_of head).east) col)
      (sym part.lon.step_is)
      (subst (λ y. LooksAt head.kind (part.lon.divisor * n) y col) (right_at c first_col) scaled) in
      let b = west_of c lt in
      looked_within head.kind (column_step head) (part.east + (col_first + c) * part.right - (corner_of head).east)
      head.cols col head.in_range.raster.cols_least
      (before_span head.kind (corner_of head).east (part.east + (col_first + c) * part.right) (box_width head) b.0 b.1)
      full

  -- the rule of the part may be asked for each of its rows
  pub covered : (posts : List ℤ) → length posts ≡ count * head.cols → tile_side t ≤ 1024 → (r : ℕ)
      → r < row_end - row_first
      → IsCovered head.kind posts first head.cols m n us ut rs rt r (col_end - col_first)
  covered posts size small r lt =
      let x = part.runs.row_within in let y = part.runs.col_within in
      record {
        low = omega arith;
        narrow = omega arith;
        rows = λ row looks. let k = row_covered r row lt looks in (k.0, room row k.0 k.1);
        columns = λ c col cl looks. col_covered c col cl looks;
      }
    where
      room : (row : ℕ) → first ≤ row → row < first + count → (row - first + 1) * head.cols ≤ length posts
      room row a b = let f : (row - first + 1) * head.cols ≤ count * head.cols =
          mul-le-mul_right head.cols (omega arith) in omega arith

-- what is known when a source is painted: its head's window, the window's posts, and the part
pub record Facts (head : SourceHead) (t : Tile) (first count : ℕ) (posts old new : List ℤ)
    (row_first row_end col_first col_end us ut m rs rt n : ℕ) : Type 0 where
  pub window : IsWindow head t first count
  pub part : IsPartOf head t row_first row_end col_first col_end us ut m rs rt n
  pub lat_some : 1 ≤ m
  pub lon_some : 1 ≤ n
  pub changed : IsPartChanged (painted_rule head.kind posts first head.cols m n us ut rs rt) row_first col_first
      (row_end - row_first) (col_end - col_first) (tile_side t) old new

module _ (s : Source) (t : Tile) (first count : ℕ) (posts old new : List ℤ)
    (row_first row_end col_first col_end us ut m rs rt n : ℕ)
    (facts : Facts s.head t first count posts old new row_first row_end col_first col_end us ut m rs rt n)
    (are : posts ≡ rows_of s first count) where
  abbrev P : IsPartOf s.head t row_first row_end col_first col_end us ut m rs rt n
  P = facts.part

  abbrev K : Kind
  K = s.head.kind

  -- in the part, the rule writes the sample
  sampled_in : (r c : ℕ) → r < row_end - row_first → c < col_end - col_first
      → value_from K (window_post K posts first s.head.cols) m n (us + r * ut) (rs + c * rt)
      ≡ sample_at s (element_place t (row_first + r) (col_first + c))
  sampled_in r c rl cl =
      let W = facts.window in
      let p : Place = element_place t (row_first + r) (col_first + c) in
      let rin = row_inside s.head t first count row_first row_end col_first col_end us ut m rs rt n W P r rl in
      let cin = col_inside s.head t first count row_first row_end col_first col_end us ut m rs rt n W P c cl in
      let at : p ≡ record { north = P.north + (row_first + r) * P.up; east = P.east + (col_first + c) * P.right } =
      P.runs.places (row_first + r) (col_first + c) rin cin in
      let up : P.lat.divisor * (us + r * ut) ≡ P.north + (row_first + r) * P.up - (corner_of s.head).north =
      up_at s.head t first count row_first row_end col_first col_end us ut m rs rt n W P r
      (first_row s.head t first count row_first row_end col_first col_end us ut m rs rt n W P) in
      let right : P.lon.divisor * (rs + c * rt) ≡ P.east + (col_first + c) * P.right - (corner_of s.head).east =
      right_at s.head t first count row_first row_end col_first col_end us ut m rs rt n W P c
      (first_col s.head t first count row_first row_end col_first col_end us ut m rs rt n W P) in
      let inside : IsInBox s.head p = in_box_at s.head t P.north P.east P.up P.right row_first row_end col_first col_end
      P.runs (row_first + r) (col_first + c) (omega arith) (omega arith) (omega arith) (omega arith) in
      let post : (row col : ℕ) → LooksAt K m (us + r * ut) row → window_post K posts first s.head.cols row col
      ≡ post_at s row col = λ row col looks.
      let k = row_covered s.head t first count row_first row_end col_first col_end us ut m rs rt n W P r row rl looks in
      ap (λ (xs : List ℤ). window_post K xs first s.head.cols row col) are
      ∙ window_is s first count row col k.0 k.1 W.within in
      value_scaled K s (window_post K posts first s.head.cols) P.lat.divisor P.lon.divisor m n (us + r * ut)
      (rs + c * rt) refl P.lat.some P.lon.some facts.lat_some facts.lon_some post
      ∙ ap₂ (λ x y. value_from K (post_at s) x y (P.lat.divisor * (us + r * ut)) (P.lon.divisor * (rs + c * rt)))
      (sym P.lat.step_is) (sym P.lon.step_is)
      ∙ ap₂ (λ x y. value_from K (post_at s) (row_step s.head) (column_step s.head) x y)
      (up ∙ sym (ap (λ (q : Place). q.north - (corner_of s.head).north) at))
      (right ∙ sym (ap (λ (q : Place). q.east - (corner_of s.head).east) at))
      ∙ sym (sample_in s p inside)

  abbrev Written : ℕ → ℕ → Type 0
  Written row col = number_at new (tile_side t) row col
      ≡ coded K (option_or (value_of K (number_at old (tile_side t) row col)) (sample_at s (element_place t row col)))

  -- beside the part, the source has no sample
  beside : (row col : ℕ) → row < tile_side t → col < tile_side t → (IsBeside row_first (row_end - row_first) row)
      ⊎ (IsBeside col_first (col_end - col_first) col) → Written row col
  beside row col rl cl b =
      let out : IsInBox s.head (element_place t row col) → ⊥ = λ inside.
      apart (numbers_of s.head t P.north P.east P.up P.right row_first row_end col_first col_end P.runs row col rl
      cl inside) b in
      facts.changed.rest row col rl cl b
      ∙ sym (ap (coded K)
      (ap (option_or (value_of K (number_at old (tile_side t) row col)))
      (sample_out s (element_place t row col) out) ∙ or_none (value_of K (number_at old (tile_side t) row col)))
      ∙ code_back K (number_at old (tile_side t) row col))
    where
      apart : At s.head t P.north P.east P.up P.right row_first row_end col_first col_end P.runs row col
          → (IsBeside row_first (row_end - row_first) row) ⊎ (IsBeside col_first (col_end - col_first) col) → ⊥
      apart at (inl (inl x)) = let a = at.row_from in omega arith
      apart at (inl (inr x)) = let a = at.row_to in let d = at.row_from in omega arith
      apart at (inr (inl x)) = let a = at.col_from in omega arith
      apart at (inr (inr x)) = let a = at.col_to in let d = at.col_from in omega arith

  inside_at : (row col r c : ℕ) → row_first + r ≡ row → col_first + c ≡ col → r < row_end - row_first
      → c < col_end - col_first → Written row col
  inside_at row col r c er ec rl cl =
      subst (λ x. Written x col) er (subst (λ y. Written (row_first + r) y) ec
      (facts.changed.changed r c rl cl
      ∙ ap (λ o. coded K (option_or (value_of K (number_at old (tile_side t) (row_first + r) (col_first + c))) o))
      (sampled_in r c rl cl)))

  pub painted : IsPainted s t old new
  painted = record {
    size = facts.changed.size;
    each = λ row col rl cl. by_kind row col
        (by row col rl cl (cases_lt row row_first) (cases_lt row row_end) (cases_lt col col_first)
        (cases_lt col col_end));
  }
    where
      by_kind : (row col : ℕ) → Written row col
          → number_at new (tile_side t) row col
          ≡ coded (kind_of t.family)
          (option_or (value_of (kind_of t.family) (number_at old (tile_side t) row col))
          (sample_at s (element_place t row col)))
      by_kind row col e =
          subst (λ k. number_at new (tile_side t) row col
          ≡ coded k
          (option_or (value_of k (number_at old (tile_side t) row col)) (sample_at s (element_place t row col))))
          facts.window.kind e

      by : (row col : ℕ) → row < tile_side t → col < tile_side t → (row < row_first) ⊎ (row_first ≤ row)
          → (row < row_end) ⊎ (row_end ≤ row) → (col < col_first) ⊎ (col_first ≤ col) → (col < col_end)
          ⊎ (col_end ≤ col) → Written row col
      by row col rl cl (inl x) b d e = beside row col rl cl (inl (inl x))
      by row col rl cl (inr x) (inr y) d e = let k = P.some_rows in beside row col rl cl (inl (inr (omega arith)))
      by row col rl cl (inr x) (inl y) (inl z) e = beside row col rl cl (inr (inl z))
      by row col rl cl (inr x) (inl y) (inr z) (inr u) = let k = P.some_cols in
          beside row col rl cl (inr (inr (omega arith)))
      by row col rl cl (inr x) (inl y) (inr z) (inl u) = inside_at row col (row - row_first) (col - col_first)
          (omega arith) (omega arith) (omega arith) (omega arith)

-- the same of every source that has the head
pub painted_by : (head : SourceHead) (s : Source) (t : Tile) (first count : ℕ) (posts old new : List ℤ)
    (row_first row_end col_first col_end us ut m rs rt n : ℕ)
    → Facts head t first count posts old new row_first row_end col_first col_end us ut m rs rt n → s.head ≡ head
    → posts ≡ rows_of s first count → IsPainted s t old new
painted_by head s t first count posts old new row_first row_end col_first col_end us ut m rs rt n facts same are =
    painted s t first count posts old new row_first row_end col_first col_end us ut m rs rt n
    (subst (λ h. Facts h t first count posts old new row_first row_end col_first col_end us ut m rs rt n)
    (sym same) facts) are
