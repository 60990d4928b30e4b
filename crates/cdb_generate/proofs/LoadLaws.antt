-- The load of publications that are drawn: a source reaches at most five rows and five columns of tiles of each of
-- twelve heights and of each family.
use Rattle.std.proofs.Common.{◌≡◌, ℕ, suc, ◌+◌, ◌-◌, ◌*◌, ◌/◌, ◌%◌, ◌^◌, ◌<◌, ◌≤◌, min, inl, inr, ℤ, pos, negsuc, ◌+ℤ◌, List, [], ◌∷◌, length, nat_eq, if◌then◌else◌, refl, sym, ◌∙◌, ap, subst, arith, lit<}
use Rattle.std.specs.List.{Contains}
use Rattle.std.proofs.lemmas.Bool.{cases_lt}
use Rattle.std.proofs.lemmas.Int.{ints}
use Rattle.std.proofs.lemmas.Nat.{pow-add, div-add-mod', div_below, mod_below}
use Rattle.std.proofs.Math.Pow.{pow_mono}
use Rattle.std.proofs.Math.Nat.{mul-le-mul_right}
use Rattle.cdb_grid.specs.Units.{height_of, step, side_of, tiles_of, width_at, row_of}
use Rattle.cdb_grid.specs.Tiles.{tile_height}
use Rattle.cdb_grid.specs.declared.family.Family.{Family}
use Rattle.cdb_grid.specs.declared.family.Family.TheVariants.{Elev, Low, High, Mat}
use Rattle.cdb_grid.specs.declared.tile.Tile.{Tile}
use Rattle.cdb_grid.proofs.UnitLaws.{width-pos, extent-pos}
use Rattle.cdb_grid.proofs.TileLaws.{tile_height-most}
use Rattle.cdb_source.specs.Head.{magnitude, span}
use Rattle.cdb_source.specs.Sample.{corner_of, box_height, box_width, IsBefore}
use Rattle.cdb_source.specs.Reached.{source_height, Reaches, IsReachCount, IsLoad}
use Rattle.cdb_source.specs.declared.kind.Kind.{Kind}
use Rattle.cdb_source.specs.declared.kind.Kind.TheVariants.{Elevation, Material}
use Rattle.cdb_source.specs.declared.head.SourceHead.{SourceHead}
use Rattle.cdb_source.specs.declared.source.Source.{Source}
use Rattle.cdb_touch.specs.inside.Axis.{HasPlaceOnAxis, inset_of}
use Rattle.cdb_touch.specs.inside.Numbers.{tile_width, row_number, column_number, IsNumbered}
use Rattle.cdb_touch.proofs.NumberLaws.{wide-extent}
use Rattle.cdb_touch.proofs.ReachLaws.{reaches_to}
use Rattle.cdb_touch.proofs.TileNumbers.{numbered_row, numbered-only}
use Rattle.cdb_model.specs.Publications.{heads_of}
use Rattle.cdb_generate.specs.Generator.{state_after_draws, drawn, HeadDrawn, SourcesDrawn}
use Rattle.cdb_generate.specs.Laws.{DrawnFits}
use Rattle.cdb_generate.proofs.BoxLaws.{height_low}
use Rattle.cdb_generate.proofs.FewTiles.{few}

-- ---- the box

-- a head whose box spans at most 64 steps of its level, which is from -6 to 1
record IsSmall (head : SourceHead) : Type 0 where
  low : source_height head ≤ 30
  high : 23 ≤ source_height head
  rows : box_height head ≤ 64 * step (source_height head)
  cols : box_width head ≤ 64 * step (source_height head)

height_high : (level : ℤ) (n : ℕ) → n < 8 → level +ℤ pos 6 ≡ pos n → 23 ≤ height_of level
height_high (pos l) n small e = omega (arith, ints, e)
height_high (negsuc l) n small e = omega arith

span_most : (kind : Kind) (r s : ℕ) → r ≤ 64 → span kind r (magnitude (pos s)) ≤ 64 * s
span_most Elevation r s few =
    let m : (r - 1) * s ≤ 64 * s = mul-le-mul_right s (omega arith) in
    let goal : (r - 1) * (s + 0) ≤ 64 * s = omega arith in goal
span_most Material r s few =
    let m : r * s ≤ 64 * s = mul-le-mul_right s few in
    let goal : r * (s + 0) ≤ 64 * s = omega arith in goal

most_64 : (n r : ℕ) → r ≡ 1 + n % 64 → r ≤ 64
most_64 n r e = omega arith

below_8 : (n : ℕ) → n % 8 < 8
below_8 n = omega arith

small_head : (x : ℕ) (head : SourceHead) → HeadDrawn x head → IsSmall head
small_head x head d =
    let s : ℕ = step (source_height head) in
    record {
      low = height_low head.level.number (drawn 2 x % 8) (below_8 (drawn 2 x)) d.level;
      high = height_high head.level.number (drawn 2 x % 8) (below_8 (drawn 2 x)) d.level;
      rows = subst (λ (z : ℤ). span head.kind head.rows (magnitude z) ≤ 64 * s) (sym d.dlat)
          (span_most head.kind head.rows s (most_64 (drawn 5 x) head.rows d.rows));
      cols = subst (λ (z : ℤ). span head.kind head.cols (magnitude z) ≤ 64 * s) (sym d.dlon)
          (span_most head.kind head.cols s (most_64 (drawn 6 x) head.cols d.cols));
    }

-- ---- one axis

less_times : (m n w : ℕ) → m * w < n * w → m < n
less_times m n w lt = elim (cases_lt m n) [
  | inl p ↦ p
  | inr p ↦ let q : n * w ≤ m * w = mul-le-mul_right w p in absurd (omega arith)
]

-- a part of an axis that holds a place of a box that spans at most four parts is one of five
five : (near place extent n reach : ℕ) → 1 ≤ extent → n * extent ≤ place → place < n * extent + extent
    → near ≤ place → place ≤ near + reach
    → reach ≤ 4 * extent → (near / extent ≤ n) × (n < near / extent + 5)
five near place extent n reach p low high from to few =
    let q : near / extent * extent + near % extent ≡ near = div-add-mod' near extent in
    let r : near % extent < extent = mod_below near extent p in
    let one : near / extent < n + 1 = div_below near extent (n + 1) p (omega arith) in
    let two : n * extent < (near / extent + 5) * extent = omega arith in
    (omega arith, less_times n (near / extent + 5) extent two)

not_past : (kind : Kind) (x edge : ℕ) → IsBefore kind x edge → x ≤ edge
not_past Elevation x edge b = b
not_past Material x edge b = omega arith

five_of : (kind : Kind) (s near reach extent n : ℕ) → 1 ≤ extent → reach ≤ 4 * extent
    → HasPlaceOnAxis kind s near (near + reach) extent n
    → (near / extent ≤ n) × (n < near / extent + 5)
five_of kind s near reach extent n p small h =
    five near (h.corner + inset_of kind s) extent n reach p h.from_low h.below_high h.from_near (not_past kind _
    (near + reach) h.to_far) small

-- 64 steps are at most four tiles of each height from the step's on
four_tiles : (k h : ℕ) → k ≤ h → k ≤ 30 → h ≤ 34 → 64 * step k ≤ 4 * (side_of h * step h)
four_tiles k h le low most =
    let a : ℕ = min 10 (34 - h) + h in
    let split : 2 ^ a ≡ side_of h * 2 ^ h = pow-add 2 (min 10 (34 - h)) h in
    let left : 2 ^ (k + 6) ≡ 2 ^ k * 64 = pow-add 2 k 6 in
    let right : 2 ^ (a + 2) ≡ 2 ^ a * 4 = pow-add 2 a 2 in
    let more : 2 ^ (k + 6) ≤ 2 ^ (a + 2) = pow_mono (omega arith) in
    omega arith

wider : (w h : ℕ) → 0 < w → side_of h * step h ≤ side_of h * (w * step h)
wider w h p =
    let e : w * (side_of h * step h) ≡ side_of h * (w * step h) = wide-extent w h in
    let m : 1 * (side_of h * step h) ≤ w * (side_of h * step h) = mul-le-mul_right (side_of h * step h) p in
    omega arith

-- ---- the number of a tile that a source reaches

first_row : SourceHead → ℕ → ℕ
first_row head h = (corner_of head).north / (side_of h * step h)

first_column : SourceHead → ℕ → ℕ → ℕ
first_column head h width = (corner_of head).east / (side_of h * (width * step h))

record IsNear (head : SourceHead) (t : Tile) : Type 0 where
  height_from : source_height head ≤ tile_height t
  height_below : tile_height t < source_height head + 12
  row_from : first_row head (tile_height t) ≤ row_number t
  row_below : row_number t < first_row head (tile_height t) + 5
  column_from : first_column head (tile_height t) (tile_width t) ≤ column_number t
  column_below : column_number t < first_column head (tile_height t) (tile_width t) + 5

near : (head : SourceHead) (t : Tile) → IsSmall head → Reaches head t → IsNear head t
unfolding first_row first_column
near head t small r =
    let k : ℕ = source_height head in let h : ℕ = tile_height t in let w : ℕ = tile_width t in
    let most : h ≤ 34 = tile_height-most t in
    let both = reaches_to head t r in
    let fits : 64 * step k ≤ 4 * (side_of h * step h) = four_tiles k h r.level small.low most in
    let wide : side_of h * step h ≤ side_of h * (w * step h) = wider w h (width-pos (row_of t.cell.lat)) in
    let some : 1 ≤ side_of h * step h = extent-pos h in
    let a = small.rows in let b = small.cols in
    let rows = five_of head.kind (step k) (corner_of head).north (box_height head) (side_of h * step h)
    (row_number t) some (omega arith) both.0 in
    let columns = five_of head.kind (w * step k) (corner_of head).east (box_width head) (side_of h * (w * step h))
    (column_number t) (omega arith) (omega arith) both.1 in
    let high = small.high in
    record {
      height_from = r.level;
      height_below = omega arith;
      row_from = rows.0;
      row_below = rows.1;
      column_from = columns.0;
      column_below = columns.1;
    }

family_digit : Family → ℕ
family_digit Elev = 0
family_digit Low = 1
family_digit High = 2
family_digit Mat = 3

family_of_digit : ℕ → Family
family_of_digit n = if nat_eq n 0 then Elev else if nat_eq n 1 then Low else if nat_eq n 2 then High else Mat

digit_below : (f : Family) → family_digit f < 4
unfolding family_digit
digit_below Elev = lit< tt
digit_below Low = lit< tt
digit_below High = lit< tt
digit_below Mat = lit< tt

digit_back : (f : Family) → family_of_digit (family_digit f) ≡ f
unfolding family_digit family_of_digit
digit_back Elev = refl
digit_back Low = refl
digit_back High = refl
digit_back Mat = refl

family_same : (f g : Family) → family_digit f ≡ family_digit g → f ≡ g
family_same f g e = sym (digit_back f) ∙ ap family_of_digit e ∙ digit_back g

digits : ℕ → ℕ → ℕ → ℕ → ℕ
digits f a r c = ((f * 12 + a) * 5 + r) * 5 + c

digits_below : (f a r c : ℕ) → f < 4 → a < 12 → r < 5 → c < 5 → digits f a r c < 1200
unfolding digits
digits_below f a r c p q s u = omega arith

digits_same : (f a r c g b s d : ℕ) → a < 12 → r < 5 → c < 5 → b < 12 → s < 5 → d < 5 → digits f a r c ≡ digits g b s d
    → (f ≡ g) × (a ≡ b) × (r ≡ s) × (c ≡ d)
unfolding digits
digits_same f a r c g b s d la lr lc lb ls ld e =
    let one : (f * 12 + a) * 5 + r ≡ (g * 12 + b) * 5 + s = omega arith in
    let two : f * 12 + a ≡ g * 12 + b = omega arith in
    let three : f ≡ g = omega arith in
    (three, omega arith, omega arith, omega arith)

code : SourceHead → Tile → ℕ
code head t =
    digits (family_digit t.family) (tile_height t - source_height head) (row_number t - first_row head (tile_height t))
    (column_number t - first_column head (tile_height t) (tile_width t))

code_below : (head : SourceHead) (t : Tile) → IsNear head t → code head t < 1200
unfolding code
code_below head t n =
    let a = n.height_from in let b = n.height_below in let c = n.row_from in let d = n.row_below in let e =
    n.column_from in let f = n.column_below in
    digits_below _ _ _ _ (digit_below t.family) (omega arith) (omega arith) (omega arith)

less_same : (a b c d : ℕ) → c ≡ d → c ≤ a → d ≤ b → a - c ≡ b - d → a ≡ b
less_same a b c d e p q s = omega arith

own_number : (t : Tile) → IsNumbered t.family (tile_height t) (row_number t) (column_number t) t
own_number t = record { family_is = refl; height_is = refl; row_is = refl; column_is = refl }

width_by_row : (t u : Tile) → tile_height t ≡ tile_height u → row_number t ≡ row_number u → tile_width t ≡ tile_width u
width_by_row t u eh er =
    let a = numbered_row t.family (tile_height t) (row_number t) (column_number t) t (own_number t) in
    let b = numbered_row u.family (tile_height u) (row_number u) (column_number u) u (own_number u) in
    ap width_at (a.0 ∙ (λ i. er i / tiles_of (eh i)) ∙ sym b.0)

code_same : (head : SourceHead) (t u : Tile) → IsNear head t → IsNear head u → code head t ≡ code head u → t ≡ u
unfolding code
code_same head t u m n e =
    let a = m.height_from in let b = m.height_below in let c = m.row_from in let d = m.row_below in let f =
    m.column_from in let g = m.column_below in
    let a' = n.height_from in let b' = n.height_below in let c' = n.row_from in let d' = n.row_below in let f' =
    n.column_from in let g' = n.column_below in
    let all = digits_same _ _ _ _ _ _ _ _ (omega arith) (omega arith) (omega arith) (omega arith) (omega arith)
    (omega arith) e in
    let family : t.family ≡ u.family = family_same t.family u.family all.0 in
    let height : tile_height t ≡ tile_height u =
    less_same (tile_height t) (tile_height u) (source_height head) (source_height head) refl a a' all.1 in
    let row : row_number t ≡ row_number u =
    less_same (row_number t) (row_number u) (first_row head (tile_height t)) (first_row head (tile_height u)) (ap
    (first_row head) height) c c' all.2 in
    let width : tile_width t ≡ tile_width u = width_by_row t u height row in
    let column : column_number t ≡ column_number u =
    less_same (column_number t) (column_number u) (first_column head (tile_height t) (tile_width t))
    (first_column head (tile_height u) (tile_width u))
    (λ i. first_column head (height i) (width i)) f f' all.3 in
    numbered-only t.family (tile_height t) (row_number t) (column_number t) t u (own_number t)
    (record { family_is = sym family; height_is = sym height; row_is = sym row; column_is = sym column })

-- ---- the load

reach_most : (head : SourceHead) (count : ℕ) → IsSmall head → IsReachCount head count → count ≤ 1200
reach_most head count small r =
    let at : (t : Tile) → Contains r.tiles t → IsNear head t = λ t c. near head t small ((r.listed.exact t).0 c) in
    let le : length r.tiles ≤ 1200 = few 1200 (code head) r.tiles r.listed.once (record {
      below = λ t c. code_below head t (at t c);
      same = λ t u c d e. code_same head t u (at t c) (at u d) e;
    }) in
    subst (λ n. n ≤ 1200) r.counted le

load_most : (x : ℕ) (ss : List Source) (load : ℕ) → SourcesDrawn x ss → IsLoad (heads_of ss) load
    → load ≤ 1200 * length ss
load_most x [] load drawn is = let e : load ≡ 0 = is in omega arith
load_most x (s ∷ ss) load drawn is =
    let one : is.0 ≤ 1200 = reach_most s.head is.0 (small_head x s.head drawn.0.head) is.2.0 in
    let rest : is.1 ≤ 1200 * length ss = load_most (state_after_draws 7 x) ss is.1 drawn.1 is.2.1 in
    let e : load ≡ is.0 + is.1 = is.2.2 in
    let all : load ≤ 1200 * suc (length ss) = omega arith in all

some_count : (n count : ℕ) → count ≡ 1 + n % 3 → 1 ≤ count
some_count n count e = omega arith

few_count : (n count : ℕ) → count ≡ 1 + n % 3 → count ≤ 3
few_count n count e = omega arith

pub drawn_fits : DrawnFits
drawn_fits = record {
  some = λ x ss d. some_count (drawn 1 x) (length ss) d.count;
  few = λ x ss d. few_count (drawn 1 x) (length ss) d.count;
  load = λ x ss load d is. three (length ss) load (few_count (drawn 1 x) (length ss) d.count)
      (load_most _ ss load d.each is);
}
  where
    three : (n load : ℕ) → n ≤ 3 → load ≤ 1200 * n → load ≤ 3600
    three n load p q = omega arith
