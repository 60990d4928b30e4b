-- Sums of values, and the sum of a tile by its frame.
use Rattle.std.proofs.Common.{◌≡◌, ℕ, zero, suc, ◌+◌, ◌*◌, ◌<◌, ◌≤◌, ℤ, pos, negsuc, ◌+ℤ◌, ◌≤ℤ◌, List, [], ◌∷◌, ◌++◌, length, map, take, get_or, Option, refl, sym, ◌∙◌, ap, arith}
use Rattle.std.specs.Prelude.{unwrap_or}
use Rattle.std.specs.List.{range_with_len}
use Rattle.std.proofs.lemmas.Int.{ints}
use Rattle.std.proofs.lemmas.List.{map_more}
use Rattle.std.proofs.Math.Seq.{take-length}
use Rattle.std.proofs.lemmas.List.FromFn.{map-range_with_len_more}
use Rattle.cdb_grid.specs.Frames.{number_at}
use Rattle.cdb_grid.specs.Tiles.{tile_height, tile_side, element_corner}
use Rattle.cdb_grid.specs.declared.tile.Tile.{Tile}
use Rattle.cdb_source.specs.declared.kind.Kind.{Kind}
use Rattle.cdb_source.specs.declared.source.Source.{Source}
use Rattle.cdb_source.specs.Reached.{kind_of, tile_value}
use Rattle.cdb_cut.specs.OneTile.{IsFrameOf}
use Rattle.cdb_cut.proofs.Plain.{read_back, value_plain}
use Rattle.cdb_generate.specs.Laws.{SumsInOrder}
use Rattle.cdb_generate.specs.Sums.{sum_of, tile_sum, number_value, numbers_sum, tiles_sum, SumsTiles}

sum_more : (values : List ℤ) (value : ℤ) → sum_of (values ++ value ∷ []) ≡ sum_of values +ℤ value
sum_more [] value = omega (arith, ints)
sum_more (v ∷ values) value = let e = sum_more values value in turned v _ (sum_of values) value e
  where
    turned : (v whole sum value : ℤ) → whole ≡ sum +ℤ value → v +ℤ whole ≡ (v +ℤ sum) +ℤ value
    turned v whole sum value e = omega (arith, ints, e)

-- one number more of a frame, and one tile more of a list
pub numbers_more : (kind : Kind) (numbers : List ℤ) (i : ℕ) → i < length numbers
    → numbers_sum kind (take (i + 1) numbers) ≡ numbers_sum kind (take i numbers) +ℤ number_value kind
    (get_or numbers i (pos 0))
numbers_more kind numbers i lt =
    ap sum_of (map_more (λ number. number_value kind number) numbers i (pos 0) lt)
    ∙ sum_more (map (λ number. number_value kind number) (take i numbers)) (number_value kind (get_or numbers i
    (pos 0)))

tiles_more : (ss : List Source) (tiles : List Tile) (i : ℕ) (t : Tile) → i < length tiles
    → tiles_sum ss (take (i + 1) tiles) ≡ tiles_sum ss (take i tiles) +ℤ tile_sum ss (get_or tiles i t)
tiles_more ss tiles i t lt = ap sum_of (map_more (λ u. tile_sum ss u) tiles i t lt)
    ∙ sum_more (map (λ u. tile_sum ss u) (take i tiles)) (tile_sum ss (get_or tiles i t))

pub sums_in_order : SumsInOrder
sums_in_order = record { begins = λ ss tiles. refl; more = tiles_more }

-- ---- the rows of a frame
module _ (kind : Kind) (frame : List ℤ) (side : ℕ) (value : ℕ → ℕ → ℤ) where
  abbrev Values : Type 0
  Values = (row col : ℕ) → row < side → col < side → number_value kind (number_at frame side row col) ≡ value row col

  -- the first numbers of a row after all rows before it
  part_of_row : Values → (row col : ℕ) → row < side → col ≤ side → row * side + side ≤ length frame
      → numbers_sum kind (take (row * side + col) frame) ≡ numbers_sum kind (take (row * side) frame) +ℤ sum_of
      (map (value row) (range_with_len 0 col))
  part_of_row is row zero a b within =
      let e : row * side + 0 ≡ row * side = omega arith in
      ap (λ n. numbers_sum kind (take n frame)) e ∙ nothing (numbers_sum kind (take (row * side) frame))
    where
      nothing : (z : ℤ) → z ≡ z +ℤ pos 0
      nothing z = omega (arith, ints)
  part_of_row is row (suc col) a b within =
      let at : row * side + suc col ≡ row * side + col + 1 = omega arith in
      let number : suc col ≡ col + 1 = omega arith in
      let next : map (value row) (range_with_len 0 (suc col)) ≡ map (value row)
      (range_with_len 0 col) ++ value row col ∷ [] =
      ap (λ n. map (value row) (range_with_len 0 n)) number
      ∙ map-range_with_len_more (value row) 0 col col (omega arith) in
      let before = part_of_row is row col a (omega arith) within in
      ap (λ n. numbers_sum kind (take n frame)) at ∙ numbers_more kind frame (row * side + col) (omega arith)
      ∙ (λ i. before i +ℤ is row col a (omega arith) i)
      ∙ joined (numbers_sum kind (take (row * side) frame)) (sum_of (map (value row) (range_with_len 0 col)))
      (value row col)
      ∙ ap (λ z. numbers_sum kind (take (row * side) frame) +ℤ z) (sym (ap sum_of next
      ∙ sum_more (map (value row) (range_with_len 0 col)) (value row col)))
    where
      joined : (a b c : ℤ) → (a +ℤ b) +ℤ c ≡ a +ℤ (b +ℤ c)
      joined a b c = omega (arith, ints)

  abbrev one_row : ℕ → ℤ
  one_row row = sum_of (map (value row) (range_with_len 0 side))

  first_rows : Values → (rows : ℕ) → rows ≤ side → rows * side ≤ length frame
      → numbers_sum kind (take (rows * side) frame) ≡ sum_of (map one_row (range_with_len 0 rows))
  first_rows is zero a within = let e : 0 * side ≡ 0 = omega arith in ap (λ n. numbers_sum kind (take n frame)) e
  first_rows is (suc row) a within =
      let at : suc row * side ≡ row * side + side = omega arith in
      let number : suc row ≡ row + 1 = omega arith in
      let next : map one_row (range_with_len 0 (suc row)) ≡ map one_row (range_with_len 0 row) ++ one_row row ∷ [] =
      ap (λ n. map one_row (range_with_len 0 n)) number ∙ map-range_with_len_more one_row 0 row row (omega arith) in
      let before = first_rows is row (omega arith) (omega arith) in
      ap (λ n. numbers_sum kind (take n frame)) at ∙ part_of_row is row side (omega arith) (omega arith) (omega arith)
      ∙ ap (λ z. z +ℤ one_row row) before ∙ sym (ap sum_of next
      ∙ sum_more (map one_row (range_with_len 0 row)) (one_row row))

  all_rows : Values → length frame ≡ side * side → numbers_sum kind frame ≡ sum_of (map one_row (range_with_len 0 side))
  all_rows is size =
      ap (numbers_sum kind) (sym (ap (λ n. take n frame) (sym size) ∙ take-length frame))
      ∙ first_rows is side (omega arith) (omega arith)

-- ---- a tile

tile_of_kind : (numbers : List ℤ) (ss : List Source) (t : Tile) → IsFrameOf ss t numbers
    → numbers_sum (kind_of t.family) numbers ≡ tile_sum ss t
unfolding tile_sum
tile_of_kind numbers ss t is =
    all_rows (kind_of t.family) numbers (tile_side t) (λ row col. unwrap_or (tile_value ss t row col) (pos 0))
    (λ row col a b.
    ap (number_value (kind_of t.family)) (is.each row col a b)
    ∙ ap (λ (o : Option ℤ). unwrap_or o (pos 0)) (read_back (kind_of t.family) (tile_value ss t row col)
    (value_plain t.family ss (tile_height t) (element_corner t row col))))
    is.size

pub sums_tiles : (kind : Kind) (numbers : List ℤ) (sum : ℤ) → sum ≡ numbers_sum kind numbers
    → SumsTiles kind numbers sum
sums_tiles kind numbers sum e ss t ek is = e ∙ ap (λ k. numbers_sum k numbers) ek ∙ tile_of_kind numbers ss t is

-- one number more in the sum of a frame, with the bounds of both
pub least_more : (sum value : ℤ) (i : ℕ) → pos 0 ≤ℤ (sum +ℤ pos (32768 * i)) → negsuc 32767 ≤ℤ value
    → pos 0 ≤ℤ ((sum +ℤ value) +ℤ pos (32768 * (i + 1)))
least_more sum value i a b = omega (arith, ints)

pub most_more : (sum value : ℤ) (i : ℕ) → sum ≤ℤ pos (32768 * i) → value ≤ℤ pos 32768
    → (sum +ℤ value) ≤ℤ pos (32768 * (i + 1))
most_more sum value i a b = omega (arith, ints)
