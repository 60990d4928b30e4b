-- The samples of a tile's file are the tile's values.
use Rattle.std.proofs.Common.{◌≡◌, ℕ, zero, suc, ◌+◌, ◌-◌, ◌*◌, ◌/◌, ◌^◌, ◌<◌, ◌≤◌, ℤ, pos, negsuc, ◌≤ℤ◌, Bool, true, false, cond, ◌&&◌, nat_lt, List, [], ◌∷◌, ◌++◌, map, length, take, drop, get_or, All, Option, Some, None, IfSome, refl, sym, ap, ap₂, ◌∙◌, subst, arith}
use Rattle.std.specs.Prelude.{FitsSigned, slice_get, option_and_then}
use Rattle.std.specs.Ordering.{int_eq}
use Rattle.std.specs.Int.{w8, w16, to_le_bytes, from_le_bytes, cast_signed, cast_unsigned}
use Rattle.std.specs.List.{flat_map, range_with_len}
use Rattle.std.proofs.lemmas.Int.{ints, to_z-of_z}
use mir.Val.{SFits}
use Rattle.std.proofs.lemmas.Nat.{from_le_bytes-to_le_bytes_2}
use Rattle.std.proofs.lemmas.Grind.{flat_map-append}
use Rattle.std.proofs.Math.Nat.{mul-le-mul_right}
use Rattle.std.proofs.lemmas.List.{map-append, get_or-append_right, get_or-map}
use Rattle.std.proofs.lemmas.List.Elements.{All-get_or}
use Rattle.std.proofs.lemmas.Option.{slice_get_within, get_or_from_slice_get}
use Rattle.cdb_grid.specs.Grid.{Place}
use Rattle.cdb_source.specs.Sample.{value_of, post_at, value_in, sample_at, is_in_box, corner_of, row_step, column_step}
use Rattle.cdb_source.specs.Values.{sampled}
use Rattle.cdb_cut.specs.OneTile.{IsFrameOf}
use Rattle.cdb_cut.proofs.Plain.{Each, family_has}
use Rattle.std.proofs.lemmas.List.FromFn.{length-map-range_with_len, get_or-map-range_with_len}
use Rattle.cdb_grid.specs.Tiles.{tile_side, tile_height, element_corner}
use Rattle.cdb_grid.specs.Frames.{number_at}
use Rattle.cdb_grid.specs.declared.family.Family.{Family}
use Rattle.cdb_grid.specs.declared.family.Family.TheVariants.{Elev, Low, High, Mat}
use Rattle.cdb_grid.specs.declared.tile.Tile.{Tile}
use Rattle.cdb_source.specs.Posts.{IsPost, none_of, coded}
use Rattle.cdb_source.specs.Reached.{kind_of, tile_value, family_value}
use Rattle.cdb_source.specs.declared.kind.Kind.{Kind}
use Rattle.cdb_source.specs.declared.kind.Kind.TheVariants.{Elevation, Material}
use Rattle.cdb_source.specs.declared.source.Source.{Source}
use Rattle.cdb_model.specs.Text.{last_first}
use Rattle.cdb_model.specs.TileFile.{head_bytes, row_bytes, small_row_bytes, bits_of, family_row, row_numbers, tile_bytes}
use Rattle.cdb_tiff_write.specs.ReadLaws.{AreReadBack}
use Rattle.cdb_tiff_write.specs.Samples.{sample_in}
use Rattle.cdb_tiff_write.proofs.Read.{number_there, all_map, all_pieces}
use Rattle.cdb_tiff_write.proofs.Written.{rows_length}
use Rattle.cdb_tiff_write.proofs.Range.{number_fits}
use Rattle.cdb_tiff_write.proofs.MaterialPosts.{number_post}

head_long : (side : ℕ) → length (head_bytes side 16) ≡ 186
unfolding head_bytes
head_long side = refl

drop_past : (xs ys : List ℕ) (n m : ℕ) → length xs ≡ n → drop (n + m) (xs ++ ys) ≡ drop m ys
drop_past [] ys n m e = let z : n + m ≡ m = omega arith in ap (λ k. drop k ys) z
drop_past (x ∷ xs) ys zero m e = absurd (omega arith)
drop_past (x ∷ xs) ys (suc n) m e = let s : suc n + m ≡ suc (n + m) = omega arith in ap (λ k. drop k (x ∷ (xs ++ ys))) s
    ∙ drop_past xs ys n m (omega arith)

abbrev spelled : List ℤ → List ℕ
spelled posts = flat_map (λ post. to_le_bytes w16 (cast_unsigned w16 post)) posts

-- rows that are spelled one by one are spelled in one
rows_spelled : (rows : ℕ → List ℤ) (n : ℕ) → last_first n (λ r. row_bytes (rows r)) ≡ spelled (last_first n rows)
unfolding row_bytes
rows_spelled rows zero = refl
rows_spelled rows (suc n) =
    ap (λ (l : List ℕ). spelled (rows n) ++ l) (rows_spelled rows n)
    ∙ sym (flat_map-append (λ post. to_le_bytes w16 (cast_unsigned w16 post)) (rows n) (last_first n rows))

fits_both : (z : ℤ) → FitsSigned w16 z → SFits w16 z × (cast_unsigned w16 z < 2 ^ 16)
fits_both (pos n) f = (f, omega (arith, ints, f))
fits_both (negsuc n) f = (f, omega arith)

one_sample : (z : ℤ) (rest : List ℕ) → FitsSigned w16 z
    → cast_signed w16 (from_le_bytes w16 (take 2 (to_le_bytes w16 (cast_unsigned w16 z) ++ rest))) ≡ z
one_sample z rest f = let b = fits_both z f in
    ap (cast_signed w16) (from_le_bytes-to_le_bytes_2 (cast_unsigned w16 z) b.1) ∙ to_z-of_z w16 z b.0

fit_rest : (x : ℤ) (xs : List ℤ) → All (FitsSigned w16) (x ∷ xs) → FitsSigned w16 x × All (FitsSigned w16) xs
fit_rest x xs all = (all 0 (pos 0) (omega arith), λ k d lt. all (suc k) d (omega arith))

sample_spelled : (posts : List ℤ) (k : ℕ) → All (FitsSigned w16) posts → k < length posts
    → cast_signed w16 (from_le_bytes w16 (take 2 (drop (2 * k) (spelled posts)))) ≡ get_or posts k (pos 0)
sample_spelled [] k all lt = absurd (omega arith)
sample_spelled (x ∷ xs) zero all lt = one_sample x (spelled xs) (fit_rest x xs all).0
sample_spelled (x ∷ xs) (suc k) all lt =
    let n : 2 * suc k ≡ suc (suc (2 * k)) = omega arith in
    let rec = sample_spelled xs k (fit_rest x xs all).1 (omega arith) in
    rw n rec

-- the number of a sample in the raster
below_raster : (row col side : ℕ) → row < side → col < side → (side - 1 - row) * side + col < side * side
below_raster row col side a b =
    let m : suc (side - 1 - row) * side ≤ side * side = mul-le-mul_right side (omega arith) in omega arith

head_long_8 : (n : ℕ) → length (head_bytes n 8) ≡ 186
unfolding head_bytes
head_long_8 n = refl

rows_small : (rows : ℕ → List ℤ) (n : ℕ)
    → last_first n (λ r. small_row_bytes (rows r)) ≡ map (cast_unsigned w8) (last_first n rows)
unfolding small_row_bytes
rows_small rows zero = refl
rows_small rows (suc n) = ap (λ (l : List ℕ). map (cast_unsigned w8) (rows n) ++ l) (rows_small rows n)
    ∙ sym (map-append (cast_unsigned w8) (rows n) (last_first n rows))

octet : (z : ℤ) → IsPost Material z → pos (cast_unsigned w8 z) ≡ z
octet (pos n) p = refl
octet (negsuc n) p = let l = p.least in absurd (omega (arith, ints))

-- what is spelled row by row, the last row first, is read back by the row and the column
module _ (side : ℕ) (rows : ℕ → List ℤ) (long : (r : ℕ) → length (rows r) ≡ side) (row col : ℕ) (a : row < side)
    (b : col < side) where
  abbrev place : ℕ
  place = (side - 1 - row) * side + col

  within : place < length (last_first side rows)
  within = subst (λ n. place < n) (sym (rows_length rows side side long)) (below_raster row col side a b)

  -- in two bytes each
  pub read_16 : ((r : ℕ) → All (FitsSigned w16) (rows r))
      → sample_in 16 (head_bytes side 16 ++ last_first side (λ r. row_bytes (rows r))) place
      ≡ get_or (rows row) col (pos 0)
  read_16 fit =
      ap (λ (l : List ℕ). cast_signed w16 (from_le_bytes w16 (take 2 l)))
      (drop_past (head_bytes side 16) (last_first side (λ r. row_bytes (rows r))) 186 (2 * place) (head_long side))
      ∙ ap (λ (l : List ℕ). cast_signed w16 (from_le_bytes w16 (take 2 (drop (2 * place) l)))) (rows_spelled rows side)
      ∙ sample_spelled (last_first side rows) place (all_pieces (FitsSigned w16) rows side fit) within
      ∙ number_there rows side side row col long a b

  -- in one byte each
  pub read_8 : ((r : ℕ) → All (IsPost Material) (rows r))
      → sample_in 8 (head_bytes side 8 ++ last_first side (λ r. small_row_bytes (rows r))) place
      ≡ get_or (rows row) col (pos 0)
  read_8 fit =
      let numbers : List ℤ = last_first side rows in
      let here : get_or numbers place (pos 0) ≡ get_or (rows row) col (pos 0) =
      number_there rows side side row col long a b in
      let post : IsPost Material (get_or (rows row) col (pos 0)) = All-get_or (IsPost Material) (rows row) col (pos 0)
      (subst (λ n. col < n) (sym (long row)) b) (fit row) in
      let back : 186 + place - 186 ≡ place = omega arith in
      ap pos (get_or-append_right (head_bytes side 8) (last_first side (λ r. small_row_bytes (rows r))) 186
      (186 + place) 0 (head_long_8 side) (omega arith)
      ∙ ap (λ i. get_or (last_first side (λ r. small_row_bytes (rows r))) i 0) back
      ∙ ap (λ (l : List ℕ). get_or l place 0) (rows_small rows side)
      ∙ get_or-map (cast_unsigned w8) numbers place (pos 0) 0 within
      ∙ ap (cast_unsigned w8) here)
      ∙ octet (get_or (rows row) col (pos 0)) post

-- the numbers of a tile
module _ (ss : List Source) (t : Tile) where
  row_long : (r : ℕ) → length (row_numbers ss t r) ≡ tile_side t
  row_long r = length-map-range_with_len (λ col. coded (kind_of t.family) (tile_value ss t r col)) 0 (tile_side t)

  number_is : (row col : ℕ) → col < tile_side t
      → get_or (row_numbers ss t row) col (pos 0) ≡ coded (kind_of t.family) (tile_value ss t row col)
  number_is row col b = get_or-map-range_with_len (λ c. coded (kind_of t.family) (tile_value ss t row c)) 0
      (tile_side t) col col (pos 0) b (omega arith)

by_family : (f : Family) (side : ℕ) (rows : ℕ → List ℤ) → kind_of f ≡ Elevation
    → head_bytes side (bits_of f) ++ last_first side (λ r. family_row f (rows r))
    ≡ head_bytes side 16 ++ last_first side (λ r. row_bytes (rows r))
by_family Elev side rows e = refl
by_family Low side rows e = refl
by_family High side rows e = refl
by_family Mat side rows e = absurd (cc)

bytes_are : (ss : List Source) (t : Tile) → kind_of t.family ≡ Elevation
    → tile_bytes ss t ≡ head_bytes (tile_side t) 16 ++ last_first (tile_side t) (λ r. row_bytes (row_numbers ss t r))
unfolding tile_bytes
bytes_are ss t e = by_family t.family (tile_side t) (row_numbers ss t) e

pub elevation_samples : (ss : List Source) (t : Tile) (row col : ℕ) → row < tile_side t → col < tile_side t
    → kind_of t.family ≡ Elevation
    → sample_in 16 (tile_bytes ss t) ((tile_side t - 1 - row) * tile_side t + col)
    ≡ coded (kind_of t.family) (tile_value ss t row col)
elevation_samples ss t row col a b e =
    ap (λ l. sample_in 16 l ((tile_side t - 1 - row) * tile_side t + col)) (bytes_are ss t e)
    ∙ read_16 (tile_side t) (row_numbers ss t) (row_long ss t) row col a b
    (λ r. all_map (FitsSigned w16) (λ c. coded (kind_of t.family) (tile_value ss t r c)) 0 (tile_side t)
    (λ c. number_fits t.family ss (tile_height t) (element_corner t r c) e))
    ∙ number_is ss t row col b

material_bytes : (ss : List Source) (t : Tile) → t.family ≡ Mat
    → tile_bytes ss t ≡ head_bytes (tile_side t) 8 ++ last_first (tile_side t)
    (λ r. small_row_bytes (row_numbers ss t r))
unfolding tile_bytes
material_bytes ss t e =
    ap (λ f. head_bytes (tile_side t) (bits_of f) ++ last_first (tile_side t) (λ r. family_row f (row_numbers ss t r)))
    e

pub material_samples : (ss : List Source) (t : Tile) (row col : ℕ) → row < tile_side t → col < tile_side t
    → t.family ≡ Mat
    → sample_in 8 (tile_bytes ss t) ((tile_side t - 1 - row) * tile_side t + col)
    ≡ coded (kind_of t.family) (tile_value ss t row col)
material_samples ss t row col a b e =
    ap (λ l. sample_in 8 l ((tile_side t - 1 - row) * tile_side t + col)) (material_bytes ss t e)
    ∙ read_8 (tile_side t) (row_numbers ss t) (row_long ss t) row col a b
    (λ r. all_map (IsPost Material) (λ c. coded (kind_of t.family) (tile_value ss t r c)) 0 (tile_side t)
    (λ c. number_post t.family ss (tile_height t) (element_corner t r c) e))
    ∙ number_is ss t row col b

-- of every family
pub tile_samples : (ss : List Source) (t : Tile) (row col : ℕ) → row < tile_side t → col < tile_side t
    → sample_in (bits_of t.family) (tile_bytes ss t) ((tile_side t - 1 - row) * tile_side t + col)
    ≡ coded (kind_of t.family) (tile_value ss t row col)
tile_samples ss t row col a b = by t.family refl
  where
    at : (bits : ℕ) → bits_of t.family ≡ bits
        → sample_in bits (tile_bytes ss t) ((tile_side t - 1 - row) * tile_side t + col)
        ≡ coded (kind_of t.family) (tile_value ss t row col)
        → sample_in (bits_of t.family) (tile_bytes ss t) ((tile_side t - 1 - row) * tile_side t + col)
        ≡ coded (kind_of t.family) (tile_value ss t row col)
    at bits e k = ap (λ n. sample_in n (tile_bytes ss t) ((tile_side t - 1 - row) * tile_side t + col)) e ∙ k

    by : (f : Family) → t.family ≡ f
        → sample_in (bits_of t.family) (tile_bytes ss t) ((tile_side t - 1 - row) * tile_side t + col)
        ≡ coded (kind_of t.family) (tile_value ss t row col)
    by Elev e = at 16 (ap bits_of e) (elevation_samples ss t row col a b (ap kind_of e))
    by Low e = at 16 (ap bits_of e) (elevation_samples ss t row col a b (ap kind_of e))
    by High e = at 16 (ap bits_of e) (elevation_samples ss t row col a b (ap kind_of e))
    by Mat e = at 8 (ap bits_of e) (material_samples ss t row col a b e)

-- the posts that are read of a tile's file are those of the tile
pub frame_read : (ss : List Source) (t : Tile) (bytes : List ℕ) (to : List ℤ) (side bits : ℕ) → side ≡ tile_side t
    → bits ≡ bits_of t.family → bytes ≡ tile_bytes ss t → length to ≡ side * side
    → ((row col : ℕ) → row < side → col < side
    → number_at to side (0 + row) (0 + col)
    ≡ sample_in bits bytes ((side - 1 - row) * side + col)) → IsFrameOf ss t to
frame_read ss t bytes to side bits es eb e size each = record {
  size = size ∙ ap (λ n. n * n) es;
  each = λ row col a b.
      let zr : row ≡ 0 + row = omega arith in let zc : col ≡ 0 + col = omega arith in
      ap (λ n. number_at to n row col) (sym es) ∙ ap₂ (λ x y. number_at to side x y) zr zc
      ∙ each row col (subst (λ n. row < n) (sym es) a) (subst (λ n. col < n) (sym es) b)
      ∙ ap (λ n. sample_in bits bytes ((n - 1 - row) * n + col)) es
      ∙ ap₂ (λ n l. sample_in n l ((tile_side t - 1 - row) * tile_side t + col)) eb e ∙ tile_samples ss t row col a b;
}

pub are_read_back : AreReadBack
are_read_back = record {
  sixteen = λ side rows long fit row col a b. read_16 side rows long row col a b fit;
  eight = λ side rows long fit row col a b. read_8 side rows long row col a b fit;
}
