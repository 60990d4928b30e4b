-- The length of a tile's file.
use Rattle.std.proofs.Common.{◌≡◌, ℕ, ◌+◌, ◌*◌, ◌/◌, ◌≤◌, ℤ, List, [], ◌∷◌, length, length-append, mul_assoc, refl, sym, ap, ◌∙◌, arith}
use Rattle.std.specs.Int.{w8, cast_unsigned}
use Rattle.std.proofs.lemmas.List.{length-map}
use Rattle.std.proofs.lemmas.List.FromFn.{length-map-range_with_len}
use Rattle.cdb_grid.specs.Tiles.{tile_side}
use Rattle.cdb_grid.specs.declared.family.Family.{Family}
use Rattle.cdb_grid.specs.declared.family.Family.TheVariants.{Elev, Low, High, Mat}
use Rattle.cdb_grid.specs.declared.tile.Tile.{Tile}
use Rattle.cdb_source.specs.Posts.{coded}
use Rattle.cdb_source.specs.Reached.{kind_of, tile_value}
use Rattle.cdb_source.specs.declared.source.Source.{Source}
use Rattle.cdb_model.specs.TileFile.{bits_of, family_row, head_bytes, row_bytes, small_row_bytes, row_numbers, raster_bytes, tile_bytes}
use Rattle.std.proofs.lemmas.Nat.{mul-le}
use Rattle.std.proofs.Math.Pow.{pow_mono}
use Rattle.cdb_source.specs.declared.kind.Kind.TheVariants.{Elevation}
use Rattle.cdb_tiff_write.specs.Rasters.{tile_size}
use Rattle.cdb_tiff_write.specs.SizeLaws.{TilesAreSized}
use Rattle.cdb_tiff_write.proofs.Written.{rows_length}

row_long : (posts : List ℤ) → length (row_bytes posts) ≡ length posts * 2
unfolding row_bytes
row_long [] = refl
row_long (p ∷ posts) = omega (arith, row_long posts)

small_row_long : (posts : List ℤ) → length (small_row_bytes posts) ≡ length posts * 1
unfolding small_row_bytes
small_row_long posts = omega (arith, length-map posts (cast_unsigned w8))

family_row_long : (f : Family) (posts : List ℤ) → length (family_row f posts) ≡ length posts * (bits_of f / 8)
family_row_long Elev posts = row_long posts
family_row_long Low posts = row_long posts
family_row_long High posts = row_long posts
family_row_long Mat posts = small_row_long posts

row_count : (ss : List Source) (t : Tile) (row : ℕ) → length (row_numbers ss t row) ≡ tile_side t
row_count ss t row = length-map-range_with_len (λ col. coded (kind_of t.family) (tile_value ss t row col))
    0 (tile_side t)

head_of_family : (f : Family) (side : ℕ) → length (head_bytes side (bits_of f)) ≡ 186
unfolding head_bytes
head_of_family Elev side = refl
head_of_family Low side = refl
head_of_family High side = refl
head_of_family Mat side = refl

pub tile_bytes_long : (ss : List Source) (t : Tile) → length (tile_bytes ss t) ≡ tile_size t
unfolding tile_bytes
tile_bytes_long ss t =
    let n = tile_side t in let b = bits_of t.family / 8 in
    let rows : length (raster_bytes ss t) ≡ n * (n * b) =
    rows_length (λ row. family_row t.family (row_numbers ss t row)) (n * b) n
    (λ row. family_row_long t.family (row_numbers ss t row) ∙ ap (λ k. k * b) (row_count ss t row)) in
    length-append (head_bytes n (bits_of t.family)) (raster_bytes ss t)
    ∙ ap (λ k. k + length (raster_bytes ss t)) (head_of_family t.family n)
    ∙ ap (λ k. 186 + k) (rows ∙ sym (mul_assoc n n b))

elevation_size : (f : Family) (n : ℕ) → kind_of f ≡ Elevation → 186 + n * n * (bits_of f / 8) ≡ 186 + 2 * n * n
elevation_size Elev n e = omega arith
elevation_size Low n e = omega arith
elevation_size High n e = omega arith
elevation_size Mat n e = absurd (cc)

most_size : (f : Family) (n : ℕ) → n ≤ 1024 → 186 + n * n * (bits_of f / 8) ≤ 2097338
most_size f n le = let square : n * n ≤ 1024 * 1024 = mul-le n n 1024 1024 le le in by f square
  where
    by : (g : Family) → n * n ≤ 1048576 → 186 + n * n * (bits_of g / 8) ≤ 2097338
    by Elev s = omega (arith, s)
    by Low s = omega (arith, s)
    by High s = omega (arith, s)
    by Mat s = omega (arith, s)

pub are_sized : TilesAreSized
are_sized = record {
  length_is = tile_bytes_long;
  elevations = λ t e. elevation_size t.family (tile_side t) e;
  materials = λ t e. ap (λ f. 186 + tile_side t * tile_side t * (bits_of f / 8)) e
      ∙ (let one : 186 + tile_side t * tile_side t * 1 ≡ 186 + tile_side t * tile_side t = omega arith in one);
  most = λ t. most_size t.family (tile_side t) (pow_mono {j = 10} (omega arith));
}
