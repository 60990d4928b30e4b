-- The bytes of a tile in the form that the reader of TIFF files knows.
use Rattle.std.proofs.Common.{◌≡◌, ℕ, zero, suc, ◌*◌, List, ◌++◌, length, refl, ap, sym, ◌∙◌, arith, length-append}
use Rattle.std.specs.Prelude.{ℤ}
use Rattle.std.specs.Int.{w16, cast_unsigned}
use Rattle.byteorder.specs.Endian.{little_bytes}
use Rattle.std.proofs.lemmas.Grind.{flat_map-append}
use Rattle.std.proofs.lemmas.List.FromFn.{length-map-range_with_len}
use Rattle.cdb_grid.specs.Tiles.{tile_side}
use Rattle.cdb_grid.specs.declared.family.Family.{Family}
use Rattle.cdb_grid.specs.declared.family.Family.TheVariants.{Elev, Low, High, Mat}
use Rattle.cdb_grid.specs.declared.tile.Tile.{Tile}
use Rattle.cdb_source.specs.Posts.{coded}
use Rattle.cdb_source.specs.Reached.{kind_of, tile_value}
use Rattle.cdb_source.specs.declared.kind.Kind.TheVariants.{Elevation}
use Rattle.cdb_source.specs.declared.source.Source.{Source}
use Rattle.cdb_tiff_base.specs.WrittenTile as written
use Rattle.cdb_model.specs.Text.{last_first}
use Rattle.cdb_model.specs.TileFile as file
use Rattle.cdb_model.specs.TileFile.{bits_of, family_row, row_numbers}
use Rattle.cdb_model.specs.ByteLaws.{tile_numbers, IsWrittenTile}

same_head : (side : ℕ) → file.head_bytes side 16 ≡ written.written_head side 16
unfolding file.head_bytes written.written_head
same_head side = refl

same_row : (posts : List ℤ) → file.row_bytes posts ≡ written.written_raster posts
unfolding file.row_bytes
same_row posts = refl

two_rows : (xs ys : List ℤ) → written.written_raster (xs ++ ys) ≡ written.written_raster xs ++ written.written_raster ys
two_rows xs ys = flat_map-append (λ v. little_bytes 2 (cast_unsigned w16 v)) xs ys

-- rows that are spelled one by one are spelled in one
same_raster : (rows : ℕ → List ℤ) (n : ℕ)
    → last_first n (λ r. file.row_bytes (rows r)) ≡ written.written_raster (last_first n rows)
same_raster rows zero = refl
same_raster rows (suc n) =
    ap (λ (l : List ℕ). l ++ last_first n (λ r. file.row_bytes (rows r))) (same_row (rows n))
    ∙ ap (λ (l : List ℕ). written.written_raster (rows n) ++ l) (same_raster rows n)
    ∙ sym (two_rows (rows n) (last_first n rows))

whole : (side : ℕ) (rows : ℕ → List ℤ) → file.head_bytes side 16 ++ last_first side (λ r. file.row_bytes (rows r))
    ≡ written.written_tile side (last_first side rows)
whole side rows = ap (λ (l : List ℕ). l ++ last_first side (λ r. file.row_bytes (rows r))) (same_head side)
    ∙ ap (λ (l : List ℕ). written.written_head side 16 ++ l) (same_raster rows side)

by_family : (f : Family) (side : ℕ) (rows : ℕ → List ℤ) → kind_of f ≡ Elevation
    → file.head_bytes side (bits_of f) ++ last_first side (λ r. family_row f (rows r))
    ≡ written.written_tile side (last_first side rows)
by_family Elev side rows e = whole side rows
by_family Low side rows e = whole side rows
by_family High side rows e = whole side rows
by_family Mat side rows e = cc

same_file : (t : Tile) (ss : List Source) → kind_of t.family ≡ Elevation
    → file.tile_bytes ss t ≡ written.written_tile (tile_side t) (tile_numbers ss t)
unfolding file.tile_bytes
same_file t ss e = by_family t.family (tile_side t) (row_numbers ss t) e

pub rows_length : {A : Type 0} (rows : ℕ → List A) (side n : ℕ) → ((r : ℕ) → length (rows r) ≡ side)
    → length (last_first n rows) ≡ n * side
rows_length rows side zero e = omega arith
rows_length rows side (suc n) e = let rest = rows_length rows side n e in
    let row = e n in omega (arith, length-append (rows n) (last_first n rows), rest, row)

pub written_tiles : IsWrittenTile
written_tiles = record {
  bytes = same_file;
  count = λ t ss. rows_length (row_numbers ss t) (tile_side t) (tile_side t)
      (λ r. length-map-range_with_len (λ col. coded (kind_of t.family) (tile_value ss t r col)) 0 (tile_side t));
}
