-- The frame in a file of a tile, by its rows and columns.
use Rattle.std.proofs.Common.{◌≡◌, ℕ, ◌+◌, ◌-◌, ◌*◌, ◌<◌, ℤ, pos, List, map, length, get_or, sym, subst, ap, ◌∙◌, arith}
use Rattle.std.specs.List.{range_with_len}
use Rattle.std.proofs.lemmas.List.FromFn.{length-map-range_with_len, get_or-map-range_with_len}
use Rattle.cdb_grid.specs.Tiles.{tile_side}
use Rattle.cdb_grid.specs.Frames.{number_at}
use Rattle.cdb_grid.specs.declared.tile.Tile.{Tile}
use Rattle.cdb_source.specs.declared.source.Source.{Source}
use Rattle.cdb_cut.specs.OneTile.{IsFrameOf}
use Rattle.cdb_model.specs.TileFile.{bits_of, tile_bytes}
use Rattle.cdb_tiff_write.specs.Samples.{sample_in, frame_in}
use Rattle.cdb_tiff_write.proofs.Read.{number_there}
use Rattle.cdb_tiff_write.proofs.TileSamples.{tile_samples}
use Rattle.cdb_tiff_write.proofs.Written.{rows_length}

module _ (bits : ℕ) (bytes : List ℕ) (side : ℕ) where
  abbrev file_row : ℕ → List ℤ
  file_row row = map (λ col. sample_in bits bytes (row * side + col)) (range_with_len 0 side)

  row_long : (row : ℕ) → length (file_row row) ≡ side
  row_long row = length-map-range_with_len (λ col. sample_in bits bytes (row * side + col)) 0 side

  pub frame_long : length (frame_in bits bytes side) ≡ side * side
  frame_long = rows_length file_row side side row_long

  pub frame_number : (row col : ℕ) → row < side → col < side
      → number_at (frame_in bits bytes side) side row col ≡ sample_in bits bytes ((side - 1 - row) * side + col)
  frame_number row col a b =
      let north : ℕ = side - 1 - row in
      let back : row ≡ side - 1 - north = omega arith in
      ap (λ r. get_or (frame_in bits bytes side) (r * side + col) (pos 0)) back
      ∙ number_there file_row side side north col row_long (omega arith) b
      ∙ get_or-map-range_with_len (λ c. sample_in bits bytes (north * side + c)) 0 side col col (pos 0) b (omega arith)

-- the frame in the file of a tile has the numbers of the tile
pub frame_of_file : (ss : List Source) (t : Tile)
    → IsFrameOf ss t (frame_in (bits_of t.family) (tile_bytes ss t) (tile_side t))
frame_of_file ss t = record {
  size = frame_long (bits_of t.family) (tile_bytes ss t) (tile_side t);
  each = λ row col a b.
      frame_number (bits_of t.family) (tile_bytes ss t) (tile_side t) row col a b ∙ tile_samples ss t row col a b;
}

-- the same by what the program knows of the file
pub frame_read_in : (ss : List Source) (t : Tile) (bytes : List ℕ) (side bits : ℕ)
    → side ≡ tile_side t → bits ≡ bits_of t.family → bytes ≡ tile_bytes ss t → IsFrameOf ss t (frame_in bits bytes side)
frame_read_in ss t bytes side bits es eb e =
    subst (λ n. IsFrameOf ss t (frame_in bits bytes n)) (sym es)
    (subst (λ b. IsFrameOf ss t (frame_in b bytes (tile_side t))) (sym eb)
    (subst (λ l. IsFrameOf ss t (frame_in (bits_of t.family) l (tile_side t))) (sym e) (frame_of_file ss t)))
