-- The file of a tile as the reader of TIFF files reads it.
use Rattle.std.specs.Prelude.{◌≡◌, ℕ, ◌+◌, ◌*◌, ◌-◌, ◌<◌, ℤ, pos, List, ◌++◌, length, get_or, All, FitsSigned, None}
use Rattle.std.specs.Int.{w16}
use Rattle.cdb_tiff_write.specs.Samples.{sample_in, frame_in}
use Rattle.cdb_cut.specs.OneTile.{IsFrameOf}
use Rattle.cdb_grid.specs.Tiles.{tile_side}
use Rattle.cdb_grid.specs.declared.tile.Tile.{Tile}
use Rattle.cdb_source.specs.Posts.{IsPost, coded}
use Rattle.cdb_source.specs.Reached.{kind_of, tile_value}
use Rattle.cdb_source.specs.declared.kind.Kind.TheVariants.{Elevation, Material}
use Rattle.cdb_source.specs.declared.source.Source.{Source}
use Rattle.cdb_tiff_base.specs.Causes.{cause_of}
use Rattle.cdb_tiff_base.specs.Pixels.{pixel}
use Rattle.cdb_model.specs.Text.{last_first}
use Rattle.cdb_model.specs.TileFile.{bits_of, head_bytes, row_bytes, small_row_bytes, tile_bytes}

-- the file of a tile of elevations, or of least or greatest ones, isn't refused, and its pixels are the tile's values;
-- rows are counted from the north in the file, and from the south in the tile
pub record TilesAreRead : Type 0 where
  pub accepted : (t : Tile) (ss : List Source) → kind_of t.family ≡ Elevation → cause_of (tile_bytes ss t) ≡ None
  pub pixels : (t : Tile) (ss : List Source) (row col : ℕ) → kind_of t.family ≡ Elevation → row < tile_side t
      → col < tile_side t
      → pixel (tile_bytes ss t) (tile_side t - 1 - row) col ≡ coded Elevation (tile_value ss t row col)

-- the samples of the file of a tile are the tile's values
abbrev pub SamplesAreValues : Type 0
SamplesAreValues = (ss : List Source) (t : Tile) (row col : ℕ) → row < tile_side t → col < tile_side t
    → sample_in (bits_of t.family) (tile_bytes ss t) ((tile_side t - 1 - row) * tile_side t + col)
    ≡ coded (kind_of t.family) (tile_value ss t row col)

-- the frame in the file of a tile has the tile's numbers
abbrev pub FramesAreOfTiles : Type 0
FramesAreOfTiles = (ss : List Source) (t : Tile)
    → IsFrameOf ss t (frame_in (bits_of t.family) (tile_bytes ss t) (tile_side t))

-- the samples of a file whose rows are written one by one, the north row first, are the numbers of the rows
pub record AreReadBack : Type 0 where
  pub sixteen : (side : ℕ) (rows : ℕ → List ℤ) → ((r : ℕ) → length (rows r) ≡ side)
      → ((r : ℕ) → All (FitsSigned w16) (rows r)) → (row col : ℕ) → row < side → col < side
      → sample_in 16 (head_bytes side 16 ++ last_first side (λ r. row_bytes (rows r))) ((side - 1 - row) * side + col)
      ≡ get_or (rows row) col (pos 0)
  pub eight : (side : ℕ) (rows : ℕ → List ℤ) → ((r : ℕ) → length (rows r) ≡ side)
      → ((r : ℕ) → All (IsPost Material) (rows r)) → (row col : ℕ) → row < side → col < side
      → sample_in 8 (head_bytes side 8 ++ last_first side (λ r. small_row_bytes (rows r)))
      ((side - 1 - row) * side + col) ≡ get_or (rows row) col (pos 0)
