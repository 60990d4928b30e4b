-- The file of a tile: it depends on the sources that reach the tile alone, and the reader of TIFF files knows its form.
use Rattle.std.specs.Prelude.{◌≡◌, ◌*◌, ℤ, List, [], ◌++◌, length, All}
use Rattle.cdb_grid.specs.Tiles.{tile_side}
use Rattle.cdb_grid.specs.declared.tile.Tile.{Tile}
use Rattle.cdb_source.specs.Reached.{Reaches, SameReaching, kind_of}
use Rattle.cdb_source.specs.declared.kind.Kind.TheVariants.{Elevation}
use Rattle.cdb_source.specs.declared.source.Source.{Source}
use Rattle.cdb_tiff_base.specs.WrittenTile as written
use Rattle.cdb_model.specs.Text.{last_first}
use Rattle.cdb_model.specs.TileFile.{row_numbers, tile_bytes}

-- lists with the same reaching sources give the same file; so later sources that don't reach the tile leave its file,
-- and where no source does, the file is the one that no sources give
pub record BytesByReaching : Type 0 where
  pub same : (t : Tile) (ss ts : List Source) → SameReaching t ss ts → tile_bytes ss t ≡ tile_bytes ts t
  pub untouched : (t : Tile) (ss ts : List Source) → All (λ (s : Source). Reaches s.head t → ⊥) ts
      → tile_bytes (ss ++ ts) t ≡ tile_bytes ss t
  pub unreached : (t : Tile) (ss : List Source) → All (λ (s : Source). Reaches s.head t → ⊥) ss
      → tile_bytes ss t ≡ tile_bytes [] t

-- the numbers of a tile, the north row first
abbrev pub tile_numbers : List Source → Tile → List ℤ
tile_numbers ss t = last_first (tile_side t) (row_numbers ss t)

-- the file of a tile of elevations, or of least or greatest ones, is one that the reader of TIFF files is known to
-- read: its head and its numbers in 16 bits, as many as the square of its side
pub record IsWrittenTile : Type 0 where
  pub bytes : (t : Tile) (ss : List Source) → kind_of t.family ≡ Elevation
      → tile_bytes ss t ≡ written.written_tile (tile_side t) (tile_numbers ss t)
  pub count : (t : Tile) (ss : List Source) → length (tile_numbers ss t) ≡ tile_side t * tile_side t
