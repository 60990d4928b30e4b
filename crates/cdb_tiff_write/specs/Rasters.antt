-- The frame of a tile, the south row first, and the bytes that it becomes.
use Rattle.std.specs.Prelude.{ℕ, ◌+◌, ◌*◌, ◌/◌, ℤ, pos, ◌&&◌, if◌then◌else◌, int_le, List, ◌++◌, map, take, drop}
use Rattle.std.specs.Int.{w8, cast_unsigned}
use Rattle.cdb_grid.specs.Tiles.{tile_side}
use Rattle.cdb_grid.specs.declared.family.Family.{Family}
use Rattle.cdb_grid.specs.declared.family.Family.TheVariants.{Elev, Low, High, Mat}
use Rattle.cdb_grid.specs.declared.tile.Tile.{Tile}
use Rattle.cdb_model.specs.Text.{last_first}
use Rattle.cdb_model.specs.TileFile.{head_bytes, bits_of, row_bytes}
use Rattle.cdb_model.specs.declared.limits.TheConstants.{TILE_HEAD_BYTES}

-- a number of a material in one byte, and any that is none as 0
unfoldable pub octet_of : ℤ → ℕ
octet_of post = if int_le (pos 0) post && int_le post (pos 255) then cast_unsigned w8 post else 0

-- a row of numbers, by the family
abbrev pub laid_row : Family → List ℤ → List ℕ
laid_row Elev posts = row_bytes posts
laid_row Low posts = row_bytes posts
laid_row High posts = row_bytes posts
laid_row Mat posts = map octet_of posts

-- a row of a frame, counted from the south
abbrev pub row_of_frame : ℕ → List ℤ → ℕ → List ℤ
row_of_frame side frame row = take side (drop (row * side) frame)

-- the bytes of a file of a tile whose frame has these numbers
abbrev pub frame_bytes : Tile → List ℤ → List ℕ
frame_bytes t frame = head_bytes (tile_side t) (bits_of t.family) ++ last_first (tile_side t)
    (λ row. laid_row t.family (row_of_frame (tile_side t) frame row))

-- the length of a tile's file: the head, and one or two bytes for each element
abbrev pub tile_size : Tile → ℕ
tile_size t = TILE_HEAD_BYTES + tile_side t * tile_side t * (bits_of t.family / 8)
