-- The bytes of a tile's file (TIFF 6.0, sections 2 and 8): a head of 186 bytes and the raster.
use Rattle.std.specs.Prelude.{ℕ, ◌*◌, ◌/◌, ℤ, List, [], ◌∷◌, ◌++◌, map, codes, nat_eq, if◌then◌else◌}
use Rattle.std.specs.List.{flat_map, range_with_len}
use Rattle.std.specs.Int.{w8, w16, w32, to_le_bytes, cast_unsigned}
use Rattle.cdb_grid.specs.Tiles.{tile_side}
use Rattle.cdb_grid.specs.declared.family.Family.{Family}
use Rattle.cdb_grid.specs.declared.family.Family.TheVariants.{Elev, Low, High, Mat}
use Rattle.cdb_grid.specs.declared.tile.Tile.{Tile}
use Rattle.cdb_source.specs.Posts.{coded}
use Rattle.cdb_source.specs.Reached.{kind_of, tile_value}
use Rattle.cdb_source.specs.declared.source.Source.{Source}
use Rattle.cdb_model.specs.Text.{last_first}

-- numbers of 16 and of 32 bits, the lowest byte first
abbrev pub short_bytes : ℕ → List ℕ
short_bytes n = to_le_bytes w16 n

abbrev pub long_bytes : ℕ → List ℕ
long_bytes n = to_le_bytes w32 n

-- the types of the values: SHORT has 16 bits and LONG 32; a RATIONAL is two LONGs that stand elsewhere
abbrev pub short : ℕ
short = 3

abbrev pub long : ℕ
long = 4

abbrev pub rational : ℕ
rational = 5

-- the four bytes of an entry's value: a SHORT stands at their left, and of a RATIONAL they hold the byte place
abbrev pub field_of : ℕ → ℕ → List ℕ
field_of type value = if nat_eq type short then short_bytes value ++ 0 ∷ 0 ∷ [] else long_bytes value

-- an entry of the directory: its tag, its type, the count of its values, and the value
abbrev pub tile_entry : ℕ → ℕ → ℕ → ℕ → List ℕ
tile_entry tag type count value = short_bytes tag ++ short_bytes type ++ long_bytes count ++ field_of type value

-- samples of 8 bits are numbers without a sign, others are two's complement
abbrev pub sample_format_of : ℕ → ℕ
sample_format_of bits = if nat_eq bits 8 then 1 else 2

-- the head of a tile by its side in elements and the bits of an element
unfoldable pub head_bytes : ℕ → ℕ → List ℕ
head_bytes side bits =
    -- the byte order, the number 42, the place of the first directory, and how many entries it has
    codes "II" ++ short_bytes 42 ++ long_bytes 8 ++ short_bytes 13
    -- width and length
    ++ tile_entry 256 short 1 side
    ++ tile_entry 257 short 1 side
    -- bits of a sample, no compression, zero is black
    ++ tile_entry 258 short 1 bits
    ++ tile_entry 259 short 1 1
    ++ tile_entry 262 short 1 1
    -- place of the strip, samples of an element, rows of the strip, bytes of the strip
    ++ tile_entry 273 long 1 186
    ++ tile_entry 277 short 1 1
    ++ tile_entry 278 short 1 side
    ++ tile_entry 279 long 1 (side * side * (bits / 8))
    -- resolutions in x and in y, and their unit, which is none
    ++ tile_entry 282 rational 1 170
    ++ tile_entry 283 rational 1 178
    ++ tile_entry 296 short 1 1
    -- how a sample is to be read
    ++ tile_entry 339 short 1 (sample_format_of bits)
    -- no further directory, and the two resolutions, each 1 over 1
    ++ long_bytes 0
    ++ long_bytes 1 ++ long_bytes 1
    ++ long_bytes 1 ++ long_bytes 1

-- a row of the raster: each post in two bytes
unfoldable pub row_bytes : List ℤ → List ℕ
row_bytes posts = flat_map (λ post. short_bytes (cast_unsigned w16 post)) posts

-- a row of the raster of a tile of materials: each post in one byte
unfoldable pub small_row_bytes : List ℤ → List ℕ
small_row_bytes posts = map (cast_unsigned w8) posts

-- ---- the file of a tile

-- the bits of an element
abbrev pub bits_of : Family → ℕ
bits_of Elev = 16
bits_of Low = 16
bits_of High = 16
bits_of Mat = 8

-- a row of the raster of a tile of a family
abbrev pub family_row : Family → List ℤ → List ℕ
family_row Elev posts = row_bytes posts
family_row Low posts = row_bytes posts
family_row High posts = row_bytes posts
family_row Mat posts = small_row_bytes posts

-- the numbers of a row of a tile, counted from the south, from west to east
abbrev pub row_numbers : List Source → Tile → ℕ → List ℤ
row_numbers ss t row = map (λ col. coded (kind_of t.family) (tile_value ss t row col)) (range_with_len 0 (tile_side t))

-- the raster, the north row first
abbrev pub raster_bytes : List Source → Tile → List ℕ
raster_bytes ss t = last_first (tile_side t) (λ row. family_row t.family (row_numbers ss t row))

-- the file of a tile that takes its values from these sources, oldest first
unfoldable pub tile_bytes : List Source → Tile → List ℕ
tile_bytes ss t = head_bytes (tile_side t) (bits_of t.family) ++ raster_bytes ss t
