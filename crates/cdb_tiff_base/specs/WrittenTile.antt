-- The bytes of a tile file as it is written: a TIFF file of one strip, little endian, whose head has the
-- same places for every tile (TIFF 6.0 section 2).
use Rattle.std.specs.Prelude.{◌≡◌, ℕ, ℤ, ◌*◌, ◌/◌, ◌<◌, ◌≤◌, ◌==◌, if◌then◌else◌, List, [], ◌∷◌, ◌++◌, length, All, FitsSigned}
use Rattle.std.specs.Int.{w16, cast_unsigned}
use Rattle.std.specs.List.{flat_map}
use Rattle.byteorder.specs.Endian.{little_bytes}
use Rattle.cdb_tiff_base.specs.Numbers.{Bytes}

-- an entry with one value, which is a SHORT
abbrev pub short_entry : ℕ → ℕ → Bytes
short_entry tag v = little_bytes 2 tag ++ little_bytes 2 3 ++ little_bytes 4 1 ++ little_bytes 2 v ++ little_bytes 2 0

-- an entry with one value, which is a LONG
abbrev pub long_entry : ℕ → ℕ → Bytes
long_entry tag v = little_bytes 2 tag ++ little_bytes 2 4 ++ little_bytes 4 1 ++ little_bytes 4 v

-- an entry with one value, a RATIONAL that stands at a place
abbrev pub rational_entry : ℕ → ℕ → Bytes
rational_entry tag place = little_bytes 2 tag ++ little_bytes 2 5 ++ little_bytes 4 1 ++ little_bytes 4 place

-- the 186 bytes before the raster of a tile with this side and so many bits in a sample, 16 or 8:
-- the header, 13 entries, the place of no further directory, and two resolutions of 1/1
unfoldable pub written_head : ℕ → ℕ → Bytes
written_head side bits =
    (73 ∷ 73 ∷ 42 ∷ 0 ∷ []) ++ little_bytes 4 8 ++ little_bytes 2 13
    ++ short_entry 256 side ++ short_entry 257 side ++ short_entry 258 bits ++ short_entry 259 1
    ++ short_entry 262 1 ++ long_entry 273 186 ++ short_entry 277 1 ++ short_entry 278 side
    ++ long_entry 279 (side * side * (bits / 8)) ++ rational_entry 282 170 ++ rational_entry 283 178
    ++ short_entry 296 1 ++ short_entry 339 (if bits == 16 then 2 else 1)
    ++ little_bytes 4 0 ++ little_bytes 4 1 ++ little_bytes 4 1 ++ little_bytes 4 1 ++ little_bytes 4 1

-- the bytes of the values of a raster of 16 bits, in two's complement, one after the other
abbrev pub written_raster : List ℤ → Bytes
written_raster values = flat_map (λ v. little_bytes 2 (cast_unsigned w16 v)) values

-- the file of a tile of 16 bits with these values, north row first and each row from west to east
abbrev pub written_tile : ℕ → List ℤ → Bytes
written_tile side values = written_head side 16 ++ written_raster values

-- the values of a raster of 16 bits with this side
pub record IsShortRaster (side : ℕ) (values : List ℤ) : Type 0 where
  pub some : 0 < side
  pub most : side ≤ 1024
  pub count : length values ≡ side * side
  pub fit : All (FitsSigned w16) values
