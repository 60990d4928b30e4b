-- The bytes of a record of a publication, and of the file HEAD. Numbers of a record stand with the highest byte first,
-- and signed ones in two's complement.
use Rattle.std.specs.Prelude.{ℕ, List, [], ◌∷◌, ◌++◌, length, codes}
use Rattle.std.specs.List.{flat_map}
use Rattle.std.specs.Fmt.{decimal}
use Rattle.std.specs.Int.{w8, w16, to_be_bytes, cast_unsigned}
use Rattle.cdb_grid.specs.declared.family.Family.{Family}
use Rattle.cdb_grid.specs.declared.family.Family.TheVariants.{Elev, Low, High, Mat}
use Rattle.cdb_grid.specs.declared.tile.Tile.{Tile}
use Rattle.cdb_source.specs.declared.head.SourceHead.{SourceHead}
use Rattle.cdb_source.specs.Texts.{count_bytes, head_text}

-- a record begins with these eight bytes: CDBREC1 and a line feed
abbrev pub record_first_bytes : List ℕ
record_first_bytes = codes "CDBREC1" ++ 10 ∷ []

-- the number of a family
abbrev pub family_number : Family → ℕ
family_number Elev = 1
family_number Low = 2
family_number High = 3
family_number Mat = 4

-- the 16 bytes of a tile: its family, level and latitude in a byte each, a zero byte, its longitude in two, two zero
-- bytes, and U and R in four each
unfoldable pub entry_text : Tile → List ℕ
entry_text tile =
    (family_number tile.family ∷ cast_unsigned w8 tile.level.number ∷ cast_unsigned w8 tile.cell.lat ∷ 0 ∷ []) ++
    to_be_bytes w16 (cast_unsigned w16 tile.cell.lon) ++ (0 ∷ 0 ∷ []) ++ count_bytes tile.up ++ count_bytes tile.right

-- the first bytes, the version, and how many sources and tiles there are
abbrev pub version_text : ℕ → List ℕ
version_text version = record_first_bytes ++ count_bytes version

abbrev pub sources_text : ℕ → ℕ → List ℕ
sources_text version sources = version_text version ++ count_bytes sources

abbrev pub record_front_text : ℕ → ℕ → ℕ → List ℕ
record_front_text version sources tiles = sources_text version sources ++ count_bytes tiles

-- the texts of heads, and of tiles, one after another
abbrev pub heads_text : List SourceHead → List ℕ
heads_text heads = flat_map head_text heads

abbrev pub entries_text : List Tile → List ℕ
entries_text tiles = flat_map entry_text tiles

-- a record: its version, the heads of its sources and its tiles
abbrev pub record_text : ℕ → List SourceHead → List Tile → List ℕ
record_text version heads tiles = record_front_text version (length heads) (length tiles) ++ heads_text heads
    ++ entries_text tiles

-- the file HEAD: the number of the newest version in decimal without leading zeros, and a line feed
abbrev pub head_file_text : ℕ → List ℕ
head_file_text version = decimal version ++ 10 ∷ []
