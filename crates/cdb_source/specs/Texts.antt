-- The bytes of a source: of its head, and of its whole file. Numbers stand with the highest byte first, and signed ones
-- in two's complement.
use Rattle.std.specs.Prelude.{ℕ, ◌*◌, ℤ, List, [], ◌∷◌, ◌++◌, codes, take, drop}
use Rattle.std.specs.List.{flat_map}
use Rattle.std.specs.Int.{w8, w16, w32, w64, to_be_bytes, cast_unsigned}
use Rattle.cdb_source.specs.declared.kind.Kind.{Kind}
use Rattle.cdb_source.specs.declared.kind.Kind.TheVariants.{Elevation, Material}
use Rattle.cdb_source.specs.declared.head.SourceHead.{SourceHead}
use Rattle.cdb_source.specs.declared.source.Source.{Source}

-- a source file begins with these eight bytes: CDBSRC1 and a line feed
abbrev pub source_first_bytes : List ℕ
source_first_bytes = codes "CDBSRC1" ++ 10 ∷ []

-- the number of a kind
abbrev pub kind_number : Kind → ℕ
kind_number Elevation = 1
kind_number Material = 2

-- the kind, the level in one byte, and two zero bytes
abbrev pub kind_and_level : Kind → ℤ → List ℕ
kind_and_level kind level = kind_number kind ∷ cast_unsigned w8 level ∷ 0 ∷ 0 ∷ []

-- a number of rows or columns in four bytes, and arc units in eight
abbrev pub count_bytes : ℕ → List ℕ
count_bytes n = to_be_bytes w32 n

abbrev pub arc_bytes : ℤ → List ℕ
arc_bytes units = to_be_bytes w64 (cast_unsigned w64 units)

-- the 44 bytes of a head
unfoldable pub head_text : SourceHead → List ℕ
head_text head =
    kind_and_level head.kind head.level.number ++ count_bytes head.rows ++ count_bytes head.cols ++
    arc_bytes head.lat.units ++ arc_bytes head.lon.units ++ arc_bytes head.dlat.units ++ arc_bytes head.dlon.units

-- posts in two bytes each
abbrev pub post_bytes : ℤ → List ℕ
post_bytes post = to_be_bytes w16 (cast_unsigned w16 post)

abbrev pub posts_text : List ℤ → List ℕ
posts_text posts = flat_map post_bytes posts

-- the posts of one row, counted from the south
abbrev pub row_of_posts : Source → ℕ → List ℤ
row_of_posts source r = take source.head.cols (drop (r * source.head.cols) source.posts)

-- the 52 bytes before the posts
abbrev pub source_front_text : SourceHead → List ℕ
source_front_text head = source_first_bytes ++ head_text head

-- the bytes of a source file: the posts stand south row first, each row from west to east
abbrev pub source_text : Source → List ℕ
source_text source = source_front_text source.head ++ posts_text source.posts
