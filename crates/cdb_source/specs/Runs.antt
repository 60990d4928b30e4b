-- Posts read from a run of bytes, two to a post, the higher byte first.
use Rattle.std.specs.Prelude.{ℕ, ℤ, pos, ◌&&◌, int_le, if◌then◌else◌, List, take, drop}
use Rattle.std.specs.Int.{w16, from_be_bytes, cast_signed}
use Rattle.cdb_source.specs.declared.kind.Kind.{Kind}
use Rattle.cdb_source.specs.declared.kind.Kind.TheVariants.{Elevation, Material}

-- the number in two bytes from a place on
abbrev pub number_from : List ℕ → ℕ → ℤ
number_from bytes at = cast_signed w16 (from_be_bytes w16 (take 2 (drop at bytes)))

-- the post that a number is read as: a material is from 1 to 255, and any other number has no value
abbrev pub read_as : Kind → ℤ → ℤ
read_as Elevation number = number
read_as Material number = if int_le (pos 1) number && int_le number (pos 255) then number else pos 0
