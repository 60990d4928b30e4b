-- The fields of a head, as they stand in the first 52 bytes of a source file.
use Rattle.std.specs.Prelude.{◌≡◌, ℕ, ℤ, List, ◌++◌, get_or, take, drop}
use Rattle.std.specs.Int.{w8, w32, w64, from_be_bytes, cast_signed}
use Rattle.cdb_source.specs.declared.head.SourceHead.{SourceHead}
use Rattle.cdb_source.specs.Texts.{source_first_bytes, kind_number}

-- the number in the four bytes from a place on, and the signed one in eight bytes
abbrev pub count_from : List ℕ → ℕ → ℕ
count_from bytes at = from_be_bytes w32 (take 4 (drop at bytes))

abbrev pub units_from : List ℕ → ℕ → ℤ
units_from bytes at = cast_signed w64 (from_be_bytes w64 (take 8 (drop at bytes)))

-- each field of the head stands at its place
pub record HasHead (bytes : List ℕ) (head : SourceHead) : Type 0 where
  pub first : bytes ≡ source_first_bytes ++ drop 8 bytes
  pub kind : get_or bytes 8 0 ≡ kind_number head.kind
  pub level : cast_signed w8 (get_or bytes 9 0) ≡ head.level.number
  pub zero_10 : get_or bytes 10 0 ≡ 0
  pub zero_11 : get_or bytes 11 0 ≡ 0
  pub rows : count_from bytes 12 ≡ head.rows
  pub cols : count_from bytes 16 ≡ head.cols
  pub lat : units_from bytes 20 ≡ head.lat.units
  pub lon : units_from bytes 28 ≡ head.lon.units
  pub dlat : units_from bytes 36 ≡ head.dlat.units
  pub dlon : units_from bytes 44 ≡ head.dlon.units
