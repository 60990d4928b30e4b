-- Inside the crate: the stated order of the tiles of a record, and the fields of a tile as they stand in its 16 bytes.
use Rattle.std.specs.Prelude.{◌≡◌, ℕ, List, get_or, take, drop}
use Rattle.std.specs.Int.{w8, w16, w32, from_be_bytes, cast_signed}
use Rattle.cdb_grid.specs.declared.tile.Tile.{Tile}
use Rattle.cdb_model.specs.Records.{family_number}

-- each field of the tile stands at its place
pub record HasTileFields (bytes : List ℕ) (tile : Tile) : Type 0 where
  pub family : get_or bytes 0 0 ≡ family_number tile.family
  pub level : cast_signed w8 (get_or bytes 1 0) ≡ tile.level.number
  pub lat : cast_signed w8 (get_or bytes 2 0) ≡ tile.cell.lat
  pub zero_3 : get_or bytes 3 0 ≡ 0
  pub lon : cast_signed w16 (from_be_bytes w16 (take 2 (drop 4 bytes))) ≡ tile.cell.lon
  pub zero_6 : get_or bytes 6 0 ≡ 0
  pub zero_7 : get_or bytes 7 0 ≡ 0
  pub up : from_be_bytes w32 (take 4 (drop 8 bytes)) ≡ tile.up
  pub right : from_be_bytes w32 (take 4 (drop 12 bytes)) ≡ tile.right
