-- What the calls of this crate make, over its structs.
use Rattle.std.specs.Prelude.{◌≡◌, ℕ, ℤ, List}
use Rattle.cdb_grid.specs.declared.arc.Arc.{Arc}
use Rattle.cdb_grid.specs.declared.level.Level.{Level}
use Rattle.cdb_source.specs.declared.kind.Kind.{Kind}
use Rattle.cdb_source.specs.declared.head.SourceHead.{SourceHead}

-- the head has these fields
pub record HasFields (head : SourceHead) (kind : Kind) (level : Level) (lat lon dlat dlon : Arc)
    (rows cols : ℕ) : Type 0 where
  pub kind_is : head.kind ≡ kind
  pub level_is : head.level ≡ level
  pub lat_is : head.lat ≡ lat
  pub lon_is : head.lon ≡ lon
  pub dlat_is : head.dlat ≡ dlat
  pub dlon_is : head.dlon ≡ dlon
  pub rows_are : head.rows ≡ rows
  pub cols_are : head.cols ≡ cols

-- a source in the making: its head, the rows still due, and the posts of the rows that came, south row first

pub record Making : Type 0 where
  pub head : SourceHead
  pub due : ℕ
  pub posts : List ℤ
