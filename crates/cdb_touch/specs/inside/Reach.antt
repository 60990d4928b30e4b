-- The rows and the columns of tiles that hold a place of a source's level in its box.
use Rattle.std.specs.Prelude.{◌≡◌, ℕ, ◌+◌, ◌*◌}
use Rattle.cdb_grid.specs.Units.{step, side_of, row_of}
use Rattle.cdb_grid.specs.Tiles.{tile_height}
use Rattle.cdb_grid.specs.declared.family.Family.{Family}
use Rattle.cdb_grid.specs.declared.tile.Tile.{Tile}
use Rattle.cdb_source.specs.declared.head.SourceHead.{SourceHead}
use Rattle.cdb_source.specs.Sample.{corner_of, box_height, box_width}
use Rattle.cdb_source.specs.Reached.{source_height, Reaches}
use Rattle.cdb_touch.specs.inside.Axis.{HasPlaceOnAxis}

-- the row of tiles of a height with this number has a place of the source's level in its box
abbrev pub HasRow : SourceHead → ℕ → ℕ → Type 0
HasRow head h number =
    HasPlaceOnAxis head.kind (step (source_height head))
    (corner_of head).north ((corner_of head).north + box_height head)
    (side_of h * step h) number

-- the same of a column of tiles of a height, where geocells have a width
abbrev pub HasColumn : SourceHead → ℕ → ℕ → ℕ → Type 0
HasColumn head h width number =
    HasPlaceOnAxis head.kind (width * step (source_height head)) (corner_of head).east
    ((corner_of head).east + box_width head) (side_of h * (width * step h)) number

-- a tile of a family that a source reaches
pub record IsOfFamily (head : SourceHead) (family : Family) (t : Tile) : Type 0 where
  pub reaches : Reaches head t
  pub family_is : t.family ≡ family

-- one of a height
pub record IsOfHeight (head : SourceHead) (family : Family) (height : ℕ) (t : Tile) : Type 0 where
  pub reaches : Reaches head t
  pub family_is : t.family ≡ family
  pub height_is : tile_height t ≡ height

-- one of a height in a row of geocells
pub record IsOfRow (head : SourceHead) (family : Family) (height row : ℕ) (t : Tile) : Type 0 where
  pub reaches : Reaches head t
  pub family_is : t.family ≡ family
  pub height_is : tile_height t ≡ height
  pub row_is : row_of t.cell.lat ≡ row
