-- Inside the crate: lists of touched tiles.
use Rattle.std.specs.Prelude.{◌↔◌, ◌⊎◌, List, Contains}
use Rattle.cdb_grid.specs.declared.tile.Tile.{Tile}

-- a list has the tiles of another and those of a set
pub record AddsTiles (Member : Tile → Type 0) (before after : List Tile) : Type 0 where
  pub each : (t : Tile) → Contains after t ↔ (Contains before t ⊎ Member t)
