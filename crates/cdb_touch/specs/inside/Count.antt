-- How many tiles a set has.
use Rattle.std.specs.Prelude.{◌≡◌, ℕ, List, length}
use Rattle.cdb_grid.specs.declared.tile.Tile.{Tile}
use Rattle.cdb_source.specs.Reached.{ListsOnce}

-- some list has each tile of the set once, and so many tiles in all
pub record HasCount (Member : Tile → Type 0) (count : ℕ) : Type 0 where
  pub tiles : List Tile
  pub listed : ListsOnce Member tiles
  pub counted : length tiles ≡ count
