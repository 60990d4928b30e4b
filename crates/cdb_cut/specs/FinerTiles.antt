-- What a tile is made from: the finer tiles under it, and what its frame begins with.
use Rattle.std.specs.Prelude.{◌≡◌, ℕ, pos, ◌<ℤ◌, ◌≤ℤ◌, ℤ, List, [], Any, Option, IfSome}
use Rattle.cdb_grid.specs.Children.{HasOneChild, HasFourChildren}
use Rattle.cdb_grid.specs.Grid.{Place}
use Rattle.cdb_grid.specs.Tiles.{IsInTile}
use Rattle.cdb_grid.specs.declared.family.Family.TheVariants.{Elev}
use Rattle.cdb_grid.specs.declared.tile.Tile.{Tile}
use Rattle.cdb_source.specs.Posts.{none_of}
use Rattle.cdb_source.specs.Reached.{kind_of}

-- a list has the finer tiles of a tile, in their order
pub record AreChildren (t : Tile) (items : List Tile) : Type 0 where
  pub none : t.level.number ≡ pos 23 → items ≡ []
  pub one : t.level.number <ℤ pos 0 → HasOneChild t items
  pub four : pos 0 ≤ℤ t.level.number → t.level.number <ℤ pos 23 → HasFourChildren t items
  pub fill : t.level.number <ℤ pos 23 → (p : Place) → IsInTile t p → Any (λ c. IsInTile c p) items

-- no value is the number that stands for none
abbrev pub IsPlain : Tile → (ℕ → ℕ → Option ℤ) → Type 0
IsPlain t start = (row col : ℕ) → IfSome (start row col) (λ v. v ≡ none_of (kind_of t.family) → ⊥)

-- the tile of elevations of the same cells
abbrev pub elevation_tile : Tile → Tile
elevation_tile t = record {
  family = Elev;
  cell = t.cell;
  level = t.level;
  up = t.up;
  right = t.right;
  up_in_range = t.up_in_range;
  right_in_range = t.right_in_range;
}
