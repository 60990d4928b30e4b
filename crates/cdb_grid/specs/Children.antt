-- The parent and the children of a tile, as sets of places (OGC CDB 1.2 Volume 1, levels of detail).
use Rattle.std.specs.Prelude.{◌≡◌, ℕ, ◌+◌, ◌*◌, ◌/◌, ◌<◌, pos, ◌+ℤ◌, List, [], ◌∷◌}
use Rattle.cdb_grid.specs.Grid.{Place, beside}
use Rattle.cdb_grid.specs.Tiles.{tile_height, tile_side, element_corner, IsInTile}
use Rattle.cdb_grid.specs.declared.tile.Tile.{Tile}

-- a tile of the next coarser level of the same family has every place of another
pub record IsParent (child parent : Tile) : Type 0 where
  pub family : parent.family ≡ child.family
  pub coarser : parent.level.number +ℤ pos 1 ≡ child.level.number
  pub holds : (p : Place) → IsInTile child p → IsInTile parent p

-- a child begins so many halves of its parent's side to the north and to the east
pub record IsChildAt (north east : ℕ) (parent child : Tile) : Type 0 where
  pub parent_of : IsParent child parent
  pub begins : element_corner child 0 0 ≡
      element_corner parent (north * (tile_side parent / 2)) (east * (tile_side parent / 2))

-- the only child of a tile below level 0 begins where the tile does
pub record HasOneChild (parent : Tile) (children : List Tile) : Type 0 where
  pub child : Tile
  pub are : children ≡ child ∷ []
  pub begins : IsChildAt 0 0 parent child

-- the children of a tile of level 0 to 22, in their order
pub record HasFourChildren (parent : Tile) (children : List Tile) : Type 0 where
  pub south_west : Tile
  pub south_east : Tile
  pub north_west : Tile
  pub north_east : Tile
  pub are : children ≡ south_west ∷ south_east ∷ north_west ∷ north_east ∷ []
  pub at_south_west : IsChildAt 0 0 parent south_west
  pub at_south_east : IsChildAt 0 1 parent south_east
  pub at_north_west : IsChildAt 1 0 parent north_west
  pub at_north_east : IsChildAt 1 1 parent north_east

-- no place lies in both of two tiles
abbrev pub AreApart : Tile → Tile → Type 0
AreApart a b = (p : Place) → IsInTile a p → IsInTile b p → ⊥

-- the elements of a child from a row and a column of its parent on: at even rows and columns they have the parent's
-- corners, and the four from there are the four finer cells of the parent's cell
pub record IsRefined (child parent : Tile) (row col : ℕ) : Type 0 where
  pub corner : (r c : ℕ) → r < tile_side child / 2 → c < tile_side child / 2 →
      element_corner child (2 * r) (2 * c) ≡ element_corner parent (row + r) (col + c)
  pub cells : (r c i j : ℕ) → r < tile_side child / 2 → c < tile_side child / 2 → i < 2 → j < 2 →
      element_corner child (2 * r + i) (2 * c + j) ≡
      beside (tile_height child) (element_corner parent (row + r) (col + c)) i j
