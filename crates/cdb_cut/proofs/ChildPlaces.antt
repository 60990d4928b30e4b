-- Where a finer tile stands in the coarser tile that holds it.
use Rattle.std.proofs.Common.{◌≡◌, ℕ, ◌+◌, ◌/◌, ◌≤◌, sym, ap, subst, arith}
use Rattle.cdb_grid.specs.Units.{side_of}
use Rattle.cdb_grid.specs.Tiles.{tile_height, tile_side, element_corner}
use Rattle.cdb_grid.specs.Children.{IsParent}
use Rattle.cdb_grid.specs.declared.tile.Tile.{Tile}
use Rattle.cdb_grid.proofs.ChildPlaces.{height-under}
use Rattle.cdb_cut.specs.OneTile.{StandsIn}

-- where a tile stands in its parent, by the clauses of the call that tells it
pub stands_at : (c t : Tile) (row col : ℕ) → IsParent c t
    → ((p : Tile) → IsParent c p → element_corner p row col ≡ element_corner c 0 0)
    → row + tile_side c / 2 ≤ side_of (tile_height c + 1) → col + tile_side c / 2 ≤ side_of (tile_height c + 1)
    → StandsIn c t row col
stands_at c t row col parent begins rows cols =
    let h : tile_height t ≡ tile_height c + 1 = let e = height-under c t parent in omega arith in
    let side : side_of (tile_height c + 1) ≡ tile_side t = ap side_of (sym h) in
    record {
      parent = parent;
      begins = begins t parent;
      row_fits = subst (λ n. row + tile_side c / 2 ≤ n) side rows;
      col_fits = subst (λ n. col + tile_side c / 2 ≤ n) side cols;
    }
