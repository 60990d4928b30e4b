-- Tiles are compared as wholes.
use Rattle.std.proofs.Common.{◌≡◌, true, subst}
use Rattle.std.specs.Bool.{Decides}
use Rattle.cdb_grid.specs.declared.tile.Tile.{Tile}
use Rattle.cdb_touch.proofs.OrderLaws.{tile_eq, tile_eq-equiv, tile_eq-exact}

pub same_decides : (s t : Tile) → Decides (tile_eq s t) (s ≡ t)
same_decides s t = (tile_eq-exact s t, λ e. subst (λ u. tile_eq s u ≡ true) e (tile_eq-equiv.refl s))
