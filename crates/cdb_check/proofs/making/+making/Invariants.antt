use Rattle.std.proofs.Common.{ℕ, ◌+◌, ◌*◌, ℤ, [], Option, take}
use Rattle.cdb_grid.specs.Tiles.{tile_height}
use Rattle.cdb_cut.specs.OneTile.{IsFolded}
use Rattle.cdb_cut.specs.FinerTiles.{IsPlain}
use Rattle.cdb_check.proofs.making.+making.Given as goal

abbrev pub decreases-make_tile : goal.decreases-make_tile
decreases-make_tile l = 6 * tile_height l.tile.now + 5

abbrev pub decreases-make_extreme : goal.decreases-make_extreme
decreases-make_extreme l = 6 * tile_height l.tile.now + 4

abbrev pub decreases-make_elevations : goal.decreases-make_elevations
decreases-make_elevations l = 6 * tile_height l.tile.now + 3

abbrev pub decreases-make_own : goal.decreases-make_own
decreases-make_own l = 6 * tile_height l.tile.now + 2

abbrev pub decreases-fold_children : goal.decreases-fold_children
decreases-fold_children l = 6 * tile_height l.tile.now + 1

abbrev pub decreases-fold_child : goal.decreases-fold_child
decreases-fold_child l = 6 * tile_height l.tile.now

abbrev pub invariant-fold_children-loop-child : goal.invariant-fold_children-loop-child
invariant-fold_children-loop-child l = (start : ℕ → ℕ → Option ℤ) → IsPlain l.tile start
    → IsFolded l.sources l.tile start [] l.fn.frame
    → IsFolded l.sources l.tile start (take l.child-index l.finer) l.frame
