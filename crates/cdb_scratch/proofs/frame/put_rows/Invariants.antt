use Rattle.std.proofs.Common.{◌≡◌, ℕ, ◌<◌}
use Rattle.cdb_grid.specs.Tiles.{tile_side}
use Rattle.cdb_source.specs.Reached.{kind_of, tile_value}
use Rattle.cdb_grid.specs.Frames.{number_at}
use Rattle.cdb_source.specs.Posts.{coded}
use Rattle.cdb_scratch.proofs.frame.put_rows.Given as goal

abbrev pub invariant-loop-row : goal.invariant-loop-row
invariant-loop-row l = (row col : ℕ) → row < l.row → col < tile_side l.fn.tile
    → number_at l.frame (tile_side l.fn.tile) row col
    ≡ coded (kind_of l.fn.tile.family) (tile_value l.fn.sources l.fn.tile row col)
