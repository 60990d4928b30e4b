use Rattle.std.proofs.Common.{◌≡◌, ℕ, ◌<◌}
use Rattle.cdb_source.specs.Reached.{kind_of, tile_value}
use Rattle.cdb_grid.specs.Frames.{number_in}
use Rattle.cdb_source.specs.Posts.{coded}
use Rattle.cdb_scratch.proofs.frame.put_row.Given as goal

abbrev pub invariant-loop-col : goal.invariant-loop-col
invariant-loop-col l = (col : ℕ) → col < l.col → number_in l.part col
    ≡ coded (kind_of l.fn.tile.family) (tile_value l.fn.sources l.fn.tile l.fn.row col)
