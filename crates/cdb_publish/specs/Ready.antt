-- The memory that the steps of a publication need.
use Rattle.std.specs.Prelude.{◌≡◌, ℕ, ◌*◌, ◌≤◌, length, slice_get, Some}
use Rattle.cdb_grid.specs.declared.tile.Tile.{Tile}
use Rattle.cdb_publish.specs.Windows.{HasRoom}
use Rattle.cdb_publish.specs.declared.frames.Frames.{Frames}
use Rattle.cdb_publish.specs.declared.plan.Plan.{Plan}
use Rattle.cdb_model.specs.declared.limits.TheConstants.{MOST_TILE_BYTES, MOST_TILE_VALUES}

-- The frames are long enough for each tile of a plan, the earlier one too, and for the rows of its sources that each
-- takes.
pub record IsReady (p : Plan) (f : Frames) : Type 0 where
  pub bytes : MOST_TILE_BYTES ≤ length f.bytes.items
  pub posts : MOST_TILE_VALUES ≤ length f.posts.items
  pub scratch : MOST_TILE_VALUES ≤ length f.scratch.items
  pub row_bytes : 2 * length f.scratch.items ≤ length f.bytes.items
  pub room : (i : ℕ) (t : Tile) → slice_get p.record.tiles i ≡ Some t
      → HasRoom p.record.heads t (length f.scratch.items)
