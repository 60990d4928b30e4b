-- The stated order of the tiles of a record, and the fields of a tile as they stand in its 16 bytes.
use Rattle.std.specs.Prelude.{◌≡◌, ℕ, ◌≤◌, List, length, AllPairs}
use Rattle.std.specs.declared.cmp.Ordering.TheVariants.{Less}
use Rattle.cdb_grid.specs.Order.{tile_cmp}
use Rattle.cdb_grid.specs.declared.tile.Tile.{Tile}
use Rattle.cdb_source.specs.declared.head.SourceHead.{SourceHead}
use Rattle.cdb_source.specs.declared.limits.TheConstants.{MOST_LOAD}
use Rattle.cdb_model.specs.declared.limits.TheConstants.{MOST_VERSIONS}

-- each tile comes before all later ones
abbrev pub Ascending : List Tile → Type 0
Ascending tiles = AllPairs (λ a b. tile_cmp a b ≡ Less) tiles

-- a version from 1 to 4,096, 1 to 64 heads, and at most 16,384 tiles in the stated order, each once
pub record IsRecord (version : ℕ) (heads : List SourceHead) (tiles : List Tile) : Type 0 where
  pub version_least : 1 ≤ version
  pub version_most : version ≤ MOST_VERSIONS
  pub heads_least : 1 ≤ length heads
  pub heads_most : length heads ≤ 64
  pub tiles_most : length tiles ≤ MOST_LOAD
  pub ordered : Ascending tiles
