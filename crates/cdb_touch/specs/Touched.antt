-- Lists of touched tiles.
use Rattle.std.specs.Prelude.{◌≡◌, List, AllPairs}
use Rattle.std.specs.declared.cmp.Ordering.TheVariants.{Less}
use Rattle.cdb_grid.specs.Order.{tile_cmp}
use Rattle.cdb_grid.specs.declared.tile.Tile.{Tile}
use Rattle.cdb_source.specs.declared.head.SourceHead.{SourceHead}
use Rattle.cdb_source.specs.Reached.{IsLoad}
use Rattle.cdb_touch.specs.declared.touch.TouchError.{TouchError}
use Rattle.cdb_touch.specs.declared.touch.TouchError.TheVariants.{Memory, Large}

-- each tile of a list stands before all later ones in the stated order
abbrev pub IsAscending : List Tile → Type 0
IsAscending tiles = AllPairs (λ s t. tile_cmp s t ≡ Less) tiles

-- where an error tells a load, it is the load of the sources
abbrev pub TellsLoad : List SourceHead → TouchError → Type 0
TellsLoad heads Memory = Unit {0}
TellsLoad heads (Large count) = IsLoad heads count
