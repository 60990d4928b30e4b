-- Inside the crate: where the newest file of a tile stands, and what stands there.
use Rattle.std.specs.Prelude.{◌≡◌, ℕ, ◌-◌, Bool, true, false, List}
use Rattle.std.specs.Prelude.{Option, Some, None}
use Rattle.cdb_grid.specs.declared.tile.Tile.{Tile}
use Rattle.cdb_source.specs.declared.source.Source.{Source}
use Rattle.cdb_model.specs.Maps.{FileMap}
use Rattle.cdb_model.specs.Names.{path}
use Rattle.cdb_model.specs.TileFile.{tile_bytes}
use Rattle.cdb_cut.specs.Laws.{NoneReaches}
use Rattle.cdb_publish.specs.LookUps.{look}

-- The file that a look-up named has the values that these sources give, or it named none and no source reaches the
-- tile.
abbrev pub IsNamed : FileMap → List Source → Tile → Option ℕ → Type 0
IsNamed m ss t None = NoneReaches ss t
IsNamed m ss t (Some version) = m (path version t) ≡ Some (tile_bytes ss t)

-- What was read, where a file was named.
abbrev pub IsReadFile : List Source → Tile → List ℕ → Bool → Type 0
IsReadFile ss t bytes true = bytes ≡ tile_bytes ss t
IsReadFile ss t bytes false = NoneReaches ss t
