-- How long names and paths are.
use Rattle.std.specs.Prelude.{ℕ, ◌≤◌, length}
use Rattle.cdb_grid.specs.declared.tile.Tile.{Tile}
use Rattle.cdb_model.specs.Names.{VersionTile, name, path}

-- the name of a tile has at most 48 bytes
abbrev pub NamesAreShort : Type 0
NamesAreShort = (t : Tile) → length (name t) ≤ 48

-- the path of a version's tile has at most 106 bytes
abbrev pub PathsAreShort : Type 0
PathsAreShort = (x : VersionTile) → length (path x.version x.tile) ≤ 106
