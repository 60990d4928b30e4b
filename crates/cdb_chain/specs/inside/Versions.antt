-- Inside the crate: what contracts see of a chain, and where a tile is found.
use Rattle.std.specs.Prelude.{ℕ, ◌-◌, ◌≤◌, List, Option, Some, None}
use Rattle.std.specs.Prelude.{Contains}
use Rattle.cdb_grid.specs.declared.tile.Tile.{Tile}
use Rattle.cdb_chain.specs.declared.place.Place.{Place}
use Rattle.cdb_chain.specs.Versions.{IsLast, place}

abbrev pub IsPlaced : List Place → ℕ → Tile → Option ℕ → Type 0
IsPlaced index version tile None = (other : ℕ) → other ≤ version → Contains index (place tile other) → ⊥
IsPlaced index version tile (Some found) = IsLast index version tile found
