-- What contracts see of a chain, and where a tile is found.
use Rattle.std.specs.Prelude.{◌≡◌, ℕ, ◌+◌, ◌-◌, ◌≤◌, List, map, slice_get, nat_lt, Option, Some, None}
use Rattle.std.specs.Prelude.{Contains, if◌then◌else◌}
use Rattle.std.specs.List.{flat_map}
use Rattle.std.specs.List.Sorted.{IsPermutation, IsSorted}
use Rattle.std.specs.Ordering.{ordering_then, nat_cmp}
use Rattle.std.specs.declared.cmp.Ordering.{Ordering}
use Rattle.cdb_grid.specs.Order.{tile_cmp}
use Rattle.cdb_grid.specs.declared.tile.Tile.{Tile}
use Rattle.cdb_manifest.specs.declared.record_.Record.{Record}
use Rattle.cdb_chain.specs.declared.place.Place.{Place}

-- the records of the versions from 1 on, and the room for a further one
pub record Versions : Type 0 where
  pub records : List Record
  pub spare : ℕ

-- the record of a version lists the tile
pub record HasTile (records : List Record) (version : ℕ) (tile : Tile) : Type 0 where
  pub item : Record
  pub among : Contains records item
  pub version_is : item.version ≡ version
  pub listed : Contains item.tiles tile

-- the greatest version up to this one that has the tile
pub record IsNewest (records : List Record) (version : ℕ) (tile : Tile) (found : ℕ) : Type 0 where
  pub up_to : found ≤ version
  pub has : HasTile records found tile
  pub greatest : (other : ℕ) → other ≤ version → HasTile records other tile → other ≤ found

-- or that there is none
unfoldable pub IsFound : Versions → ℕ → Tile → Option ℕ → Type 0
IsFound chain version tile None = (other : ℕ) → other ≤ version → HasTile chain.records other tile → ⊥
IsFound chain version tile (Some found) = IsNewest chain.records version tile found

-- ---- how it is kept

-- one more than the places that are left, where there is room for a record
abbrev pub spare_of : ℕ → ℕ → ℕ → ℕ → ℕ
spare_of records room places more = if nat_lt records room then more - places + 1 else 0

abbrev pub places_of : ℕ → List Tile → List Place
places_of version tiles = map (λ (t : Tile). let p : Place = record { tile = t; version = version } in p) tiles

-- a place for each tile of each record
abbrev pub places_in : List Record → List Place
places_in records = flat_map (λ (r : Record). places_of r.version r.tiles) records

abbrev pub place_cmp : Place → Place → Ordering
place_cmp a b = ordering_then (tile_cmp a.tile b.tile) (nat_cmp a.version b.version)

-- the versions go up from 1, at most to 4,096, and the index has each place, in ascending order
pub record AreVersions (records : List Record) (index : List Place) : Type 0 where
  pub numbered : (k : ℕ) (r : Record) → slice_get records k ≡ Some r → r.version ≡ k + 1
  pub all : IsPermutation (places_in records) index
  pub ascending : IsSorted place_cmp index

-- ---- a look-up in the index

abbrev pub place : Tile → ℕ → Place
place tile version = record { tile = tile; version = version }

pub record IsLast (index : List Place) (version : ℕ) (tile : Tile) (found : ℕ) : Type 0 where
  pub up_to : found ≤ version
  pub there : Contains index (place tile found)
  pub greatest : (other : ℕ) → other ≤ version → Contains index (place tile other) → other ≤ found
