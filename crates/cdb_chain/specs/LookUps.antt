-- A look-up as a function of the records.
use Rattle.std.specs.Prelude.{◌≡◌, ℕ, Bool, ◌&&◌, if◌then◌else◌, List, [], ◌∷◌, nat_le, Option, Some, None}
use Rattle.std.specs.List.{list_any}
use Rattle.std.specs.Ordering.{is_eq}
use Rattle.cdb_grid.specs.Order.{tile_cmp}
use Rattle.cdb_grid.specs.declared.tile.Tile.{Tile}
use Rattle.cdb_manifest.specs.declared.record_.Record.{Record}
use Rattle.cdb_chain.specs.Versions.{Versions, IsFound}

-- a tile stands in a list
abbrev pub is_listed : List Tile → Tile → Bool
is_listed tiles t = list_any (λ u. is_eq (tile_cmp u t)) tiles

-- the greater of two versions, where both are there
abbrev pub newer : Option ℕ → Option ℕ → Option ℕ
newer None b = b
newer (Some a) None = Some a
newer (Some a) (Some b) = if nat_le a b then Some b else Some a

-- the greatest version, up to one, of a record that lists the tile
unfoldable pub found_in : ℕ → List Record → Tile → Option ℕ
found_in version [] t = None
found_in version (r ∷ records) t =
    newer (if nat_le r.version version && is_listed r.tiles t then Some r.version else None)
    (found_in version records t)

-- a look-up has one answer
abbrev pub LookUpsAreOne : Type 0
LookUpsAreOne = (chain : Versions) (version : ℕ) (t : Tile) (found : Option ℕ) → IsFound chain version t found
    → found ≡ found_in version chain.records t
