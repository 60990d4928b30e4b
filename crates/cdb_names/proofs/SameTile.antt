-- A tile is told by the numbers of its name.
use Rattle.std.proofs.Common.{◌≡◌, ap}
use Rattle.cdb_grid.specs.declared.tile.Tile.{Tile}
use Rattle.cdb_grid.proofs.Same.{same_geocell, same_tile as same_by_parts}
use Rattle.cdb_names.specs.Reading.{Spelled, spelled_tile}

pub same_tile : (a b : Tile) → spelled_tile a ≡ spelled_tile b → a ≡ b
same_tile a b e = same_by_parts a b
    (ap (λ (s : Spelled). s.family) e)
    (same_geocell a.cell b.cell (ap (λ (s : Spelled). s.lat) e) (ap (λ (s : Spelled). s.lon) e))
    (ap (λ (s : Spelled). s.level) e)
    (ap (λ (s : Spelled). s.up) e)
    (ap (λ (s : Spelled). s.right) e)
