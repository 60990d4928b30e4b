-- The indices of both axes put the place in the tile, and a place has one tile.
use Rattle.std.proofs.Common.{◌≡◌, ℕ, ◌+◌, ◌-◌, ◌*◌, ◌<◌, ◌≤◌, Some, sym, ap, subst, arith}
use Rattle.cdb_grid.specs.Units.{degree}
use Rattle.cdb_grid.specs.Tiles.{point_of}
use Rattle.cdb_grid.proofs.TileLaws.{one_tile}
use Rattle.cdb_grid.proofs.locate.tile_at.Goals as goal

from_base : (b base n m k s v w : ℕ) → b ≡ base → m ≡ n → v ≡ w → base * degree ≤ n → k * (v * s) ≤ m - b * degree
    → base * degree + k * (w * s) ≤ n
from_base b base n m k s v w e f g le low =
    let l : k * (w * s) ≤ m - b * degree = subst (λ x. k * (x * s) ≤ m - b * degree) g low in omega arith

to_end : (b base n m k s v w : ℕ) → b ≡ base → m ≡ n → v ≡ w → base * degree ≤ n → m - b * degree < k * (v * s)
    → n < base * degree + k * (w * s)
to_end b base n m k s v w e f g le high =
    let l : m - b * degree < k * (w * s) = subst (λ x. m - b * degree < k * (x * s)) g high in omega arith

from_base_1 : (b base n m k s : ℕ) → b ≡ base → m ≡ n → base * degree ≤ n → k * (1 * s) ≤ m - b * degree
    → base * degree + k * s ≤ n
from_base_1 b base n m k s e f le low = omega arith

to_end_1 : (b base n m k s : ℕ) → b ≡ base → m ≡ n → base * degree ≤ n → m - b * degree < k * (1 * s)
    → n < base * degree + k * s
to_end_1 b base n m k s e f le high = omega arith

pub returns-clause-holds : goal.returns-clause-holds
returns-clause-holds c =
    let cell = c.in_ok-cell.ensures.holds in
    record {
      south = from_base_1 _ _ _ _ _ _ c.row.ensures.value c.north_of.ensures.value cell.south
          c.tile_index-up.ensures.low;
      north = to_end_1 _ _ _ _ _ _ c.row.ensures.value c.north_of.ensures.value cell.south c.tile_index-up.ensures.high;
      west = from_base _ _ _ _ _ _ _ _ c.column.ensures.value c.east_of.ensures.value c.width.ensures.value cell.west
          c.tile_index-right.ensures.low;
      east = to_end _ _ _ _ _ _ _ _ c.column.ensures.value c.east_of.ensures.value c.width.ensures.value cell.west
          c.tile_index-right.ensures.high;
    }

pub returns-clause-only : goal.returns-clause-only
returns-clause-only c = λ t on ef el inside.
    ap Some (one_tile _ t (point_of c.args.lat c.args.lon) (sym ef) (sym el) (returns-clause-holds c) inside)
