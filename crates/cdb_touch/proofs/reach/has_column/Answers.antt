use Rattle.std.proofs.Common.{ℕ, ◌↔◌, ◌*◌, ◌/◌, ◌≤◌, ◌<◌, sym, subst}
use Rattle.cdb_grid.specs.Units.{tiles_of, width_at}
use Rattle.cdb_grid.specs.Tiles.{tile_height}
use Rattle.cdb_touch.specs.inside.Numbers.{tile_width, column_number}
use Rattle.cdb_touch.specs.inside.Reach.{HasColumn}
use Rattle.cdb_touch.proofs.NumberLaws.{column_number-below}
use Rattle.cdb_touch.proofs.reach.has_column.Goals as goal

pub returns : goal.returns
returns c =
    let n : ℕ = c.column_number.result in
    let y : ℕ = c.row.result in
    let B : Type 0 = (c.columns.result.first ≤ n) × (n < c.columns.result.end) in
    let below : n < 360 / width_at y * tiles_of c.height.result =
    subst (λ r. n < 360 / width_at r * tiles_of c.height.result) (sym c.row.ensures.value)
    (subst (λ h. n < 360 / tile_width c.args.tile.now * tiles_of h) (sym c.height.ensures.value)
    (subst (λ m. m < 360 / tile_width c.args.tile.now * tiles_of (tile_height c.args.tile.now))
    (sym c.column_number.ensures) (column_number-below c.args.tile.now))) in
    let i : HasColumn c.args.head.now c.height.result (width_at y) n ↔ B = c.columns.ensures.each n below in
    let j : HasColumn c.args.head.now (tile_height c.args.tile.now) (tile_width c.args.tile.now)
    (column_number c.args.tile.now) ↔ B =
    subst (λ r. HasColumn c.args.head.now (tile_height c.args.tile.now) (width_at r) (column_number c.args.tile.now)
    ↔ B) c.row.ensures.value
    (subst (λ h. HasColumn c.args.head.now h (width_at y) (column_number c.args.tile.now) ↔ B) c.height.ensures.value
    (subst (λ m. HasColumn c.args.head.now c.height.result (width_at y) m ↔ B) c.column_number.ensures i)) in
    (λ x. j.1 (c.contains.ensures.0 x), λ r. c.contains.ensures.1 (j.0 r))
