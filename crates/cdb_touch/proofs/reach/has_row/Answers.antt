use Rattle.std.proofs.Common.{ℕ, ◌↔◌, ◌*◌, ◌≤◌, ◌<◌, sym, subst}
use Rattle.cdb_grid.specs.Units.{tiles_of}
use Rattle.cdb_grid.specs.Tiles.{tile_height}
use Rattle.cdb_touch.specs.inside.Numbers.{row_number}
use Rattle.cdb_touch.specs.inside.Reach.{HasRow}
use Rattle.cdb_touch.proofs.NumberLaws.{row_number-below}
use Rattle.cdb_touch.proofs.reach.has_row.Goals as goal

pub returns : goal.returns
returns c =
    let n : ℕ = c.row_number.result in
    let B : Type 0 = (c.rows.result.first ≤ n) × (n < c.rows.result.end) in
    let below : n < 180 * tiles_of c.height.result = subst (λ h. n < 180 * tiles_of h) (sym c.height.ensures.value)
    (subst (λ m. m < 180 * tiles_of (tile_height c.args.tile.now)) (sym c.row_number.ensures)
    (row_number-below c.args.tile.now)) in
    let i : HasRow c.args.head.now c.height.result n ↔ B = c.rows.ensures.each n below in
    let j : HasRow c.args.head.now (tile_height c.args.tile.now) (row_number c.args.tile.now) ↔ B =
    subst (λ h. HasRow c.args.head.now h (row_number c.args.tile.now) ↔ B) c.height.ensures.value
    (subst (λ m. HasRow c.args.head.now c.height.result m ↔ B) c.row_number.ensures i) in
    (λ x. j.1 (c.contains.ensures.0 x), λ r. c.contains.ensures.1 (j.0 r))
