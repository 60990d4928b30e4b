use Rattle.std.proofs.Common.{◌≡◌, ℕ, ◌*◌, ◌/◌, ◌%◌, ◌<◌, sym, ◌∙◌, ap, subst, refl}
use Rattle.std.proofs.lemmas.Nat.{div_below}
use Rattle.std.proofs.Math.Nat.{mul-mod_left}
use Rattle.cdb_grid.specs.Units.{tiles_of, width_at}
use Rattle.cdb_grid.proofs.UnitLaws.{width-dvd, width-pos}
use Rattle.cdb_touch.proofs.TileNumbers.{west_within, made_numbers}
use Rattle.cdb_touch.proofs.tiles.tile_at.Goals as goal

pub geocell-requires-clause-column : goal.geocell-requires-clause-column
geocell-requires-clause-column c =
    let n : ℕ = c.tiles-tiles.result in
    let en : n ≡ tiles_of c.args.height = c.tiles-tiles.ensures.value in
    let w : ℕ = width_at (c.args.row / n) in
    let below : c.args.column < 360 / w * n = subst (λ m. c.args.column < 360 / width_at (c.args.row / m) * m)
    (sym en) c.requires.column in
    let q : c.args.column / n < 360 / w = div_below c.args.column n (360 / w) c.tiles-tiles.ensures.least below in
    subst (λ m. c.args.column / n * m < 360) (sym c.width_of_row-width.ensures.value)
    (west_within w (c.args.column / n) (width-dvd (c.args.row / n)) (width-pos (c.args.row / n)) q)

pub geocell-requires-clause-on_grid : goal.geocell-requires-clause-on_grid
geocell-requires-clause-on_grid c =
    let n : ℕ = c.tiles-tiles.result in
    ap (λ m. (c.args.column / n * m) % width_at (c.args.row / n)) c.width_of_row-width.ensures.value
    ∙ mul-mod_left (c.args.column / n) (width_at (c.args.row / n))

pub returns : goal.returns
returns c =
    made_numbers c.args.family c.args.height c.args.row c.args.column c.tiles-tiles.result c.width_of_row-width.result _
    c.tiles-tiles.ensures.value c.width_of_row-width.ensures.value c.width_of_row-width.ensures.least refl
    c.level.ensures
    c.geocell.ensures.row c.geocell.ensures.column refl refl
