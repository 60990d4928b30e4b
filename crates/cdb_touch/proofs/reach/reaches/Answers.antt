use Rattle.std.proofs.Common.{◌≡◌, ◌≤◌, ◌≤ℤ◌, rules, arith}
use Rattle.std.proofs.lemmas.Int.{ints}
use Rattle.cdb_grid.specs.Tiles.{tile_height}
use Rattle.cdb_source.specs.Reached.{kind_of, source_height}
use Rattle.cdb_touch.proofs.ReachLaws.{reaches_to, reaches_from, height-order}
use Rattle.cdb_touch.proofs.reach.reaches.Goals as goal

pub returns-then-has_row : goal.returns-then-has_row
returns-then-has_row c =
    let head = c.args.head.now in let t = c.args.tile.now in
    let e : head.kind ≡ kind_of t.family = search rules in
    let order : t.level.number ≤ℤ head.level.number = omega (arith, ints, c.if-head-tile.false) in
    let le : source_height head ≤ tile_height t =
    height-order head.level.number t.level.number head.level.finest t.level.finest order in (
      (λ x. reaches_from head t e le (c.has_row.ensures.0 c.if-has_row.true) (c.has_column.ensures.0 x)),
      (λ r. c.has_column.ensures.1 (reaches_to head t r).1),
    )

pub returns-else-has_row : goal.returns-else-has_row
returns-else-has_row c =
    let head = c.args.head.now in let t = c.args.tile.now in (
      (λ x. let f = c.if-has_row.false in absurd (cc)),
      (λ r. c.has_row.ensures.1 (reaches_to head t r).0),
    )
