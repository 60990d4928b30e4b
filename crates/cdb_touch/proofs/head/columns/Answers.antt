use Rattle.std.proofs.Common.{◌≡◌, ℕ, ◌+◌, ◌*◌, ◌/◌, refl, ◌∙◌, ap, arith}
use Rattle.cdb_grid.specs.Units.{degree, step, side_of, tiles_of, width_at}
use Rattle.cdb_grid.proofs.UnitLaws.{width-dvd}
use Rattle.cdb_source.specs.Sample.{corner_of, box_width}
use Rattle.cdb_source.specs.Reached.{source_height}
use Rattle.cdb_touch.proofs.AxisLaws.{place_same, dvd_same, part_inside}
use Rattle.cdb_touch.proofs.NumberLaws.{columns-fill, wide-extent}
use Rattle.cdb_touch.proofs.ReachLaws.{columns-dvd}
use Rattle.cdb_touch.proofs.head.columns.Goals as goal

wide_by : (v w e x y : ℕ) → v ≡ w → e ≡ x → w * x ≡ y → v * e ≡ y
wide_by v w e x y ev ex ey = ap (λ m. m * e) ev ∙ ap (λ m. w * m) ex ∙ ey

pub with_places-requires-clause-whole : goal.with_places-requires-clause-whole
with_places-requires-clause-whole c =
    let w : ℕ = width_at c.args.row in let h : ℕ = c.args.height in let k : ℕ = source_height c.args.head.now in
    dvd_same (c.width_of_row-width.result * c.step.result) (w * step k) (c.width_of_row-width.result * c.extent.result)
    (side_of h * (w * step h))
    (wide_by c.width_of_row-width.result w c.step.result (step k) (w * step k)
    c.width_of_row-width.ensures.value (c.step.ensures.value ∙ ap step c.height.ensures.value) refl)
    (wide_by c.width_of_row-width.result w c.extent.result (side_of h * step h) (side_of h * (w * step h))
    c.width_of_row-width.ensures.value c.extent.ensures.value (wide-extent w h))
    (columns-dvd (side_of h) w k h c.requires.finer)

pub returns-clause-each : goal.returns-clause-each
returns-clause-each c n lt =
    let w : ℕ = width_at c.args.row in let h : ℕ = c.args.height in let k : ℕ = source_height c.args.head.now in
    let wide : c.width_of_row-width.result * c.extent.result ≡ side_of h * (w * step h) =
    wide_by c.width_of_row-width.result w c.extent.result (side_of h * step h) (side_of h * (w * step h))
    c.width_of_row-width.ensures.value c.extent.ensures.value (wide-extent w h) in
    let fill : 360 / w * tiles_of h * (c.width_of_row-width.result * c.extent.result) ≡ 360 * degree =
    ap (λ m. 360 / w * tiles_of h * m) wide ∙ columns-fill w h c.requires.most (width-dvd c.args.row) in
    place_same c.args.head.now.kind (c.width_of_row-width.result * c.step.result) (w * step k)
    c.west.result (corner_of c.args.head.now).east
    c.east.result ((corner_of c.args.head.now).east + box_width c.args.head.now)
    (c.width_of_row-width.result * c.extent.result) (side_of h * (w * step h)) n _
    (wide_by c.width_of_row-width.result w c.step.result (step k) (w * step k)
    c.width_of_row-width.ensures.value (c.step.ensures.value ∙ ap step c.height.ensures.value) refl)
    c.west.ensures.value c.east.ensures.value
    wide
    (c.with_places.ensures.each n
    (part_inside n (360 / w * tiles_of h) (c.width_of_row-width.result * c.extent.result) (360 * degree) lt fill))

pub returns-clause-within : goal.returns-clause-within
returns-clause-within c =
    let w : ℕ = width_at c.args.row in let h : ℕ = c.args.height in
    let wide : c.width_of_row-width.result * c.extent.result ≡ side_of h * (w * step h) =
    wide_by c.width_of_row-width.result w c.extent.result (side_of h * step h) (side_of h * (w * step h))
    c.width_of_row-width.ensures.value c.extent.ensures.value (wide-extent w h) in
    let fill : 360 / w * tiles_of h * (c.width_of_row-width.result * c.extent.result) ≡ 360 * degree =
    ap (λ m. 360 / w * tiles_of h * m) wide ∙ columns-fill w h c.requires.most (width-dvd c.args.row) in
    c.with_places.ensures.within (360 / w * tiles_of h) (omega arith)
