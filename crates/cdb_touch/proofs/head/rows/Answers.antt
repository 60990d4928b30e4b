use Rattle.std.proofs.Common.{◌≡◌, ℕ, ◌+◌, ◌*◌, ◌∙◌, ap, arith}
use Rattle.cdb_grid.specs.Units.{degree, step, side_of, tiles_of}
use Rattle.cdb_source.specs.Sample.{corner_of, box_height}
use Rattle.cdb_source.specs.Reached.{source_height}
use Rattle.cdb_touch.proofs.AxisLaws.{place_same, dvd_same, part_inside}
use Rattle.cdb_touch.proofs.NumberLaws.{rows-fill}
use Rattle.cdb_touch.proofs.ReachLaws.{rows-dvd}
use Rattle.cdb_touch.proofs.head.rows.Goals as goal

pub with_places-requires-clause-whole : goal.with_places-requires-clause-whole
with_places-requires-clause-whole c =
    dvd_same c.step-step.result (step (source_height c.args.head.now))
    c.extent.result (side_of c.args.height * step c.args.height)
    (c.step-step.ensures.value ∙ ap step c.height.ensures.value) c.extent.ensures.value
    (rows-dvd (side_of c.args.height) (source_height c.args.head.now) c.args.height c.requires.finer)

pub returns-clause-each : goal.returns-clause-each
returns-clause-each c n lt =
    let h : ℕ = c.args.height in
    let fill : 180 * tiles_of h * c.extent.result ≡ 180 * degree =
    ap (λ m. 180 * tiles_of h * m) c.extent.ensures.value ∙ rows-fill h c.requires.most in
    place_same c.args.head.now.kind c.step-step.result (step (source_height c.args.head.now))
    c.south.result (corner_of c.args.head.now).north
    c.north.result ((corner_of c.args.head.now).north + box_height c.args.head.now)
    c.extent.result (side_of h * step h) n _
    (c.step-step.ensures.value ∙ ap step c.height.ensures.value) c.south.ensures.value c.north.ensures.value
    c.extent.ensures.value
    (c.with_places.ensures.each n (part_inside n (180 * tiles_of h) c.extent.result (180 * degree) lt fill))

pub returns-clause-within : goal.returns-clause-within
returns-clause-within c =
    let h : ℕ = c.args.height in
    let fill : 180 * tiles_of h * c.extent.result ≡ 180 * degree =
    ap (λ m. 180 * tiles_of h * m) c.extent.ensures.value ∙ rows-fill h c.requires.most in
    c.with_places.ensures.within (180 * tiles_of h) (omega arith)
