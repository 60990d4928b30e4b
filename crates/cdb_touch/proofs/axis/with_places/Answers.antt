use Rattle.std.proofs.Common.{ℕ, ◌↔◌, ◌≤◌, ◌<◌, sym, subst, arith}
use Rattle.cdb_source.specs.declared.kind.Kind.TheVariants.{Elevation, Material}
use Rattle.cdb_touch.specs.inside.Axis.{HasPlaceOnAxis}
use Rattle.cdb_touch.proofs.AxisLaws.{each_place}
use Rattle.cdb_touch.proofs.axis.with_places.Goals as goal

pub returns-in-Elevation-clause-each : goal.returns-in-Elevation-clause-each
returns-in-Elevation-clause-each c n within =
    let r : ℕ × ℕ = (c.holding.result.first, c.holding.result.end) in
    subst (λ k. HasPlaceOnAxis k c.args.step c.args.near c.args.far c.args.extent n ↔ ((r.0 ≤ n) × (n < r.1)))
    (sym c.in-Elevation.is)
    (each_place Elevation c.args.step c.args.near c.args.far c.args.extent c.args.globe c.args.near
    c.min.result r.0 r.1 n
    c.requires.step c.requires.whole (omega arith) c.min.ensures (c.holding.ensures.each n) within)

pub returns-in-Material-clause-each : goal.returns-in-Material-clause-each
returns-in-Material-clause-each c n within =
    let r : ℕ × ℕ = (c.holding-in-Material.result.first, c.holding-in-Material.result.end) in
    subst (λ k. HasPlaceOnAxis k c.args.step c.args.near c.args.far c.args.extent n ↔ ((r.0 ≤ n) × (n < r.1)))
    (sym c.in-Material.is)
    (each_place Material c.args.step c.args.near c.args.far c.args.extent c.args.globe c.saturating_sub.result
    c.saturating_sub-in-Material.result r.0 r.1 n
    c.requires.step c.requires.whole c.saturating_sub.ensures c.saturating_sub-in-Material.ensures
    (c.holding-in-Material.ensures.each n) within)
