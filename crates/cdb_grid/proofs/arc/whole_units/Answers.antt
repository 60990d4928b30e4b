-- A number of units that is the fraction is the quotient, which the tests then accept.
use Rattle.std.proofs.Common.{◌≡◌, ◌*◌, ◌/◌, ◌∙◌, ap, arith}
use Rattle.cdb_grid.specs.Units.{degree}
use Rattle.cdb_grid.proofs.UnitLaws.{only_quotient}
use Rattle.cdb_grid.proofs.arc.whole_units.Goals as goal
use Rattle.cdb_grid.proofs.arc.whole_units.Goals.{else-units-d-via-then-units-d+else-units, else-units-d-via-else-units-d}

pub returns-else-units-d : goal.returns-else-units-d
returns-else-units-d c = λ u le e.
    let q : c.args.n * degree / c.args.d ≡ u = only_quotient u c.args.d (c.args.n * degree) c.requires e in
    elim c.else-units-d.branch [
      | else-units-d-via-then-units-d+else-units w ↦ let over = w.if-units.false in omega arith
      | else-units-d-via-else-units-d w ↦ w.if-units-d.false (ap (λ n. n * c.args.d) q ∙ e)
    ]
