use Rattle.std.proofs.Common.{ℕ, ◌*◌, ◌<◌, ap, arith}
use Rattle.cdb_touch.proofs.AxisLaws.{IsFirst, first_of, holds_to, holds_from}
use Rattle.cdb_touch.proofs.axis.holding.Goals as goal

pub returns-then-first-high-clause-each : goal.returns-then-first-high-clause-each
returns-then-first-high-clause-each c n =
    let first : ℕ = c.div_ceil.result * c.args.step in
    let f : IsFirst c.args.step c.args.low first =
    first_of c.args.step c.args.low first c.requires.step (ap (λ m. m * c.args.step) c.div_ceil.ensures) in (
      (λ m. let t = holds_to c.args.step c.args.low c.args.high c.args.extent first n c.requires.extent f m in
          let lt : first < c.args.high = t.0 in absurd (omega arith)),
      (λ b. let lt : n < 0 = b.1 in absurd (omega arith)),
    )

pub returns-clause-each : goal.returns-clause-each
returns-clause-each c n =
    let first : ℕ = c.div_ceil.result * c.args.step in
    let f : IsFirst c.args.step c.args.low first =
    first_of c.args.step c.args.low first c.requires.step (ap (λ m. m * c.args.step) c.div_ceil.ensures) in (
      (λ m. let t = holds_to c.args.step c.args.low c.args.high c.args.extent first n c.requires.extent f m in
          (t.1, t.2)),
      (λ b. holds_from c.args.step c.args.low c.args.high c.args.extent first n c.requires.extent c.requires.whole f
          c.if-first-high.false b.0 b.1),
    )
