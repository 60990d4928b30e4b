use Rattle.std.proofs.Common.{ℕ, ◌*◌, ap}
use Rattle.cdb_touch.proofs.AxisLaws.{IsFirst, first_of}
use Rattle.cdb_scratch.proofs.PlaceLaws.{multiple_from_first, multiple_below, test_of, of_test}
use Rattle.cdb_scratch.proofs.reach.has_multiple.Goals as goal

pub returns : goal.returns
returns c =
    let first : ℕ = c.div_ceil.result * c.args.step in
    let f : IsFirst c.args.step c.args.low first =
    first_of c.args.step c.args.low first c.requires.step (ap (λ m. m * c.args.step) c.div_ceil.ensures) in (
      (λ t. multiple_from_first c.args.step c.args.low c.args.high first f (of_test first c.args.high t)),
      (λ m. test_of first c.args.high (multiple_below c.args.step c.args.low c.args.high first f m)),
    )
