use Rattle.std.proofs.Common.{◌≡◌, rules}
use Rattle.std.proofs.lemmas.Int.{to_z-of_z}
use mir.Syntax.{w128}
use mir.Val.{SFits}
use Rattle.cdb_source.specs.Sample.{rounded}
use Rattle.cdb_cut.proofs.MeanLaws.{IsNear, mean_back, back_fits}
use Rattle.cdb_cut.proofs.average.mean.Goals as goal

near : (c : goal.After-quotient) → IsNear c.args.total c.args.weight
near c = record { least = c.requires.weight; most = c.requires.most; near = c.requires.near }

is_rounded : (c : goal.After-quotient) → c.quotient.result ≡ rounded c.args.weight c.args.total
is_rounded c = let fits : SFits w128 c.args.total = search rules in
    rw (to_z-of_z w128 c.args.total fits) at c.quotient.ensures

pub overflow_cast-result : goal.overflow_cast-result
overflow_cast-result c = back_fits c.quotient.result c.args.total c.args.weight (near c) (is_rounded c)

pub returns : goal.returns
returns c = mean_back c.quotient.result c.args.total c.args.weight (near c) (is_rounded c)
