use Rattle.cdb_cut.proofs.MeanLaws.{sum_is}
use Rattle.cdb_cut.proofs.average.add_post.Goals as goal

pub returns-in-Some-Some : goal.returns-in-Some-Some
returns-in-Some-Some c =
    sum_is c.args.weight c.in-Some-Some.total c.in-Some-Some.post c.args.post c.args.total c.requires.weight
    c.if-weight-eq0.false
    c.in-Some-Some.is-0 c.in-Some-Some.is-1 c.requires.total c.requires.post
