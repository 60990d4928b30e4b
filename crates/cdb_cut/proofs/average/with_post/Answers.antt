use Rattle.cdb_cut.proofs.MeanLaws.{near_plus}
use Rattle.cdb_cut.proofs.average.with_post.Goals as goal

pub returns-clause-near : goal.returns-clause-near
returns-clause-near c =
    rw c.add_post.ensures
    (near_plus c.args.weight c.args.sum.weight c.args.post c.args.sum.total c.requires.total c.requires.post)
