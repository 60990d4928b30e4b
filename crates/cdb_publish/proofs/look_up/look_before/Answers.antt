use Rattle.std.proofs.Common.{◌-◌}
use Rattle.cdb_chain.proofs.LookLaws.{found_is}
use Rattle.cdb_publish.proofs.look_up.look_before.Goals as goal

pub returns-clause-named : goal.returns-clause-named
returns-clause-named c = found_is c.args.chain.now (c.args.plan.now.record.version - 1)
    c.args.tile.now c.find.result c.find.ensures.found
