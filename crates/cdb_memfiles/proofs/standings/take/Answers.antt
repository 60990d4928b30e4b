use Rattle.std.proofs.Common.{sym, Some, None}
use Rattle.cdb_memfiles.proofs.StandingLaws.{shown-update, shown-found}
use Rattle.cdb_memfiles.proofs.standings.take.Goals as goal

pub returns-in-Some-clause-value : goal.returns-in-Some-clause-value
returns-in-Some-clause-value c =
    sym (shown-found c.args.table.now c.args.path.now (Some c.in-Some.standing) c.in-Some.ensures.value)

pub returns-in-Some-clause-rest : goal.returns-in-Some-clause-rest
returns-in-Some-clause-rest c = shown-update c.args.table.now c.remove.new.self c.args.path.now None
    c.remove.ensures.updates

pub returns-in-None-clause-value : goal.returns-in-None-clause-value
returns-in-None-clause-value c = sym (shown-found c.args.table.now c.args.path.now None c.in-None.ensures.value)

pub returns-in-None-clause-rest : goal.returns-in-None-clause-rest
returns-in-None-clause-rest c = shown-update c.args.table.now c.remove.new.self c.args.path.now None
    c.remove.ensures.updates
