use Rattle.cdb_front.proofs.Checking.{checks_unopened, checks_refused, checks_agreed, checks_torn}
use Rattle.cdb_front.specs.declared.exit_status.Status.TheVariants.{Done}
use Rattle.cdb_front.proofs.RunEnds.{says_store, opened_says, checked_is_one, unopened_says}
use Rattle.cdb_front.proofs.checked_run.check_over.Goals as goal

pub returns-in-Err-clause-checks : goal.returns-in-Err-clause-checks
returns-in-Err-clause-checks g c =
    checks_unopened g.D.Disk.tells g.D.Disk.state g.D.Disk.clock g.D.Disk.since
    c.args.disk.now (g.met.D.Disk.only_now c.args.disk.now) c.open.new.disk c.open.ensures.moments
    (g.O.Output.written c.args.output.now) (g.O.Output.written c.end.new.output)
    (λ m later image. g.met.D.Disk.counts_now c.open.new.disk (g.D.Disk.clock c.args.disk.now) m later image)
    c.in-Err.error c.open_status.result c.end.result c.open_status.ensures.status
    c.in-Err.ensures.store c.end.ensures.ends

pub returns-in-Err-clause-store : goal.returns-in-Err-clause-store
returns-in-Err-clause-store g c =
    says_store g.D.Disk.tells (g.D.Disk.state c.args.disk.now).present _ c.open_status.result c.end.result
    c.end.ensures.same
    (unopened_says Unit g.D.Disk.tells (g.D.Disk.state c.args.disk.now).present
    (g.D.Disk.state c.open.new.disk).present c.in-Err.error c.open_status.result
    c.open_status.ensures.status c.in-Err.ensures.no_store)

pub returns-in-Ok-say_agreed-clause-checks : goal.returns-in-Ok-say_agreed-clause-checks
returns-in-Ok-say_agreed-clause-checks g c =
    checks_agreed g.D.Disk.tells g.D.Disk.state g.D.Disk.clock g.D.Disk.since
    c.args.disk.now (g.met.D.Disk.only_now c.args.disk.now) c.open.new.disk c.open.ensures.moments
    (g.O.Output.written c.args.output.now)
    (g.O.Output.written c.say_agreed.new.output) c.in-Ok.engine c.check.new.disk
    g.D.Disk.fault_count c.in-Ok.ensures.read c.in-Ok.ensures.begins c.check.ensures.looks
    (g.met.D.Disk.only_now c.open.new.disk)
    c.in-Ok-check.agreed c.in-Ok-say_agreed.ensures.ok c.in-Ok-check.ensures.finds c.in-Ok-check.ensures.told
    c.in-Ok-check.ensures.agrees

pub returns-in-Ok-check-clause-checks : goal.returns-in-Ok-check-clause-checks
returns-in-Ok-check-clause-checks g c =
    checks_torn g.D.Disk.tells g.D.Disk.state g.D.Disk.clock g.D.Disk.since
    c.args.disk.now (g.met.D.Disk.only_now c.args.disk.now) c.open.new.disk c.open.ensures.moments
    (g.O.Output.written c.args.output.now)
    (g.O.Output.written c.say_agreed.new.output) c.in-Ok.engine c.check.new.disk
    g.D.Disk.fault_count c.in-Ok.ensures.read c.in-Ok.ensures.begins c.check.ensures.looks
    (g.met.D.Disk.only_now c.open.new.disk)
    c.in-Ok-check.agreed c.in-Err-say_agreed.ensures.err c.in-Ok-check.ensures.finds c.in-Ok-check.ensures.told
    c.in-Ok-check.ensures.agrees

pub returns-clause-checks : goal.returns-clause-checks
returns-clause-checks g c =
    checks_refused g.D.Disk.tells g.D.Disk.state g.D.Disk.clock g.D.Disk.since
    c.args.disk.now (g.met.D.Disk.only_now c.args.disk.now) c.open.new.disk c.open.ensures.moments
    (g.O.Output.written c.args.output.now)
    (g.O.Output.written c.end-in-Err-check.new.output) c.in-Ok.engine c.check.new.disk
    g.D.Disk.fault_count c.in-Ok.ensures.read c.in-Ok.ensures.begins c.check.ensures.looks
    (g.met.D.Disk.only_now c.open.new.disk)
    c.in-Err-check.error c.check_status.result c.end-in-Err-check.result c.check_status.ensures.status
    c.in-Err-check.ensures.finds c.in-Err-check.ensures.agrees c.end-in-Err-check.ensures.ends

pub returns-in-Ok-say_agreed-clause-store : goal.returns-in-Ok-say_agreed-clause-store
returns-in-Ok-say_agreed-clause-store g c =
    opened_says g.D.Disk.tells (g.D.Disk.state c.args.disk.now).present (g.D.Disk.state c.open.new.disk).present
    (g.D.Disk.state c.open.new.disk).present c.in-Ok.engine.chain.records Done c.in-Ok.ensures.read
    (λ version place e. cc)

pub returns-clause-store : goal.returns-clause-store
returns-clause-store g c =
    says_store g.D.Disk.tells (g.D.Disk.state c.args.disk.now).present _ c.check_status.result c.end-in-Err-check.result
    c.end-in-Err-check.ensures.same
    (opened_says g.D.Disk.tells (g.D.Disk.state c.args.disk.now).present (g.D.Disk.state c.open.new.disk).present
    _ c.in-Ok.engine.chain.records c.check_status.result c.in-Ok.ensures.read
    (checked_is_one c.in-Err-check.error c.check_status.result c.check_status.ensures.status))
