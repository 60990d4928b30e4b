use Rattle.cdb_engine.specs.Stays.{bare_of}
use Rattle.cdb_front.specs.declared.exit_status.Status.TheVariants.{Done}
use Rattle.cdb_front.proofs.Generating.{fills_unopened, fills_stopped, fills_all, fills_torn, stopped_is_one, came}
use Rattle.cdb_front.proofs.Generating.{goes_any, begins_fresh, as_made, as_stopped}
use Rattle.cdb_front.proofs.RunEnds.{says_store, opened_says, unopened_says}
use Rattle.cdb_front.proofs.filled_run.fill_over.Goals as goal

pub returns-in-Err-clause-fills : goal.returns-in-Err-clause-fills
returns-in-Err-clause-fills g c =
    let D = g.D.Disk in
    fills_unopened D.tells D.state D.clock D.since c.args.disk.now (g.met.D.Disk.only_now c.args.disk.now) c.args.start
    c.args.count (g.O.Output.written c.args.output.now) (g.O.Output.written c.end.new.output) c.open.new.disk
    c.open.ensures.moments (λ m later image. g.met.D.Disk.counts_now c.open.new.disk (D.clock c.args.disk.now) m later
    image) c.in-Err.error c.open_status.result c.end.result c.open_status.ensures.status c.in-Err.ensures.store
    c.end.ensures.ends

pub returns-in-Err-clause-store : goal.returns-in-Err-clause-store
returns-in-Err-clause-store g c =
    says_store g.D.Disk.tells (g.D.Disk.state c.args.disk.now).present _ c.open_status.result c.end.result
    c.end.ensures.same
    (unopened_says Unit g.D.Disk.tells (g.D.Disk.state c.args.disk.now).present
    (g.D.Disk.state c.open.new.disk).present c.in-Err.error c.open_status.result
    c.open_status.ensures.status c.in-Err.ensures.no_store)

pub returns-in-Ok-say_made-clause-fills : goal.returns-in-Ok-say_made-clause-fills
returns-in-Ok-say_made-clause-fills g c =
    let D = g.D.Disk in
    let last = goes_any D.tells D.state D.clock D.fault_count D.since c.args.disk.now c.open.new.disk
    c.populate.new.disk
    c.in-Ok.engine c.populate.new.engine c.args.start c.args.count (as_made c.in-Ok-populate.made)
    c.in-Ok-populate.ensures.follows
    c.in-Ok.ensures.fresh in
    fills_all D.tells D.state D.clock D.since c.args.disk.now c.open.new.disk c.populate.new.disk c.args.start
    c.args.count (g.O.Output.written c.args.output.now) (g.O.Output.written c.say_made.new.output)
    c.in-Ok-populate.made (bare_of c.in-Ok.engine) last.next
    (begins_fresh D.tells (D.state c.args.disk.now).present (D.state c.open.new.disk).present c.in-Ok.engine
    c.in-Ok.ensures.fresh c.in-Ok.ensures.read) last.step
    (came D.tells D.state D.clock D.fault_count D.since c.args.disk.now c.open.new.disk c.populate.new.disk
    c.in-Ok.engine c.populate.new.engine c.args.start c.args.count (as_made c.in-Ok-populate.made)
    c.in-Ok-populate.ensures.follows
    c.in-Ok.ensures.follows c.open.ensures.moments c.in-Ok-populate.ensures.populates)
    c.in-Ok-say_made.ensures.ok

pub returns-in-Ok-populate-clause-fills : goal.returns-in-Ok-populate-clause-fills
returns-in-Ok-populate-clause-fills g c =
    let D = g.D.Disk in
    let last = goes_any D.tells D.state D.clock D.fault_count D.since c.args.disk.now c.open.new.disk
    c.populate.new.disk
    c.in-Ok.engine c.populate.new.engine c.args.start c.args.count (as_made c.in-Ok-populate.made)
    c.in-Ok-populate.ensures.follows
    c.in-Ok.ensures.fresh in
    fills_torn D.tells D.state D.clock D.since c.args.disk.now c.open.new.disk c.populate.new.disk c.args.start
    c.args.count (g.O.Output.written c.args.output.now) (g.O.Output.written c.say_made.new.output)
    c.in-Ok-populate.made (bare_of c.in-Ok.engine) last.next
    (begins_fresh D.tells (D.state c.args.disk.now).present (D.state c.open.new.disk).present c.in-Ok.engine
    c.in-Ok.ensures.fresh c.in-Ok.ensures.read) last.step
    (came D.tells D.state D.clock D.fault_count D.since c.args.disk.now c.open.new.disk c.populate.new.disk
    c.in-Ok.engine c.populate.new.engine c.args.start c.args.count (as_made c.in-Ok-populate.made)
    c.in-Ok-populate.ensures.follows
    c.in-Ok.ensures.follows c.open.ensures.moments c.in-Ok-populate.ensures.populates)
    c.in-Err-say_made.ensures.err

pub returns-clause-fills : goal.returns-clause-fills
returns-clause-fills g c =
    let D = g.D.Disk in
    let last = goes_any D.tells D.state D.clock D.fault_count D.since c.args.disk.now c.open.new.disk
    c.populate.new.disk
    c.in-Ok.engine c.populate.new.engine c.args.start c.args.count (as_stopped c.in-Err-populate.error)
    c.in-Err-populate.ensures.follows
    c.in-Ok.ensures.fresh in
    fills_stopped D.tells D.state D.clock D.since c.args.disk.now c.open.new.disk c.populate.new.disk c.args.start
    c.args.count (g.O.Output.written c.args.output.now) (g.O.Output.written c.end-in-Err-populate.new.output)
    c.in-Err-populate.error c.fill_status.result c.end-in-Err-populate.result c.fill_status.ensures.status
    (bare_of c.in-Ok.engine) last.next
    (begins_fresh D.tells (D.state c.args.disk.now).present (D.state c.open.new.disk).present c.in-Ok.engine
    c.in-Ok.ensures.fresh c.in-Ok.ensures.read) last.step c.in-Err-populate.ensures.other
    (came D.tells D.state D.clock D.fault_count D.since c.args.disk.now c.open.new.disk c.populate.new.disk
    c.in-Ok.engine c.populate.new.engine c.args.start c.args.count (as_stopped c.in-Err-populate.error)
    c.in-Err-populate.ensures.follows
    c.in-Ok.ensures.follows c.open.ensures.moments c.in-Err-populate.ensures.populates)
    c.end-in-Err-populate.ensures.ends

pub returns-in-Ok-say_made-clause-store : goal.returns-in-Ok-say_made-clause-store
returns-in-Ok-say_made-clause-store g c =
    opened_says g.D.Disk.tells (g.D.Disk.state c.args.disk.now).present (g.D.Disk.state c.open.new.disk).present
    (g.D.Disk.state c.open.new.disk).present c.in-Ok.engine.chain.records Done c.in-Ok.ensures.read
    (λ version place e. cc)

pub returns-clause-store : goal.returns-clause-store
returns-clause-store g c =
    says_store g.D.Disk.tells
    (g.D.Disk.state c.args.disk.now).present _ c.fill_status.result c.end-in-Err-populate.result
    c.end-in-Err-populate.ensures.same
    (opened_says g.D.Disk.tells (g.D.Disk.state c.args.disk.now).present (g.D.Disk.state c.open.new.disk).present
    _ c.in-Ok.engine.chain.records c.fill_status.result c.in-Ok.ensures.read
    (stopped_is_one c.in-Err-populate.error c.fill_status.result c.fill_status.ensures.status))
