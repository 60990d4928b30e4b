use Rattle.std.proofs.Common.{None, refl, arith}
use Rattle.cdb_model.specs.Images.{Base}
use Rattle.cdb_model.specs.KnownStore.{KnownState}
use Rattle.cdb_model.specs.Stores.{known}
use Rattle.cdb_engine.specs.Stays.{Stays, bare_of}
use Rattle.cdb_engine.specs.Tracks.{Origin}
use Rattle.cdb_front.specs.RunProgress.{RunStart, Holds, base_of}
use Rattle.cdb_front.proofs.Exits.{ended, starts, opens_by, told_begins, told_shut, closed, whole_outcome, nothing_yet, fresh_yet, Shut}
use Rattle.cdb_front.proofs.InTime.{in_time, quits}
use Rattle.cdb_front.proofs.RunEnds.{stops_closed, begins_read, begins_shut, ends_reading, reads_none, says_store, opened_says, opened_is_one, reads_whole, unopened_of_store, unopened_says}
use Rattle.cdb_front.proofs.Staying.{stays_bare, stays_followed}
use Rattle.cdb_front.proofs.opened_run.run_over.Goals as goal

pub returns-in-Ok-clause-outcome : goal.returns-in-Ok-clause-outcome
returns-in-Ok-clause-outcome g c = λ from knows.
    let start = bare_of c.in-Ok.engine in
    let e : RunStart = record {
      files = g.H.Shelf.files c.args.shelf.now;
      shelf = g.H.Shelf.fault_count c.args.shelf.now;
      disk = g.D.Disk.fault_count c.args.disk.now;
      written = g.O.Output.written c.args.output.now;
      from = from;
      opened = g.D.Disk.clock c.open.new.disk;
      start = start;
      most = c.args.most;
    } in
    let origin : Base → Origin = λ base. record { store = base; opened = e.opened; faults = 0 } in
    let First = λ (base : Base). Stays g.D.Disk.tells g.D.Disk.clock g.D.Disk.fault_count g.D.Disk.since
    g.D.Disk.state (origin base) c.open.new.disk c.in-Ok.engine in
    let Last = λ (base : Base). Stays g.D.Disk.tells g.D.Disk.clock g.D.Disk.fault_count g.D.Disk.since
    g.D.Disk.state (origin base) c.run_script-status.new.disk c.run_script-status.new.engine in
    record {
      opened = c.open.new.disk;
      opens = opens_by g.D.Disk.tells g.D.Disk.clock g.D.Disk.since g.D.Disk.state c.args.disk.now c.open.new.disk from
          knows c.open.ensures.moments;
      start = start;
      fresh = c.in-Ok.ensures.fresh;
      outcome = whole_outcome c.run_script-status.result c.end.result (g.D.Disk.clock c.run_script-status.new.disk)
          (g.D.Disk.since c.run_script-status.new.disk) (g.D.Disk.state c.run_script-status.new.disk)
          (λ items answers wrote runs. ended (Holds g.H.Shelf.tells e.files) from c.run_script-status.result items
          answers wrote e.opened (g.D.Disk.clock c.run_script-status.new.disk)
          (g.D.Disk.since c.run_script-status.new.disk)
          (g.D.Disk.state c.run_script-status.new.disk) (λ (base : Base) (s : KnownState). Last base known s)
          (λ base s stays. stays_followed g.D.Disk.tells g.D.Disk.clock g.D.Disk.fault_count g.D.Disk.since
          g.D.Disk.state (origin base) c.run_script-status.new.disk c.run_script-status.new.engine s stays)
          c.run_script-status.ensures.opened runs)
          (c.run_script-status.ensures.stops e refl refl
          (told_begins e (g.D.Disk.fault_count c.open.new.disk) (First (base_of from)) c.open.ensures.later
          (starts g.D.Disk.tells (g.D.Disk.clock c.args.disk.now) (g.D.Disk.state c.args.disk.now) from
          (λ (base : Base) (s : KnownState). First base known s) knows
          (λ base has. c.in-Ok.ensures.follows has.told base 0 has.now has.store (omega arith)))
          (stays_bare g.D.Disk.tells g.D.Disk.clock g.D.Disk.fault_count g.D.Disk.since g.D.Disk.state
          (origin (base_of from)) c.open.new.disk c.in-Ok.engine)))
          c.end.ensures.ends;
      begins = begins_read c.run_script-status.result g.D.Disk.tells (g.D.Disk.state c.args.disk.now).present start
          (λ told. record {
            left = (g.D.Disk.state c.open.new.disk).present;
            records = c.in-Ok.engine.chain.records;
            opened = c.in-Ok.ensures.read told;
            list_is = refl;
          });
      reads = ends_reading c.run_script-status.result (g.I.Input.fault_count c.args.input.now)
          (g.I.Input.fault_count c.run_script-status.new.input) (g.I.Input.left c.run_script-status.new.input)
          (g.I.Input.failed_at c.args.input.now) (g.I.Input.failed_at c.run_script-status.new.input)
          c.run_script-status.ensures.input_failed c.run_script-status.ensures.input_stops
          c.run_script-status.ensures.reads c.run_script-status.ensures.place;
    }

pub returns-in-Err-clause-outcome : goal.returns-in-Err-clause-outcome
returns-in-Err-clause-outcome g c = λ from knows.
    let e : RunStart = record {
      files = g.H.Shelf.files c.args.shelf.now;
      shelf = g.H.Shelf.fault_count c.args.shelf.now;
      disk = g.D.Disk.fault_count c.args.disk.now;
      written = g.O.Output.written c.args.output.now;
      from = from;
      opened = g.D.Disk.clock c.open.new.disk;
      start = nothing_yet;
      most = c.args.most;
    } in
    record {
      opened = c.open.new.disk;
      opens = opens_by g.D.Disk.tells g.D.Disk.clock g.D.Disk.since g.D.Disk.state c.args.disk.now c.open.new.disk from
          knows c.open.ensures.moments;
      start = nothing_yet;
      fresh = fresh_yet;
      outcome = whole_outcome c.open_status.result c.end-in-Err.result (g.D.Disk.clock c.open.new.disk)
          (g.D.Disk.since c.open.new.disk) (g.D.Disk.state c.open.new.disk)
          (λ items answers wrote runs. closed g.D.Disk.tells (Holds g.H.Shelf.tells e.files) g.D.Disk.clock
          g.D.Disk.since g.D.Disk.state c.args.disk.now c.open.new.disk from c.open_status.result items answers wrote
          c.open_status.ensures.closed
          (λ told list early store. unopened_of_store c.in-Err.error c.open_status.result c.open_status.ensures.status
          (c.in-Err.ensures.store told list early store)) knows c.open.ensures.moments
          (g.met.D.Disk.only_now c.args.disk.now)
          (λ m later image. g.met.D.Disk.counts_now c.open.new.disk (g.D.Disk.clock c.args.disk.now) m later image)
          runs)
          (stops_closed c.open_status.result (g.I.Input.left c.args.input.now) (g.O.Output.written c.args.output.now)
          (g.H.Shelf.fault_count c.args.shelf.now) (g.D.Disk.fault_count c.open.new.disk) (Shut from)
          c.open_status.ensures.closed
          (told_shut e (g.D.Disk.fault_count c.open.new.disk) c.open.ensures.later))
          c.end-in-Err.ensures.ends;
      begins = begins_shut c.open_status.result g.D.Disk.tells (g.D.Disk.state c.args.disk.now).present nothing_yet
          c.open_status.ensures.closed;
      reads = reads_none c.open_status.result (g.I.Input.fault_count c.args.input.now) (g.I.Input.left c.args.input.now)
          (g.I.Input.failed_at c.args.input.now) c.open_status.ensures.closed;
    }

pub returns-in-Ok-clause-in_time : goal.returns-in-Ok-clause-in_time
returns-in-Ok-clause-in_time g c = in_time c.end.result ((returns-in-Ok-clause-outcome g c None tt).outcome)

pub returns-in-Ok-clause-quits : goal.returns-in-Ok-clause-quits
returns-in-Ok-clause-quits g c = quits c.end.result ((returns-in-Ok-clause-outcome g c None tt).outcome)

pub returns-in-Err-clause-in_time : goal.returns-in-Err-clause-in_time
returns-in-Err-clause-in_time g c = in_time c.end-in-Err.result ((returns-in-Err-clause-outcome g c None tt).outcome)

pub returns-in-Err-clause-quits : goal.returns-in-Err-clause-quits
returns-in-Err-clause-quits g c = quits c.end-in-Err.result ((returns-in-Err-clause-outcome g c None tt).outcome)

pub returns-in-Ok-clause-no_read_fails : goal.returns-in-Ok-clause-no_read_fails
returns-in-Ok-clause-no_read_fails g c =
    reads_whole c.run_script-status.result c.end.result (g.I.Input.fault_count c.args.input.now)
    (g.I.Input.fault_count c.run_script-status.new.input) c.end.ensures.same c.run_script-status.ensures.reads

pub returns-in-Ok-clause-store : goal.returns-in-Ok-clause-store
returns-in-Ok-clause-store g c =
    says_store g.D.Disk.tells (g.D.Disk.state c.args.disk.now).present _ c.run_script-status.result c.end.result
    c.end.ensures.same
    (opened_says g.D.Disk.tells (g.D.Disk.state c.args.disk.now).present (g.D.Disk.state c.open.new.disk).present
    _ c.in-Ok.engine.chain.records c.run_script-status.result c.in-Ok.ensures.read
    (opened_is_one c.run_script-status.result c.run_script-status.ensures.opened))

pub returns-in-Err-clause-store : goal.returns-in-Err-clause-store
returns-in-Err-clause-store g c =
    says_store g.D.Disk.tells (g.D.Disk.state c.args.disk.now).present _ c.open_status.result c.end-in-Err.result
    c.end-in-Err.ensures.same
    (unopened_says Unit g.D.Disk.tells (g.D.Disk.state c.args.disk.now).present
    (g.D.Disk.state c.open.new.disk).present c.in-Err.error c.open_status.result
    c.open_status.ensures.status c.in-Err.ensures.no_store)
