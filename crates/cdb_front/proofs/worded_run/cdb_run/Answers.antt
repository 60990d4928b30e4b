use Rattle.std.proofs.Common.{◌≤◌, inl, inr, refl, arith}
use Rattle.cdb_front.specs.RunProgress.{RunStart, Holds}
use Rattle.cdb_front.specs.declared.exit_status.Status.TheVariants.{Memory}
use Rattle.cdb_front.proofs.Checking.{checks_nothing}
use Rattle.cdb_front.proofs.Exits.{unopened, opens_by, told_shut, whole_outcome, nothing_yet, fresh_yet, Shut}
use Rattle.cdb_front.proofs.Generating.{fills_nothing}
use Rattle.cdb_front.proofs.RunEnds.{stops_closed}
use Rattle.cdb_front.proofs.worded_run.cdb_run.Goals as goal

pub returns-in-Err-Memory-clause-outcome : goal.returns-in-Err-Memory-clause-outcome
returns-in-Err-Memory-clause-outcome g c = λ options is mode from knows.
    let e : RunStart = record {
      files = g.H.Shelf.files c.args.shelf.now;
      shelf = g.H.Shelf.fault_count c.args.shelf.now;
      disk = g.D.Disk.fault_count c.args.disk.now;
      written = g.O.Output.written c.args.output.now;
      from = from;
      opened = g.D.Disk.clock c.args.disk.now;
      start = nothing_yet;
      most = options.background;
    } in
    let same : g.D.Disk.fault_count c.args.disk.now ≤ g.D.Disk.fault_count c.args.disk.now = omega arith in
    record {
      opened = c.args.disk.now;
      opens = opens_by g.D.Disk.tells g.D.Disk.clock g.D.Disk.since g.D.Disk.state c.args.disk.now c.args.disk.now from
          knows (λ told list early store. record { later = omega arith; nothing_else = λ t m earlier was. inl was });
      start = nothing_yet;
      fresh = fresh_yet;
      outcome = whole_outcome Memory c.end.result (g.D.Disk.clock c.args.disk.now) (g.D.Disk.since c.args.disk.now)
          (g.D.Disk.state c.args.disk.now)
          (λ items answers wrote runs. unopened g.D.Disk.tells (Holds g.H.Shelf.tells e.files) g.D.Disk.clock
          g.D.Disk.since g.D.Disk.state c.args.disk.now from Memory items answers wrote tt tt knows
          (g.met.D.Disk.only_now c.args.disk.now) (λ m later image. g.met.D.Disk.counts_now c.args.disk.now
          (g.D.Disk.clock c.args.disk.now) m later image) runs)
          (stops_closed Memory (g.I.Input.left c.args.input.now) (g.O.Output.written c.args.output.now)
          (g.H.Shelf.fault_count c.args.shelf.now) (g.D.Disk.fault_count c.args.disk.now) (Shut from) tt
          (told_shut e (g.D.Disk.fault_count c.args.disk.now) same))
          c.end.ensures.ends;
      begins = tt;
      reads = (refl, refl);
    }

pub returns-in-Err-Memory-clause-checks : goal.returns-in-Err-Memory-clause-checks
returns-in-Err-Memory-clause-checks g c = λ options is mode.
    checks_nothing g.D.Disk.tells g.D.Disk.state g.D.Disk.clock g.D.Disk.since c.args.disk.now
    (g.O.Output.written c.args.output.now) (g.O.Output.written c.end.new.output)
    (g.met.D.Disk.only_now c.args.disk.now) c.end.result c.end.ensures.ends

pub returns-in-Err-Memory-clause-fills : goal.returns-in-Err-Memory-clause-fills
returns-in-Err-Memory-clause-fills g c = λ options is mode.
    fills_nothing g.D.Disk.tells g.D.Disk.state g.D.Disk.clock g.D.Disk.since c.args.disk.now
    (g.met.D.Disk.only_now c.args.disk.now) options.start options.count (g.O.Output.written c.args.output.now)
    (g.O.Output.written c.end.new.output) c.end.result c.end.ensures.ends

pub returns-in-Err-Memory-clause-refused : goal.returns-in-Err-Memory-clause-refused
returns-in-Err-Memory-clause-refused g c = λ none.
    record { disk_is = refl; shelf_is = refl; input_is = refl; says = inr c.end.ensures.ends }

pub returns-in-Err-Usage-clause-refused : goal.returns-in-Err-Usage-clause-refused
returns-in-Err-Usage-clause-refused g c = λ none.
    record { disk_is = refl; shelf_is = refl; input_is = refl; says = inl c.end-in-Err-Usage.ensures.ends }
