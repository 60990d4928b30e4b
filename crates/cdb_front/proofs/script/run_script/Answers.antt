use Rattle.std.proofs.Common.{◌≡◌, ◌^◌, ℕ, List, Option, arith, refl, subst, ◌∙◌}
use Rattle.std.proofs.lemmas.List.{length-take}
use Rattle.cdb_front.specs.Failures.{ReadsOnce, WritesOnce}
use Rattle.cdb_front.specs.inside.Failures.{KeepsFailure}
use Rattle.cdb_front.proofs.RunEnds.{reading_begins, stops_long}
use Rattle.cdb_front.proofs.script.run_script.Goals as goal

pub loop-taken-init : goal.loop-taken-init
loop-taken-init g c = record {
  reading = λ e same most told. reading_begins (g.I.Input.left c.args.input.now) c.new-maker.result
      c.new-maker.ensures told;
  files = refl;
  most = omega arith;
  shelf_later = omega arith;
  disk_later = omega arith;
  input_later = omega arith;
  output_later = omega arith;
  reads = refl;
  place = refl;
  writes = refl;
}

pub returns-in-Stopped-clause-stops : goal.returns-in-Stopped-clause-stops
returns-in-Stopped-clause-stops g c = λ e same most told.
    c.in-Stopped.ensures.turn e (g.I.Input.left c.args.input.now) c.loop-taken.taken
    (c.loop-taken.invariant.files ∙ same) most c.loop-taken-test.true
    (omega (arith, c.min-room.ensures, length-take {A = ℕ} c.min-room.result c.loop-taken.buffer))
    (omega (arith, c.min-room.ensures, length-take {A = ℕ} c.min-room.result c.loop-taken.buffer))
    (c.loop-taken.invariant.reading e same most told)

pub returns-clause-stops : goal.returns-clause-stops
returns-clause-stops g c = λ e same most told.
    let all : c.loop-taken.taken ≡ 2 ^ 32 = omega (arith, c.loop-taken.invariant.most, c.loop-taken-test.false) in
    stops_long (c.loop-taken.invariant.reading e same most told) all

pub returns-in-Stopped-clause-reads : goal.returns-in-Stopped-clause-reads
returns-in-Stopped-clause-reads g c =
    subst (λ (n : ℕ). ReadsOnce c.in-Stopped.status n (g.I.Input.fault_count c.take_turn.new.input))
    c.loop-taken.invariant.reads c.in-Stopped.ensures.reads

pub returns-in-Stopped-clause-writes : goal.returns-in-Stopped-clause-writes
returns-in-Stopped-clause-writes g c =
    subst (λ (n : ℕ). WritesOnce c.in-Stopped.status n (g.O.Output.fault_count c.take_turn.new.output))
    c.loop-taken.invariant.writes c.in-Stopped.ensures.writes

pub returns-in-Stopped-clause-place : goal.returns-in-Stopped-clause-place
returns-in-Stopped-clause-place g c =
    subst (λ (f : Option (List ℕ)). KeepsFailure c.in-Stopped.status f (g.I.Input.failed_at c.take_turn.new.input))
    c.loop-taken.invariant.place c.in-Stopped.ensures.place
