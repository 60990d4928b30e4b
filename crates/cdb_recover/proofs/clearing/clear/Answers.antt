use Rattle.std.proofs.Common.{◌≡◌, ◌+◌, ◌-◌, ℕ, IsTrue, refl, sym, ap, ◌∙◌, subst, arith}
use Rattle.cdb_model.specs.Maps.{Text, IsThere, is_under, NoneUnder, IsFirstUnder}
use Rattle.cdb_model.specs.Stands.{AtMost, Stands}
use Rattle.cdb_files.specs.Disk.{State}
use Rattle.cdb_crash.specs.Crash.{IsClean}
use Rattle.cdb_crash.proofs.Own as own
use Rattle.cdb_recover.specs.inside.Clearing.{IsLeftUnder, RemovesUnder}
use Rattle.cdb_recover.proofs.Removals.{removal-at, one_more, not_more, not_under, one_left}
use Rattle.cdb_recover.proofs.Rounds.{Sofar, Counted, begins, reads, stands, goes, none_counted, one_counted}
use Rattle.cdb_recover.proofs.clearing.clear.Goals as goal

pub rounds-init : goal.rounds-init
rounds-init g c = record {
  going = λ told list is whole. begins g.D.Disk.clock g.D.Disk.since g.D.Disk.state list c.args.disk.now
      (g.met.D.Disk.present_possible c.args.disk.now told) whole;
  counted = λ told. none_counted c.args.folder.now.bytes (g.D.Disk.state c.args.disk.now).present;
  folders = λ told. refl;
  later = omega arith;
  reads = refl;
}

pub returns-in-None-clause-clean : goal.returns-in-None-clause-clean
returns-in-None-clause-clean g c told list is whole =
    let clock = g.D.Disk.clock in let since = g.D.Disk.since in let state = g.D.Disk.state in
    let s = state c.rounds.disk in let folder = c.args.folder.now.bytes in
    let sofar = c.rounds.invariant.going told list is whole in
    let none : NoneUnder s.present folder = rw c.in-None.is at (c.in_ok-first_under.ensures.first told) in
    let N : Text → Type 0 = NoneUnder s.present in
    let C : State → Type 0 = IsClean Stands list in (
      refl,
      subst C (sym c.first_under.ensures.state)
          (own.clearing.ends list (65536 - c.rounds.counter) s sofar.clearing (subst N is none)),
    )

pub returns-in-None-2-clause-clean : goal.returns-in-None-2-clause-clean
returns-in-None-2-clause-clean g c told list is whole =
    let clock = g.D.Disk.clock in let since = g.D.Disk.since in let state = g.D.Disk.state in
    let s = state c.rounds.disk in let folder = c.args.folder.now.bytes in
    let sofar = c.rounds.invariant.going told list is whole in
    let none : NoneUnder s.present folder = rw c.in-None-2.is at (c.in_ok-first_under-2.ensures.first told) in
    let N : Text → Type 0 = NoneUnder s.present in
    let C : State → Type 0 = IsClean Stands list in (
      refl,
      subst C (sym c.first_under-2.ensures.state)
          (own.clearing.ends list (65536 - c.rounds.counter) s sofar.clearing (subst N is none)),
    )

pub returns-in_err-remove_kept-in-Some-clause-moments : goal.returns-in_err-remove_kept-in-Some-clause-moments
returns-in_err-remove_kept-in-Some-clause-moments g c told list is whole =
    let clock = g.D.Disk.clock in let since = g.D.Disk.since in let state = g.D.Disk.state in
    let s = state c.rounds.disk in let folder = c.args.folder.now.bytes in let path = c.in-Some.path.bytes in
    let first : IsFirstUnder s.present folder path = rw c.in-Some.is at (c.in_ok-first_under.ensures.first told) in
    let d = c.first_under.new.self in
    let T : State → Type 0 = λ t. IsThere (t.present path) in
    let U : Text → Type 0 = λ f. IsTrue (is_under f path) in
    let there = subst T (sym c.first_under.ensures.state) first.there in
    let here = g.met.D.Disk.present_possible d told in
    let now = reads clock since state list (65536 - c.rounds.counter) c.args.disk.now c.rounds.disk d
    (c.rounds.invariant.going told list is whole) c.first_under.ensures.state c.first_under.ensures.time in
    stands clock since state list (65536 - c.rounds.counter) c.args.disk.now d c.remove_kept.new.disk path (omega arith)
    here now (subst U is first.under) there (c.remove_kept.ensures.time told)

pub rounds-preserved : goal.rounds-preserved
rounds-preserved g c = record {
  going = λ told list is whole.
      let clock = g.D.Disk.clock in let since = g.D.Disk.since in let state = g.D.Disk.state in
      let s = state c.rounds.disk in let folder = c.args.folder.now.bytes in let path = c.in-Some.path.bytes in
      let first : IsFirstUnder s.present folder path = rw c.in-Some.is at (c.in_ok-first_under.ensures.first told) in
      let d = c.first_under.new.self in
      let T : State → Type 0 = λ t. IsThere (t.present path) in
      let U : Text → Type 0 = λ f. IsTrue (is_under f path) in
      let there = subst T (sym c.first_under.ensures.state) first.there in
      let here = g.met.D.Disk.present_possible d told in
      let now = reads clock since state list (65536 - c.rounds.counter) c.args.disk.now c.rounds.disk d
      (c.rounds.invariant.going told list is whole) c.first_under.ensures.state c.first_under.ensures.time in
      let S : ℕ → Type 0 = λ n. Sofar clock since state list n c.args.disk.now c.remove_kept.new.disk in
      let less : (65536 - c.rounds.counter) - 1 ≡ 65536 - (c.rounds.counter + 1) = omega arith in
      subst S less (goes clock since state list (65536 - c.rounds.counter) c.args.disk.now d c.remove_kept.new.disk path
      (omega arith) here now (subst U is first.under) there
      (c.remove_kept.ensures.time told) (c.in_ok-remove_kept-in-Some.ensures.ok told));
  counted = λ told.
      let clock = g.D.Disk.clock in let since = g.D.Disk.since in let state = g.D.Disk.state in
      let s = state c.rounds.disk in let folder = c.args.folder.now.bytes in let path = c.in-Some.path.bytes in
      let first : IsFirstUnder s.present folder path = rw c.in-Some.is at (c.in_ok-first_under.ensures.first told) in
      let d = c.first_under.new.self in
      let T : State → Type 0 = λ t. IsThere (t.present path) in
      let K : State → Type 0 = λ t. Counted folder (state c.args.disk.now).present t.present c.rounds.counter in
      let there = subst T (sym c.first_under.ensures.state) first.there in
      one_counted folder path (state c.args.disk.now).present (state d).present (state c.remove_kept.new.disk).present
      c.rounds.counter (first.under, there)
      (subst K (sym c.first_under.ensures.state) (c.rounds.invariant.counted told)) (c.remove_kept.ensures.removed told)
      (ap (λ (t : State). t.present path) (c.in_ok-remove_kept-in-Some.ensures.ok told) ∙ removal-at path (state d));
  folders = λ told. c.remove_kept.ensures.folders told
      ∙ ap (λ (t : State). t.made) c.first_under.ensures.state ∙ c.rounds.invariant.folders told;
  later = omega (arith, c.rounds.invariant.later, c.first_under.ensures.cause.later, c.remove_kept.ensures.cause.later);
  reads = c.remove_kept.ensures.reads ∙ c.first_under.ensures.reads ∙ c.rounds.invariant.reads;
}

pub returns-in-Some-2-clause-few : goal.returns-in-Some-2-clause-few
returns-in-Some-2-clause-few g c told most =
    let clock = g.D.Disk.clock in let since = g.D.Disk.since in let state = g.D.Disk.state in
    let s = state c.rounds.disk in let folder = c.args.folder.now.bytes in let path = c.in-Some-2.field-0.bytes in
    let first : IsFirstUnder s.present folder path = rw c.in-Some-2.is at (c.in_ok-first_under-2.ensures.first told) in
    let A : ℕ → Type 0 = λ n. AtMost n (IsLeftUnder folder s.present) in
    let zero : 65536 - c.rounds.counter ≡ 0 = omega (arith, c.rounds-test.false) in
    one_left folder path s.present (first.under, first.there)
    (subst A zero ((c.rounds.invariant.counted told).fewer 65536 most))

pub returns-in_err-first_under-clause-removed : goal.returns-in_err-first_under-clause-removed
returns-in_err-first_under-clause-removed g c told =
    let state = g.D.Disk.state in let disk = c.args.disk.now in let folder = c.args.folder.now.bytes in
    let K : State → Type 0 = λ t. RemovesUnder 65536 folder (state disk).present t.present in
    subst K (sym c.first_under.ensures.state)
    (not_more c.rounds.counter 65536 folder (state disk).present (state c.rounds.disk).present (omega arith)
    (c.rounds.invariant.counted told).removed)

pub returns-in-None-clause-removed : goal.returns-in-None-clause-removed
returns-in-None-clause-removed g c told =
    let state = g.D.Disk.state in let disk = c.args.disk.now in let folder = c.args.folder.now.bytes in
    let K : State → Type 0 = λ t. RemovesUnder 65536 folder (state disk).present t.present in
    subst K (sym c.first_under.ensures.state)
    (not_more c.rounds.counter 65536 folder (state disk).present (state c.rounds.disk).present (omega arith)
    (c.rounds.invariant.counted told).removed)

pub returns-in-None-clause-none : goal.returns-in-None-clause-none
returns-in-None-clause-none g c told =
    let state = g.D.Disk.state in let folder = c.args.folder.now.bytes in
    let N : State → Type 0 = λ t. NoneUnder t.present folder in
    let none : NoneUnder (state c.rounds.disk).present folder =
    rw c.in-None.is at (c.in_ok-first_under.ensures.first told) in
    subst N (sym c.first_under.ensures.state) none

pub returns-in_err-remove_kept-in-Some-clause-removed : goal.returns-in_err-remove_kept-in-Some-clause-removed
returns-in_err-remove_kept-in-Some-clause-removed g c told =
    let state = g.D.Disk.state in let disk = c.args.disk.now in let folder = c.args.folder.now.bytes in
    let s = state c.rounds.disk in let path = c.in-Some.path.bytes in let d = c.first_under.new.self in
    let first : IsFirstUnder s.present folder path = rw c.in-Some.is at (c.in_ok-first_under.ensures.first told) in
    let K : State → Type 0 = λ t. RemovesUnder c.rounds.counter folder (state disk).present t.present in
    not_more (c.rounds.counter + 1) 65536 folder (state disk).present (state c.remove_kept.new.disk).present
    (omega arith)
    (one_more c.rounds.counter folder path (state disk).present (state d).present
    (state c.remove_kept.new.disk).present first.under
    (subst K (sym c.first_under.ensures.state) (c.rounds.invariant.counted told).removed)
    (c.remove_kept.ensures.removed told))

pub returns-in_err-first_under-2-clause-removed : goal.returns-in_err-first_under-2-clause-removed
returns-in_err-first_under-2-clause-removed g c told =
    let state = g.D.Disk.state in let disk = c.args.disk.now in let folder = c.args.folder.now.bytes in
    let K : State → Type 0 = λ t. RemovesUnder 65536 folder (state disk).present t.present in
    subst K (sym c.first_under-2.ensures.state)
    (not_more c.rounds.counter 65536 folder (state disk).present (state c.rounds.disk).present (omega arith)
    (c.rounds.invariant.counted told).removed)

pub returns-in-None-2-clause-removed : goal.returns-in-None-2-clause-removed
returns-in-None-2-clause-removed g c told =
    let state = g.D.Disk.state in let disk = c.args.disk.now in let folder = c.args.folder.now.bytes in
    let K : State → Type 0 = λ t. RemovesUnder 65536 folder (state disk).present t.present in
    subst K (sym c.first_under-2.ensures.state)
    (not_more c.rounds.counter 65536 folder (state disk).present (state c.rounds.disk).present (omega arith)
    (c.rounds.invariant.counted told).removed)

pub returns-in-None-2-clause-none : goal.returns-in-None-2-clause-none
returns-in-None-2-clause-none g c told =
    let state = g.D.Disk.state in let folder = c.args.folder.now.bytes in
    let N : State → Type 0 = λ t. NoneUnder t.present folder in
    let none : NoneUnder (state c.rounds.disk).present folder =
    rw c.in-None-2.is at (c.in_ok-first_under-2.ensures.first told) in
    subst N (sym c.first_under-2.ensures.state) none

pub returns-in-Some-2-clause-removed : goal.returns-in-Some-2-clause-removed
returns-in-Some-2-clause-removed g c told =
    let state = g.D.Disk.state in let disk = c.args.disk.now in let folder = c.args.folder.now.bytes in
    let K : State → Type 0 = λ t. RemovesUnder 65536 folder (state disk).present t.present in
    subst K (sym c.first_under-2.ensures.state)
    (not_more c.rounds.counter 65536 folder (state disk).present (state c.rounds.disk).present (omega arith)
    (c.rounds.invariant.counted told).removed)

pub returns-in-Some-2-clause-none : goal.returns-in-Some-2-clause-none
returns-in-Some-2-clause-none g c told none =
    let state = g.D.Disk.state in let folder = c.args.folder.now.bytes in
    let s = state c.rounds.disk in let path = c.in-Some-2.field-0.bytes in
    let first : IsFirstUnder s.present folder path = rw c.in-Some-2.is at (c.in_ok-first_under-2.ensures.first told) in
    let N : State → Type 0 = λ t. NoneUnder t.present folder in
    not_under folder path s.present first.under first.there (subst N c.first_under-2.ensures.state none)

pub returns-in_err-first_under-clause-folders : goal.returns-in_err-first_under-clause-folders
returns-in_err-first_under-clause-folders g c told =
    ap (λ (t : State). t.made) c.first_under.ensures.state ∙ c.rounds.invariant.folders told

pub returns-in-None-clause-folders : goal.returns-in-None-clause-folders
returns-in-None-clause-folders g c told =
    ap (λ (t : State). t.made) c.first_under.ensures.state ∙ c.rounds.invariant.folders told

pub returns-in_err-first_under-2-clause-folders : goal.returns-in_err-first_under-2-clause-folders
returns-in_err-first_under-2-clause-folders g c told =
    ap (λ (t : State). t.made) c.first_under-2.ensures.state ∙ c.rounds.invariant.folders told

pub returns-in-None-2-clause-folders : goal.returns-in-None-2-clause-folders
returns-in-None-2-clause-folders g c told =
    ap (λ (t : State). t.made) c.first_under-2.ensures.state ∙ c.rounds.invariant.folders told

pub returns-in-Some-2-clause-folders : goal.returns-in-Some-2-clause-folders
returns-in-Some-2-clause-folders g c told =
    ap (λ (t : State). t.made) c.first_under-2.ensures.state ∙ c.rounds.invariant.folders told

pub returns-in_err-remove_kept-in-Some-clause-folders : goal.returns-in_err-remove_kept-in-Some-clause-folders
returns-in_err-remove_kept-in-Some-clause-folders g c told =
    c.remove_kept.ensures.folders told ∙ ap (λ (t : State). t.made) c.first_under.ensures.state
    ∙ c.rounds.invariant.folders told
