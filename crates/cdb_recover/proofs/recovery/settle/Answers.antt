use Rattle.std.proofs.Common.{sym, ap, ◌∙◌, subst}
use Rattle.cdb_model.specs.Stands.{Stands}
use Rattle.cdb_files.specs.Disk.{State}
use Rattle.cdb_files.proofs.MomentLaws.{started, rests, then_on}
use Rattle.cdb_crash.specs.Crash.{IsWhole}
use Rattle.cdb_recover.specs.Answers.{HasNoLeftover, RemovesLeftovers}
use Rattle.cdb_recover.proofs.HeadLaws.{newest_is}
use Rattle.cdb_recover.proofs.Recoveries.{keeps_named, ok_of}
use Rattle.cdb_recover.proofs.recovery.settle.Goals as goal

pub returns-in-Ok-clause-clean : goal.returns-in-Ok-clause-clean
returns-in-Ok-clause-clean g c told list whole =
    let clock = g.D.Disk.clock in let since = g.D.Disk.since in let state = g.D.Disk.state in
    let disk = c.args.disk.now in let one = c.newest.new.disk in let two = c.clear_after.new.disk in
    let here = g.met.D.Disk.present_possible disk told in
    let is = newest_is (state disk).present list c.in-Ok.newest (whole.stands (state disk).present here)
    (c.in-Ok.ensures.read told) in
    let W : State → Type 0 = IsWhole Stands list in
    c.clear_after.ensures.clean told list is (subst W (sym c.newest.ensures.state) whole)

pub returns-in-Ok-clause-moments : goal.returns-in-Ok-clause-moments
returns-in-Ok-clause-moments g c told list whole =
    let clock = g.D.Disk.clock in let since = g.D.Disk.since in let state = g.D.Disk.state in
    let disk = c.args.disk.now in let one = c.newest.new.disk in let two = c.clear_after.new.disk in
    let here = g.met.D.Disk.present_possible disk told in
    let is = newest_is (state disk).present list c.in-Ok.newest (whole.stands (state disk).present here)
    (c.in-Ok.ensures.read told) in
    let W : State → Type 0 = IsWhole Stands list in
    then_on clock since disk one two (λ m. Stands m list)
    (rests clock since disk disk one (λ m. Stands m list) (started clock since disk (λ m. Stands m list))
    c.newest.ensures.time)
    (c.clear_after.ensures.moments told list is (subst W (sym c.newest.ensures.state) whole))

pub returns-in-Ok-clause-kept : goal.returns-in-Ok-clause-kept
returns-in-Ok-clause-kept g c told =
    let state = g.D.Disk.state in let two = c.clear_after.new.disk in
    let K : State → Type 0 = λ s. RemovesLeftovers c.in-Ok.newest s.present (state two).present in
    keeps_named c.in-Ok.newest (state c.args.disk.now).present (state two).present (c.in-Ok.ensures.read told)
    (subst K c.newest.ensures.state (c.clear_after.ensures.kept told))

pub returns-in-Ok-clause-left : goal.returns-in-Ok-clause-left
returns-in-Ok-clause-left g c told =
    ok_of c.clear_after.result (HasNoLeftover (g.D.Disk.state c.clear_after.new.disk).present) c.in-Ok.newest
    c.clear_after.ensures.number (c.clear_after.ensures.left told)

pub returns-in-Ok-clause-folders : goal.returns-in-Ok-clause-folders
returns-in-Ok-clause-folders g c told =
    c.clear_after.ensures.folders told ∙ ap (λ (s : State). s.made) c.newest.ensures.state

pub returns-in-Err-clause-folders : goal.returns-in-Err-clause-folders
returns-in-Err-clause-folders g c told = ap (λ (s : State). s.made) c.newest.ensures.state
