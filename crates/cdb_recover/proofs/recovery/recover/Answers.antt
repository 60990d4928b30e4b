use Rattle.std.proofs.Common.{◌++◌, ◌∷◌, [], ◌∙◌, subst}
use Rattle.cdb_model.specs.Maps.{FileMap}
use Rattle.cdb_model.specs.Stands.{Stands}
use Rattle.cdb_files.proofs.MomentLaws.{then_on}
use Rattle.cdb_crash.specs.Crash.{IsEither}
use Rattle.cdb_recover.specs.Answers.{IsAnswer, KeepsStore}
use Rattle.cdb_recover.proofs.HeadLaws.{store_faults}
use Rattle.cdb_recover.proofs.Recoveries.{same_present, root_synced, whole_after, old_after, new_after, either_after}
use Rattle.cdb_recover.proofs.recovery.recover.Goals as goal

pub returns-in-Ok-clause-clean : goal.returns-in-Ok-clause-clean
returns-in-Ok-clause-clean g c told list whole =
    let clock = g.D.Disk.clock in let since = g.D.Disk.since in let state = g.D.Disk.state in
    let disk = c.args.disk.now in let one = c.sync_root.new.disk in let two = c.settle.new.disk in
    let here = g.met.D.Disk.present_possible disk told in
    c.settle.ensures.clean told list (whole_after clock since state disk one here list whole (c.in-Ok.ensures.ok told))

pub returns-in-Ok-clause-moments : goal.returns-in-Ok-clause-moments
returns-in-Ok-clause-moments g c told list whole =
    let clock = g.D.Disk.clock in let since = g.D.Disk.since in let state = g.D.Disk.state in
    let disk = c.args.disk.now in let one = c.sync_root.new.disk in let two = c.settle.new.disk in
    let here = g.met.D.Disk.present_possible disk told in
    then_on clock since disk one two (λ m. Stands m list)
    (root_synced clock since state disk one here (λ m. Stands m list) whole.stands (c.sync_root.ensures.time told))
    (c.settle.ensures.moments told list
    (whole_after clock since state disk one here list whole (c.in-Ok.ensures.ok told)))

pub returns-in-Ok-clause-fault_old : goal.returns-in-Ok-clause-fault_old
returns-in-Ok-clause-fault_old g c told list x faulted stands =
    let clock = g.D.Disk.clock in let since = g.D.Disk.since in let state = g.D.Disk.state in
    let disk = c.args.disk.now in let one = c.sync_root.new.disk in let two = c.settle.new.disk in
    let here = g.met.D.Disk.present_possible disk told in
    c.settle.ensures.clean told list
    (old_after clock since state disk one here list x faulted stands (c.in-Ok.ensures.ok told))

pub returns-in-Ok-clause-fault_new : goal.returns-in-Ok-clause-fault_new
returns-in-Ok-clause-fault_new g c told list x faulted stands =
    let clock = g.D.Disk.clock in let since = g.D.Disk.since in let state = g.D.Disk.state in
    let disk = c.args.disk.now in let one = c.sync_root.new.disk in let two = c.settle.new.disk in
    let here = g.met.D.Disk.present_possible disk told in
    c.settle.ensures.clean told (list ++ x ∷ [])
    (new_after clock since state disk one here list x faulted stands (c.in-Ok.ensures.ok told))

pub returns-in-Ok-clause-fault_moments : goal.returns-in-Ok-clause-fault_moments
returns-in-Ok-clause-fault_moments g c told list x faulted =
    let clock = g.D.Disk.clock in let since = g.D.Disk.since in let state = g.D.Disk.state in
    let disk = c.args.disk.now in let one = c.sync_root.new.disk in let two = c.settle.new.disk in
    let here = g.met.D.Disk.present_possible disk told in
    either_after clock since state disk one here list x two faulted (c.in-Ok.ensures.ok told)
    (c.sync_root.ensures.time told) (λ Q whole. c.settle.ensures.moments told Q whole)

pub returns-in-Ok-clause-answer : goal.returns-in-Ok-clause-answer
returns-in-Ok-clause-answer g c told =
    let clock = g.D.Disk.clock in let since = g.D.Disk.since in let state = g.D.Disk.state in
    let disk = c.args.disk.now in let one = c.sync_root.new.disk in let two = c.settle.new.disk in
    let here = g.met.D.Disk.present_possible disk told in
    let A : FileMap → Type 0 = λ m. IsAnswer m c.settle.result in
    subst A (same_present clock since state disk one here (c.in-Ok.ensures.ok told)) (c.settle.ensures.answer told)

pub returns-in-Ok-clause-store : goal.returns-in-Ok-clause-store
returns-in-Ok-clause-store g c told list stands =
    let clock = g.D.Disk.clock in let since = g.D.Disk.since in let state = g.D.Disk.state in
    let disk = c.args.disk.now in let one = c.sync_root.new.disk in let two = c.settle.new.disk in
    let here = g.met.D.Disk.present_possible disk told in
    let A : FileMap → Type 0 = λ m. IsAnswer m c.settle.result in
    store_faults (state disk).present list c.settle.result stands
    (subst A (same_present clock since state disk one here (c.in-Ok.ensures.ok told)) (c.settle.ensures.answer told))

pub returns-in-Ok-clause-kept : goal.returns-in-Ok-clause-kept
returns-in-Ok-clause-kept g c told =
    let clock = g.D.Disk.clock in let since = g.D.Disk.since in let state = g.D.Disk.state in
    let disk = c.args.disk.now in let one = c.sync_root.new.disk in let two = c.settle.new.disk in
    let here = g.met.D.Disk.present_possible disk told in
    let K : FileMap → Type 0 = λ m. KeepsStore m (state two).present in
    subst K (same_present clock since state disk one here (c.in-Ok.ensures.ok told)) (c.settle.ensures.kept told)

pub returns-in-Err-clause-moments : goal.returns-in-Err-clause-moments
returns-in-Err-clause-moments g c told list whole =
    let clock = g.D.Disk.clock in let since = g.D.Disk.since in let state = g.D.Disk.state in
    let disk = c.args.disk.now in let one = c.sync_root.new.disk in
    let here = g.met.D.Disk.present_possible disk told in
    root_synced clock since state disk one here (λ m. Stands m list) whole.stands (c.sync_root.ensures.time told)

pub returns-in-Err-clause-fault_moments : goal.returns-in-Err-clause-fault_moments
returns-in-Err-clause-fault_moments g c told list x faulted =
    let clock = g.D.Disk.clock in let since = g.D.Disk.since in let state = g.D.Disk.state in
    let disk = c.args.disk.now in let one = c.sync_root.new.disk in
    let here = g.met.D.Disk.present_possible disk told in
    root_synced clock since state disk one here (IsEither Stands list x) faulted.either (c.sync_root.ensures.time told)

pub returns-in-Ok-clause-folders : goal.returns-in-Ok-clause-folders
returns-in-Ok-clause-folders g c told = c.settle.ensures.folders told ∙ c.sync_root.ensures.folders told
