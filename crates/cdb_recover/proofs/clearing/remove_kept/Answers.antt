use Rattle.std.proofs.Common.{sym, ap, ◌∙◌, subst}
use Rattle.cdb_model.specs.Maps.{FileMap}
use Rattle.cdb_files.specs.Disk.{State, after_remove}
use Rattle.cdb_files.proofs.StateLaws.{remove-only, sync_dir-present}
use Rattle.cdb_files.proofs.WholeLaws.{begun, onward_ok, onward_err}
use Rattle.cdb_recover.specs.inside.Clearing.{RemovesOne}
use Rattle.cdb_recover.proofs.Removals.{then_synced, removes, fails_removes, removal-made, sync_dir-made}
use Rattle.cdb_recover.proofs.clearing.remove_kept.Goals as goal

pub returns-in_err-remove-clause-time : goal.returns-in_err-remove-clause-time
returns-in_err-remove-clause-time g c told =
    let p = c.args.path.now.bytes in let clock = g.D.Disk.clock in let since = g.D.Disk.since in
    let state = g.D.Disk.state in
    let disk = c.args.disk.now in let one = c.remove.new.self in
    (onward_err clock since state p disk disk one (after_remove p (state disk)) (begun clock since state p disk)
    (remove-only p (state disk)) (c.remove.ensures.time told) (c.in_err-remove.ensures.err told)).time

pub returns-in_err-sync_dir-clause-time : goal.returns-in_err-sync_dir-clause-time
returns-in_err-sync_dir-clause-time g c told =
    let p = c.args.path.now.bytes in let clock = g.D.Disk.clock in let since = g.D.Disk.since in
    let state = g.D.Disk.state in
    let disk = c.args.disk.now in let one = c.remove.new.self in
    let removed = onward_ok clock since state p disk disk one (after_remove p (state disk))
    (begun clock since state p disk)
    (remove-only p (state disk)) (c.remove.ensures.time told) (c.in_ok-remove.ensures.ok told) in
    then_synced clock since state p c.folder_above-folder.result.bytes disk one c.sync_dir.new.self
    (g.met.D.Disk.present_possible one told) removed (c.sync_dir.ensures.time told)

pub returns-clause-time : goal.returns-clause-time
returns-clause-time g c told =
    let p = c.args.path.now.bytes in let clock = g.D.Disk.clock in let since = g.D.Disk.since in
    let state = g.D.Disk.state in
    let disk = c.args.disk.now in let one = c.remove.new.self in
    let removed = onward_ok clock since state p disk disk one (after_remove p (state disk))
    (begun clock since state p disk)
    (remove-only p (state disk)) (c.remove.ensures.time told) (c.in_ok-remove.ensures.ok told) in
    then_synced clock since state p c.folder_above-folder.result.bytes disk one c.sync_dir.new.self
    (g.met.D.Disk.present_possible one told) removed (c.sync_dir.ensures.time told)

pub returns-in_err-remove-clause-removed : goal.returns-in_err-remove-clause-removed
returns-in_err-remove-clause-removed g c told =
    let state = g.D.Disk.state in
    fails_removes c.args.path.now.bytes (state c.args.disk.now) (state c.remove.new.self)
    (c.in_err-remove.ensures.err told)

pub returns-in_err-sync_dir-clause-removed : goal.returns-in_err-sync_dir-clause-removed
returns-in_err-sync_dir-clause-removed g c told =
    let p = c.args.path.now.bytes in let state = g.D.Disk.state in let disk = c.args.disk.now in
    let S : State → Type 0 = λ s. RemovesOne p (state disk).present s.present in
    subst S (sym (c.in_err-sync_dir.ensures.err told ∙ c.in_ok-remove.ensures.ok told)) (removes p (state disk))

pub returns-clause-removed : goal.returns-clause-removed
returns-clause-removed g c told =
    let p = c.args.path.now.bytes in let state = g.D.Disk.state in let disk = c.args.disk.now in
    let one = c.remove.new.self in
    let S : State → Type 0 = λ s. RemovesOne p (state disk).present s.present in
    let M : FileMap → Type 0 = RemovesOne p (state disk).present in
    subst M (sym (ap (λ (s : State). s.present) (c.in_ok-sync_dir.ensures.ok told)
    ∙ sync_dir-present c.folder_above-folder.result.bytes (state one)))
    (subst S (sym (c.in_ok-remove.ensures.ok told)) (removes p (state disk)))

pub returns-in_err-remove-clause-folders : goal.returns-in_err-remove-clause-folders
returns-in_err-remove-clause-folders g c told = (c.in_err-remove.ensures.err told).made

pub returns-in_err-sync_dir-clause-folders : goal.returns-in_err-sync_dir-clause-folders
returns-in_err-sync_dir-clause-folders g c told =
    ap (λ (s : State). s.made) (c.in_err-sync_dir.ensures.err told ∙ c.in_ok-remove.ensures.ok told)
    ∙ removal-made c.args.path.now.bytes (g.D.Disk.state c.args.disk.now)

pub returns-clause-folders : goal.returns-clause-folders
returns-clause-folders g c told =
    let state = g.D.Disk.state in
    ap (λ (s : State). s.made) (c.in_ok-sync_dir.ensures.ok told)
    ∙ sync_dir-made c.folder_above-folder.result.bytes (state c.remove.new.self)
    ∙ ap (λ (s : State). s.made) (c.in_ok-remove.ensures.ok told)
    ∙ removal-made c.args.path.now.bytes (state c.args.disk.now)
