use Rattle.std.proofs.Common.{sym, ap, ◌∙◌, subst}
use Rattle.cdb_model.specs.Maps.{Text}
use Rattle.cdb_files.specs.Disk.{State, after_remove}
use Rattle.cdb_files.specs.Whole.{WritesOnly}
use Rattle.cdb_files.proofs.StateLaws.{remove-only}
use Rattle.cdb_files.proofs.WholeLaws.{begun, onward_ok, onward_err}
use Rattle.cdb_recover.specs.inside.Clearing.{RemovesOne}
use Rattle.cdb_recover.proofs.Removals.{removes, fails_removes, removal-made}
use Rattle.cdb_recover.proofs.calls.remove_new_head.Goals as goal

pub returns-in_err-remove-clause-only : goal.returns-in_err-remove-clause-only
returns-in_err-remove-clause-only g c told =
    let p = c.new_head_path-path.result.bytes in let clock = g.D.Disk.clock in let since = g.D.Disk.since in
    let state = g.D.Disk.state in
    let disk = c.args.disk.now in
    let W : Text → Type 0 = λ q. WritesOnly clock since state q disk c.remove.new.self in
    subst W c.new_head_path-path.ensures
    (onward_err clock since state p disk disk c.remove.new.self (after_remove p (state disk))
    (begun clock since state p disk)
    (remove-only p (state disk)) (c.remove.ensures.time told) (c.in_err-remove.ensures.err told))

pub returns-clause-only : goal.returns-clause-only
returns-clause-only g c told =
    let p = c.new_head_path-path.result.bytes in let clock = g.D.Disk.clock in let since = g.D.Disk.since in
    let state = g.D.Disk.state in
    let disk = c.args.disk.now in
    let W : Text → Type 0 = λ q. WritesOnly clock since state q disk c.remove.new.self in
    subst W c.new_head_path-path.ensures
    (onward_ok clock since state p disk disk c.remove.new.self (after_remove p (state disk))
    (begun clock since state p disk)
    (remove-only p (state disk)) (c.remove.ensures.time told) (c.in_ok-remove.ensures.ok told))

pub returns-in_err-remove-clause-removed : goal.returns-in_err-remove-clause-removed
returns-in_err-remove-clause-removed g c told =
    let state = g.D.Disk.state in let disk = c.args.disk.now in let one = c.remove.new.self in
    let R : Text → Type 0 = λ q. RemovesOne q (state disk).present (state one).present in
    subst R c.new_head_path-path.ensures
    (fails_removes c.new_head_path-path.result.bytes (state disk) (state one) (c.in_err-remove.ensures.err told))

pub returns-clause-removed : goal.returns-clause-removed
returns-clause-removed g c told =
    let p = c.new_head_path-path.result.bytes in let state = g.D.Disk.state in let disk = c.args.disk.now in
    let R : Text → Type 0 = λ q. RemovesOne q (state disk).present (state c.remove.new.self).present in
    let S : State → Type 0 = λ s. RemovesOne p (state disk).present s.present in
    subst R c.new_head_path-path.ensures (subst S (sym (c.in_ok-remove.ensures.ok told)) (removes p (state disk)))

pub returns-in_err-remove-clause-folders : goal.returns-in_err-remove-clause-folders
returns-in_err-remove-clause-folders g c told = (c.in_err-remove.ensures.err told).made

pub returns-clause-folders : goal.returns-clause-folders
returns-clause-folders g c told =
    ap (λ (s : State). s.made) (c.in_ok-remove.ensures.ok told)
    ∙ removal-made c.new_head_path-path.result.bytes (g.D.Disk.state c.args.disk.now)
