use Rattle.std.proofs.Common.{◌∙◌, List, ℕ, Some, sym, ap, subst}
use Rattle.cdb_model.specs.Maps.{Content, put}
use Rattle.cdb_files.specs.Disk.{State}
use Rattle.cdb_memfiles.specs.Crash.{IsSettled}
use Rattle.cdb_memfiles.specs.inside.Crash.{restored_map}
use Rattle.cdb_memfiles.specs.History.{replay}
use Rattle.cdb_memfiles.specs.declared.call.Call.TheVariants.{Restore}
use Rattle.cdb_memfiles.proofs.CrashLaws.{present-restore, made-restore, settled-restore}
use Rattle.cdb_memfiles.proofs.MomentLaws.{state_push}
use Rattle.cdb_memfiles.proofs.crash.restore_one.Goals as goal

pub returns-in_ok-restore-clause-present : goal.returns-in_ok-restore-clause-present
returns-in_ok-restore-clause-present c =
    let p = c.args.entry.0.bytes in let s = replay c.args.after.now.calls.items in
    let more = c.in_ok-restore.ensures.ok in
    ap (λ (t : State). t.present)
    (state_push c.args.after.now.calls.items c.restore.new.self.calls.items (Restore c.args.entry.0 more.0) more.2)
    ∙ present-restore p more.0.items s
    ∙ ap (λ (xs : List ℕ). put s.present p (Some xs)) more.1
    ∙ ap (λ (w : Content). restored_map p w s.present) c.in-Some.ensures

pub returns-in_ok-restore-clause-only : goal.returns-in_ok-restore-clause-only
returns-in_ok-restore-clause-only c settled =
    let s = replay c.args.after.now.calls.items in
    let more = c.in_ok-restore.ensures.ok in
    let P : State → Type 0 = IsSettled in
    subst P (sym (state_push c.args.after.now.calls.items c.restore.new.self.calls.items (Restore c.args.entry.0 more.0)
    more.2))
    (settled-restore c.args.entry.0.bytes more.0.items s settled)

pub returns-in_ok-restore-clause-made : goal.returns-in_ok-restore-clause-made
returns-in_ok-restore-clause-made c =
    let s = replay c.args.after.now.calls.items in
    let more = c.in_ok-restore.ensures.ok in
    ap (λ (t : State). t.made)
    (state_push c.args.after.now.calls.items c.restore.new.self.calls.items (Restore c.args.entry.0 more.0) more.2)
    ∙ made-restore c.args.entry.0.bytes more.0.items s
