use Rattle.std.proofs.Common.{◌≡◌, Some, rules}
use Rattle.std.specs.Prelude.{slice_get}
use Rattle.cdb_publish.proofs.StepRuns.{just_synced, synced_ok, synced_err}
use Rattle.cdb_crash.proofs.PlanNumbers.{got}
use Rattle.cdb_publish.proofs.PlanNumbers.{plan_folder}
use Rattle.cdb_publish.proofs.make_step.folder_step.Goals as goal

pub returns-in_err-sync_dir-clause-made : goal.returns-in_err-sync_dir-clause-made
returns-in_err-sync_dir-clause-made g c told P x plans =
    let at : slice_get c.args.plan.now.folders.keys c.args.number ≡ Some c.index-as_slice-number.result =
    got c.args.plan.now.folders.keys c.args.number c.index-as_slice-number.result c.requires (search rules) in
    synced_err g.D.Disk.clock g.D.Disk.since g.D.Disk.state _ _ c.from_residual.result (c.from_residual.ensures.0)
    c.index-as_slice-number.result.bytes
    (plan_folder c.args.plan.now P x plans c.args.number c.index-as_slice-number.result at)
    c.args.disk.now c.sync_dir.new.self
    (just_synced g.D.Disk.clock g.D.Disk.since g.D.Disk.state c.args.disk.now c.sync_dir.new.self
    c.index-as_slice-number.result.bytes
    (g.met.D.Disk.present_possible c.args.disk.now told) (c.sync_dir.ensures.time told))

pub returns-clause-made : goal.returns-clause-made
returns-clause-made g c told P x plans =
    let at : slice_get c.args.plan.now.folders.keys c.args.number ≡ Some c.index-as_slice-number.result =
    got c.args.plan.now.folders.keys c.args.number c.index-as_slice-number.result c.requires (search rules) in
    synced_ok g.D.Disk.clock g.D.Disk.since g.D.Disk.state _ _ tt c.index-as_slice-number.result.bytes
    (plan_folder c.args.plan.now P x plans c.args.number c.index-as_slice-number.result at)
    c.args.disk.now c.sync_dir.new.self
    (just_synced g.D.Disk.clock g.D.Disk.since g.D.Disk.state c.args.disk.now c.sync_dir.new.self
    c.index-as_slice-number.result.bytes
    (g.met.D.Disk.present_possible c.args.disk.now told)
    (c.sync_dir.ensures.time told)) (c.in_ok-sync_dir.ensures.ok told)
