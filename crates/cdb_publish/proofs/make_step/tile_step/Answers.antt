use Rattle.std.proofs.Common.{◌≡◌, ◌++◌, ◌∷◌, [], ◌∙◌, Some, Err, refl, sym, ap, length, take, rules, subst, ℕ, arith}
use Rattle.std.specs.Prelude.{slice_get}
use Rattle.cdb_model.specs.Publications.{sources_of}
use Rattle.cdb_model.specs.Names.{path}
use Rattle.cdb_model.specs.TileFile.{tile_bytes}
use Rattle.cdb_files.specs.Whole.{after_write}
use Rattle.cdb_crash.specs.Plan.{FileAction}
use Rattle.cdb_publish.specs.Reads.{StepNeeds}
use Rattle.cdb_publish.specs.declared.errors.StepError.TheVariants.{Fault}
use Rattle.cdb_publish.proofs.StepRuns.{wrote_ok, wrote_err, idle_err, only_read, unwritten}
use Rattle.cdb_publish.specs.Windows.{HasRoom}
use Rattle.cdb_publish.proofs.FewNeeds.{needs_map}
use Rattle.cdb_publish.proofs.FrameLaws.{ready_after, written}
use Rattle.cdb_crash.proofs.PlanNumbers.{got}
use Rattle.cdb_publish.proofs.PlanNumbers.{plan_tile}
use Rattle.cdb_publish.proofs.make_step.tile_step.Goals as goal

pub returns-in-Err-clause-made : goal.returns-in-Err-clause-made
returns-in-Err-clause-made g c told P x plans records mid =
    let p = c.args.plan.now in let t = c.index-as_slice-number.result in
    let at : slice_get p.record.tiles c.args.number ≡ Some t =
    got p.record.tiles c.args.number t c.requires.number (search rules) in
    idle_err g.D.Disk.clock g.D.Disk.since g.D.Disk.state _ _ (Err c.in-Err.error) refl
    (FileAction.write (record { path = path p.record.version t; bytes = tile_bytes (sources_of (P ++ x ∷ [])) t }))
    (plan_tile p P x plans c.args.number t (path p.record.version t)
    (tile_bytes (sources_of (P ++ x ∷ [])) t) at refl refl)
    c.args.disk.now c.make_tile.new.disk
    (only_read g.D.Disk.clock g.D.Disk.since g.D.Disk.state c.args.disk.now c.make_tile.new.disk
    c.make_tile.ensures.time)

pub returns-in-Err-clause-sizes : goal.returns-in-Err-clause-sizes
returns-in-Err-clause-sizes g c =
    let p = c.args.plan.now in let t = c.index-as_slice-number.result in
    let at : slice_get p.record.tiles c.args.number ≡ Some t =
    got p.record.tiles c.args.number t c.requires.number (search rules) in
    StepNeeds.of_tile c.args.number t refl at (c.in-Err.ensures.needs t at)

pub returns-in-Ok-write_whole-clause-made : goal.returns-in-Ok-write_whole-clause-made
returns-in-Ok-write_whole-clause-made g c told P x plans records mid =
    let p = c.args.plan.now in let t = c.index-as_slice-number.result in
    let at : slice_get p.record.tiles c.args.number ≡ Some t =
    got p.record.tiles c.args.number t c.requires.number (search rules) in
    wrote_ok g.D.Disk.clock g.D.Disk.since g.D.Disk.state _ _ tt c.folder_above-folder.result.bytes
    c.write_path-path.result.bytes (tile_bytes (sources_of (P ++ x ∷ [])) t)
    (plan_tile p P x plans c.args.number t c.write_path-path.result.bytes (tile_bytes (sources_of (P ++ x ∷ [])) t)
    at c.write_path-path.ensures refl)
    c.folder_above-folder.ensures
    c.args.disk.now c.make_tile.new.disk c.write_whole.new.disk
    (only_read g.D.Disk.clock g.D.Disk.since g.D.Disk.state c.args.disk.now c.make_tile.new.disk
    c.make_tile.ensures.time)
    c.make_tile.ensures.state (c.write_whole.ensures.only told)
    (c.in-Ok-write_whole.ensures.ok told
    ∙ ap (λ b. after_write c.folder_above-folder.result.bytes c.write_path-path.result.bytes b
    (g.D.Disk.state c.make_tile.new.disk))
    (ap (take c.in-Ok.len)
    (c.deref.ensures.value
    ∙ written c.args.frames.now.bytes c.make_tile.new.bytes (c.make_tile.auto.bytes
    ∙ ap length c.as_mut_slice.ensures.value)) ∙ c.in-Ok.ensures.bytes told P x plans records mid t at))

pub returns-in-Err-write_whole-clause-made : goal.returns-in-Err-write_whole-clause-made
returns-in-Err-write_whole-clause-made g c told P x plans records mid =
    let p = c.args.plan.now in let t = c.index-as_slice-number.result in
    let at : slice_get p.record.tiles c.args.number ≡ Some t =
    got p.record.tiles c.args.number t c.requires.number (search rules) in
    wrote_err g.D.Disk.clock g.D.Disk.since g.D.Disk.state _ _ (Err Fault) refl
    c.write_path-path.result.bytes (tile_bytes (sources_of (P ++ x ∷ [])) t)
    (plan_tile p P x plans c.args.number t c.write_path-path.result.bytes (tile_bytes (sources_of (P ++ x ∷ [])) t)
    at c.write_path-path.ensures refl)
    c.args.disk.now c.make_tile.new.disk c.write_whole.new.disk
    (only_read g.D.Disk.clock g.D.Disk.since g.D.Disk.state c.args.disk.now c.make_tile.new.disk
    c.make_tile.ensures.time)
    c.make_tile.ensures.state (c.write_whole.ensures.only told)

pub returns-in-Ok-write_whole-clause-sizes : goal.returns-in-Ok-write_whole-clause-sizes
returns-in-Ok-write_whole-clause-sizes g c =
    let p = c.args.plan.now in let t = c.index-as_slice-number.result in
    let at : slice_get p.record.tiles c.args.number ≡ Some t =
    got p.record.tiles c.args.number t c.requires.number (search rules) in
    StepNeeds.of_tile c.args.number t refl at
    (needs_map p c.args.chain.now.records t _ _ (λ needs f. (f.0, omega (arith, f.1, c.write_whole.ensures.reads)))
    (c.in-Ok.ensures.needs t at))

pub returns-in-Err-write_whole-clause-sizes : goal.returns-in-Err-write_whole-clause-sizes
returns-in-Err-write_whole-clause-sizes g c =
    let p = c.args.plan.now in let t = c.index-as_slice-number.result in
    let at : slice_get p.record.tiles c.args.number ≡ Some t =
    got p.record.tiles c.args.number t c.requires.number (search rules) in
    StepNeeds.of_tile c.args.number t refl at
    (needs_map p c.args.chain.now.records t _ _
    (λ needs f. ((λ told. tt), omega (arith, f.1, c.write_whole.ensures.reads))) (c.in-Ok.ensures.needs t at))

pub make_tile-requires-clause-room : goal.make_tile-requires-clause-room
make_tile-requires-clause-room g c t at =
    let R : ℕ → Type 0 = λ n. HasRoom c.args.plan.now.record.heads t n in
    subst R (sym (ap length c.as_mut_slice-2.ensures.value)) (c.requires.ready.room c.args.number t at)

pub returns-in-Err-clause-ready : goal.returns-in-Err-clause-ready
returns-in-Err-clause-ready g c =
    ready_after c.args.plan.now c.args.frames.now c.make_tile.new.bytes c.make_tile.new.frame c.make_tile.new.scratch
    c.requires.ready
    (c.make_tile.auto.bytes ∙ ap length c.as_mut_slice.ensures.value)
    (c.make_tile.auto.frame ∙ ap length c.as_mut_slice-3.ensures.value)
    (c.make_tile.auto.scratch ∙ ap length c.as_mut_slice-2.ensures.value)

pub returns-in-Ok-write_whole-clause-ready : goal.returns-in-Ok-write_whole-clause-ready
returns-in-Ok-write_whole-clause-ready g c =
    ready_after c.args.plan.now c.args.frames.now c.make_tile.new.bytes c.make_tile.new.frame c.make_tile.new.scratch
    c.requires.ready
    (c.make_tile.auto.bytes ∙ ap length c.as_mut_slice.ensures.value)
    (c.make_tile.auto.frame ∙ ap length c.as_mut_slice-3.ensures.value)
    (c.make_tile.auto.scratch ∙ ap length c.as_mut_slice-2.ensures.value)

pub returns-in-Err-write_whole-clause-ready : goal.returns-in-Err-write_whole-clause-ready
returns-in-Err-write_whole-clause-ready g c =
    ready_after c.args.plan.now c.args.frames.now c.make_tile.new.bytes c.make_tile.new.frame c.make_tile.new.scratch
    c.requires.ready
    (c.make_tile.auto.bytes ∙ ap length c.as_mut_slice.ensures.value)
    (c.make_tile.auto.frame ∙ ap length c.as_mut_slice-3.ensures.value)
    (c.make_tile.auto.scratch ∙ ap length c.as_mut_slice-2.ensures.value)

pub returns-in-Err-clause-unwritten : goal.returns-in-Err-clause-unwritten
returns-in-Err-clause-unwritten g c =
    unwritten (g.D.Disk.state c.args.disk.now) (g.D.Disk.state c.make_tile.new.disk)
    c.in-Err.error c.make_tile.ensures.state
