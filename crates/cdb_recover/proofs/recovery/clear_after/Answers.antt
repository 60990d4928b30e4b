use Rattle.std.proofs.Common.{◌∙◌}
use Rattle.std.proofs.lemmas.Result.{on_ok_weaker}
use Rattle.cdb_model.specs.Stands.{Stands}
use Rattle.cdb_files.proofs.MomentLaws.{then_on}
use Rattle.cdb_recover.proofs.Recoveries.{cleared-moved, new_head_goes, new_head_gone, new_head_alone, removed-after, no_leftover}
use Rattle.cdb_recover.proofs.Recoveries.{whole_without}
use Rattle.cdb_recover.proofs.recovery.clear_after.Goals as goal

pub returns-in-Ok-clause-clean : goal.returns-in-Ok-clause-clean
returns-in-Ok-clause-clean g c told list is whole =
    let clock = g.D.Disk.clock in let since = g.D.Disk.since in let state = g.D.Disk.state in
    let disk = c.args.disk.now in let one = c.remove_new_head.new.disk in let two = c.clear_next.new.disk in
    let here = g.met.D.Disk.present_possible disk told in
    c.clear_next.ensures.clean told list is
    (whole_without clock since state disk one here list whole (c.in-Ok.ensures.ok told))

pub returns-in-Ok-clause-moments : goal.returns-in-Ok-clause-moments
returns-in-Ok-clause-moments g c told list is whole =
    let clock = g.D.Disk.clock in let since = g.D.Disk.since in let state = g.D.Disk.state in
    let disk = c.args.disk.now in let one = c.remove_new_head.new.disk in let two = c.clear_next.new.disk in
    let here = g.met.D.Disk.present_possible disk told in
    then_on clock since disk one two (λ m. Stands m list)
    (new_head_goes clock since state disk one here list whole (c.remove_new_head.ensures.only told))
    (c.clear_next.ensures.moments told list is
    (whole_without clock since state disk one here list whole (c.in-Ok.ensures.ok told)))

pub returns-in-Ok-clause-answer : goal.returns-in-Ok-clause-answer
returns-in-Ok-clause-answer g c told =
    let state = g.D.Disk.state in
    cleared-moved c.args.newest (state c.args.disk.now).present (state c.remove_new_head.new.disk).present
    c.clear_next.result
    (c.remove_new_head.ensures.only told).only.present (c.clear_next.ensures.answer told)

pub returns-in-Ok-clause-kept : goal.returns-in-Ok-clause-kept
returns-in-Ok-clause-kept g c told =
    let state = g.D.Disk.state in
    removed-after c.args.newest (state c.args.disk.now).present (state c.remove_new_head.new.disk).present
    (state c.clear_next.new.disk).present
    (c.remove_new_head.ensures.removed told) (c.clear_next.ensures.removed told)

pub returns-in-Ok-clause-left : goal.returns-in-Ok-clause-left
returns-in-Ok-clause-left g c told =
    let clock = g.D.Disk.clock in let since = g.D.Disk.since in let state = g.D.Disk.state in
    let disk = c.args.disk.now in let one = c.remove_new_head.new.disk in let two = c.clear_next.new.disk in
    let here = g.met.D.Disk.present_possible disk told in
    on_ok_weaker c.clear_next.result (no_leftover c.args.newest (state one).present (state two).present
    (new_head_gone clock since state disk one here (c.in-Ok.ensures.ok told)) (c.clear_next.ensures.removed told))
    (c.clear_next.ensures.left told)

pub returns-in-Err-clause-kept : goal.returns-in-Err-clause-kept
returns-in-Err-clause-kept g c told =
    let state = g.D.Disk.state in
    new_head_alone c.args.newest (state c.args.disk.now).present (state c.remove_new_head.new.disk).present
    (c.remove_new_head.ensures.removed told)

pub returns-in-Err-clause-moments : goal.returns-in-Err-clause-moments
returns-in-Err-clause-moments g c told list is whole =
    let clock = g.D.Disk.clock in let since = g.D.Disk.since in let state = g.D.Disk.state in
    let disk = c.args.disk.now in let one = c.remove_new_head.new.disk in
    let here = g.met.D.Disk.present_possible disk told in
    new_head_goes clock since state disk one here list whole (c.remove_new_head.ensures.only told)

pub returns-in-Ok-clause-folders : goal.returns-in-Ok-clause-folders
returns-in-Ok-clause-folders g c told =
    c.clear_next.ensures.folders told ∙ c.remove_new_head.ensures.folders told
