use Rattle.std.proofs.Common.{◌∙◌, Some, None, sym, ap, subst}
use Rattle.cdb_model.specs.Maps.{Text, FileMap}
use Rattle.cdb_memfiles.specs.Crash.{IsPicked}
use Rattle.cdb_memfiles.specs.History.{replay}
use Rattle.cdb_memfiles.specs.Standing.{Shown, shown, shown_by, picked_shown}
use Rattle.cdb_memfiles.proofs.CrashLaws.{picked-step, picked-end, nil_from}
use Rattle.cdb_memfiles.proofs.StandingLaws.{shown-update, shown-found, shown-empty}
use Rattle.cdb_memfiles.proofs.crash.restore_paths.Goals as goal

pub paths-preserved : goal.paths-preserved
paths-preserved c =
    let pick = c.args.pick in let p = c.in-Some.entry.0 in
    let goals : FileMap = λ q. picked_shown pick (shown c.args.table q) in
    let later = (replay c.restore_one.new.after.calls.items).present in
    let P : (Text → Shown) → Type 0 = λ t. IsPicked goals (λ q. picked_shown pick (t q)) later in
    record {
      picks = subst P (sym (shown-update c.paths.rest c.pop_first.new.self p None c.in-Some.ensures.updates))
          (picked-step pick goals (replay c.paths.after.calls.items).present later (shown c.paths.rest)
          p.bytes (picked_shown pick (shown_by c.in-Some.entry.1))
          (ap (picked_shown pick) (shown-found c.paths.rest p (Some c.in-Some.entry.1) (sym c.in-Some.ensures.value)))
          c.in_ok-restore_one.ensures.present c.paths.invariant.picks);
      only = c.in_ok-restore_one.ensures.only c.paths.invariant.only;
      made = c.in_ok-restore_one.ensures.made ∙ c.paths.invariant.made;
    }

pub returns-clause-present : goal.returns-clause-present
returns-clause-present c =
    let pick = c.args.pick in
    let goals : FileMap = λ q. picked_shown pick (shown c.args.table q) in
    picked-end pick goals (replay c.paths.after.calls.items).present (shown c.paths.rest)
    (shown-empty c.paths.rest (nil_from c.paths.rest.entries (λ more. let bad = c.in_default.ensures.variant.1 more in
    cc))) c.paths.invariant.picks
