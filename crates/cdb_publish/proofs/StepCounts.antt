-- All steps of a publication, made or left.
use Rattle.std.proofs.Common.{◌≡◌, ◌+◌, ◌-◌, length, ap, arith}
use Rattle.std.proofs.lemmas.List.{length-map}
use Rattle.cdb_model.specs.Publications as publications
use Rattle.cdb_crash.proofs.PlanLaws.{folders_by_paths}
use Rattle.cdb_publish.specs.Fitting.{IsSoundFor, steps_before_head, left_in}
use Rattle.cdb_publish.specs.Going.{left_of}
use Rattle.cdb_publish.specs.Laws.{StepsAreCounted}
use Rattle.cdb_publish.proofs.Underways.{heads_counted}

pub counted : StepsAreCounted
counted q P x number kept s u =
    let sound : IsSoundFor q.version q.files u.work = q.sound u.work u.is in
    let left : left_of q ≡ steps_before_head u.work.plan + 1 - u.work.done = ap left_in u.is in
    omega (
      arith,
      left,
      sound.sound.left,
      u.fits.done,
      heads_counted u.work.plan P x u.fits.plan,
      ap length u.fits.plan.folders,
      length-map u.work.plan.folders.keys (λ f. f.bytes),
      ap length (folders_by_paths P x u.work.plan.record.tiles),
    )
