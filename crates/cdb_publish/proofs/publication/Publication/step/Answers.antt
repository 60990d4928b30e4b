use Rattle.std.proofs.Common.{◌≡◌, ◌+◌, ◌++◌, ◌∷◌, [], refl, sym, ap, ◌∙◌, subst, length, Ok, Err, Some, arith}
use Rattle.std.proofs.lemmas.Option.{same_Some}
use Rattle.cdb_source.specs.Reached.{IsTouched}
use Rattle.cdb_model.specs.Publications.{heads_of}
use Rattle.cdb_manifest.specs.declared.record_.Record.{Record}
use Rattle.cdb_crash.specs.Plan.{IsMidAfter}
use Rattle.cdb_publish.specs.Fitting.{IsSoundFor, steps_before_head}
use Rattle.cdb_publish.specs.Reads.{SizesTold}
use Rattle.cdb_publish.specs.declared.errors.Progress.{Progress}
use Rattle.cdb_publish.specs.declared.errors.Progress.TheVariants.{Going}
use Rattle.cdb_publish.specs.declared.plan.Plan.{Plan}
use Rattle.cdb_publish.specs.declared.work.Work.{Work}
use Rattle.cdb_publish.proofs.StepRuns.{step_stands, step_leads}
use Rattle.cdb_publish.proofs.Underways.{opened, keeps, now_ready}
use Rattle.cdb_publish.proofs.publication.Publication.step.Goals as goal

pub returns-in-Ok-clause-published : goal.returns-in-Ok-clause-published
returns-in-Ok-clause-published g c told P x number u one =
    let w = c.in-Some.work in let s = g.D.Disk.state c.args.disk.now in
    let kept = c.args.chain.now.records in
    let is : c.args.self.now.work ≡ Some c.in-Some.work = cc in
    let at = opened c.args.self.now w P x number kept s is u in
    let full : w.done ≡ steps_before_head w.plan = omega (arith, c.left.ensures, c.if-left-eq1.true) in
    let version : c.args.self.now.version ≡ length P + 1 = c.requires.next ∙ ap (λ n. n + 1) at.records.count in (
      c.in-Ok.ensures.clean told P x version
          (now_ready w P x number s at.fits (g.met.D.Disk.present_possible c.args.disk.now told) at.mid full),
      c.add.ensures.publication P x at.records (ap (λ (r : Record). r.heads) c.into_record.ensures ∙ at.fits.plan.heads)
          (let T : Record → Type 0 = λ r. IsTouched (heads_of x) r.tiles in
          subst T (sym c.into_record.ensures) at.fits.plan.touched),
    )

pub returns-in-Ok-clause-last_moments : goal.returns-in-Ok-clause-last_moments
returns-in-Ok-clause-last_moments g c told P x number u one =
    let w = c.in-Some.work in let s = g.D.Disk.state c.args.disk.now in
    let is : c.args.self.now.work ≡ Some c.in-Some.work = cc in
    let at = opened c.args.self.now w P x number c.args.chain.now.records s is u in
    let full : w.done ≡ steps_before_head w.plan = omega (arith, c.left.ensures, c.if-left-eq1.true) in
    let version : c.args.self.now.version ≡ length P + 1 = c.requires.next ∙ ap (λ n. n + 1) at.records.count in
    c.publish_head.ensures.moments told P x version
    (now_ready w P x number s at.fits (g.met.D.Disk.present_possible c.args.disk.now told) at.mid full)

pub returns-in-Err-clause-last_moments : goal.returns-in-Err-clause-last_moments
returns-in-Err-clause-last_moments g c told P x number u one =
    let w = c.in-Some.work in let s = g.D.Disk.state c.args.disk.now in
    let is : c.args.self.now.work ≡ Some c.in-Some.work = cc in
    let at = opened c.args.self.now w P x number c.args.chain.now.records s is u in
    let full : w.done ≡ steps_before_head w.plan = omega (arith, c.left.ensures, c.if-left-eq1.true) in
    let version : c.args.self.now.version ≡ length P + 1 = c.requires.next ∙ ap (λ n. n + 1) at.records.count in
    c.publish_head.ensures.moments told P x version
    (now_ready w P x number s at.fits (g.met.D.Disk.present_possible c.args.disk.now told) at.mid full)

pub returns-in-Ok-advance-clause-going : goal.returns-in-Ok-advance-clause-going
returns-in-Ok-advance-clause-going g c told P x number u more =
    let w = c.in-Some.work in let s = g.D.Disk.state c.args.disk.now in
    let is : c.args.self.now.work ≡ Some c.in-Some.work = cc in
    let at = opened c.args.self.now w P x number c.args.chain.now.records s is u in
    let M : Plan → Type 0 = λ p. IsMidAfter P x p.record.tiles (number + 1) (g.D.Disk.state c.advance.new.disk) in
    record {
      work = c.advance.new.work;
      is = refl;
      fits = c.in-Ok-advance.ensures.fits P x number at.fits;
      records = at.records;
      mid = subst M (sym c.in-Ok-advance.ensures.plan)
          (step_leads g.D.Disk.clock g.D.Disk.since g.D.Disk.state P x w.plan.record.tiles (keeps w P x number at.fits)
          number c.args.disk.now c.advance.new.disk
          (g.met.D.Disk.present_possible c.args.disk.now told) at.mid (Ok c.in-Ok-advance.field-0)
          (c.in-Ok-advance.ensures.made told P x number at.fits at.records at.mid));
    }

pub returns-in-Ok-advance-clause-moments : goal.returns-in-Ok-advance-clause-moments
returns-in-Ok-advance-clause-moments g c told P x number u more =
    let w = c.in-Some.work in let s = g.D.Disk.state c.args.disk.now in
    let is : c.args.self.now.work ≡ Some c.in-Some.work = cc in
    let at = opened c.args.self.now w P x number c.args.chain.now.records s is u in
    step_stands g.D.Disk.clock g.D.Disk.since g.D.Disk.state P x w.plan.record.tiles (keeps w P x number at.fits)
    number c.args.disk.now c.advance.new.disk
    (g.met.D.Disk.present_possible c.args.disk.now told)
    at.mid c.advance.result (c.advance.ensures.made told P x number at.fits at.records at.mid)

pub returns-in-Err-advance-clause-moments : goal.returns-in-Err-advance-clause-moments
returns-in-Err-advance-clause-moments g c told P x number u more =
    let w = c.in-Some.work in let s = g.D.Disk.state c.args.disk.now in
    let is : c.args.self.now.work ≡ Some c.in-Some.work = cc in
    let at = opened c.args.self.now w P x number c.args.chain.now.records s is u in
    step_stands g.D.Disk.clock g.D.Disk.since g.D.Disk.state P x w.plan.record.tiles (keeps w P x number at.fits)
    number c.args.disk.now c.advance.new.disk
    (g.met.D.Disk.present_possible c.args.disk.now told)
    at.mid c.advance.result (c.advance.ensures.made told P x number at.fits at.records at.mid)

pub returns-in-Err-advance-clause-undamaged : goal.returns-in-Err-advance-clause-undamaged
returns-in-Err-advance-clause-undamaged g c told P x number u =
    let w = c.in-Some.work in let s = g.D.Disk.state c.args.disk.now in
    let is : c.args.self.now.work ≡ Some c.in-Some.work = cc in
    let at = opened c.args.self.now w P x number c.args.chain.now.records s is u in
    c.in-Err-advance.ensures.undamaged told P x number at.fits at.records at.mid

pub returns-in-Ok-advance-clause-sizes : goal.returns-in-Ok-advance-clause-sizes
returns-in-Ok-advance-clause-sizes g c w is more =
    let at : c.args.self.now.work ≡ Some c.in-Some.work = cc in
    let S : Work
    → Type 0 =
    λ v. SizesTold {T = Progress} g.D.Disk.tells (g.D.Disk.state c.args.disk.now).present v.plan
    c.args.chain.now.records v.done
    (g.D.Disk.read_count c.args.disk.now) (g.D.Disk.read_count c.advance.new.disk) (Ok Going) in
    subst S (same_Some c.in-Some.work w (sym at ∙ is)) c.in-Ok-advance.ensures.sizes

pub returns-in-Err-advance-clause-sizes : goal.returns-in-Err-advance-clause-sizes
returns-in-Err-advance-clause-sizes g c w is more =
    let at : c.args.self.now.work ≡ Some c.in-Some.work = cc in
    let S : Work
    → Type 0 =
    λ v. SizesTold {T = Progress} g.D.Disk.tells (g.D.Disk.state c.args.disk.now).present v.plan
    c.args.chain.now.records v.done
    (g.D.Disk.read_count c.args.disk.now) (g.D.Disk.read_count c.advance.new.disk) (Err c.in-Err-advance.error) in
    subst S (same_Some c.in-Some.work w (sym at ∙ is)) c.in-Err-advance.ensures.sizes

pub returns-in-Ok-clause-added : goal.returns-in-Ok-clause-added
returns-in-Ok-clause-added g c one =
    let w = c.in-Some.work in
    let is : c.args.self.now.work ≡ Some c.in-Some.work = cc in
    let sound : IsSoundFor c.args.self.now.version c.args.self.now.files w = c.args.self.now.sound w is in
    record {
      item = w.plan.record;
      version_is = sound.version_is;
      files_are = sound.files_are;
      new_is = c.add.ensures.records ∙ ap (λ (r : Record). c.args.chain.now.records ++ r ∷ []) c.into_record.ensures;
    }
