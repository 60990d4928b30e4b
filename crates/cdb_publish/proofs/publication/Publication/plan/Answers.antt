use Rattle.std.proofs.Common.{refl, ap, ◌∙◌, subst, List, arith}
use Rattle.cdb_source.specs.declared.source.Source.{Source}
use Rattle.cdb_source.specs.Reached.{IsTouched}
use Rattle.cdb_source.proofs.LoadLaws.{within_load}
use Rattle.cdb_model.specs.Publications.{heads_of}
use Rattle.cdb_publish.specs.Fitting.{Plans}
use Rattle.std.specs.Prelude.{reverse}
use Rattle.std.proofs.lemmas.List.{reverse-reverse}
use Rattle.cdb_crash.proofs.Own as own
use Rattle.cdb_publish.proofs.publication.Publication.plan.Goals as goal

pub returns-clause-underway : goal.returns-clause-underway
returns-clause-underway g c told P are clean =
    let s = g.D.Disk.state c.args.disk.now in
    let here = g.met.D.Disk.present_possible c.args.disk.now told in
    let F : List Source → Type 0 = λ ss. Plans c.in-Ok.plan P ss in
    let plans =
    subst F c.as_slice.ensures.value (c.in-Ok.ensures.plans P (clean.whole.stands s.present here).publications are)
    in
    record {
      work = record { plan = c.in-Ok.plan; sources = c.last_first.result; done = 0; frames = c.in-Ok-frames.frames };
      is = c.of_work.ensures.work;
      fits = record {
        plan = plans;
        done = refl;
        sources = ap reverse c.last_first.ensures
            ∙ reverse-reverse c.args.sources.items;
      };
      records = are;
      mid = (own.plan_steps P c.args.sources.items c.in-Ok.plan.record.tiles plans.list plans.touched).begins s here
          clean;
    }

pub returns-clause-few : goal.returns-clause-few
returns-clause-few g c load is =
    let T : List Source → Type 0 = λ ss. IsTouched (heads_of ss) c.in-Ok.plan.record.tiles in
    omega (
      arith,
      c.of_work.ensures.files,
      within_load (heads_of c.args.sources.items) load c.in-Ok.plan.record.tiles is
          (subst T c.as_slice.ensures.value c.in-Ok.ensures.touched),
    )
