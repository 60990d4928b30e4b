use Rattle.std.proofs.Common.{refl, sym, ◌∙◌, subst}
use Rattle.cdb_model.specs.Maps.{Text}
use Rattle.cdb_recover.specs.Answers.{NamesNone}
use Rattle.cdb_recover.proofs.HeadLaws.{long_file}
use Rattle.cdb_recover.proofs.head.newest.Goals as goal

pub returns-then-size-gt-HEAD_BYTES-clause-read : goal.returns-then-size-gt-HEAD_BYTES-clause-read
returns-then-size-gt-HEAD_BYTES-clause-read g c told =
    let present = (g.D.Disk.state c.args.disk.now).present in
    let N : Text → Type 0 = λ q. NamesNone (present q) in
    let size = sym c.in-Ok-Some.field-0-is ∙ c.in-Ok-Some.ensures.size told in (
      subst N c.head_path-path.ensures
          (long_file (present c.head_path-path.result.bytes) c.in-Ok-Some.size size c.if-size-gt-HEAD_BYTES.true),
      refl,
      refl,
    )
