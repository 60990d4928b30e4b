use Rattle.std.proofs.Common.{◌≡◌, ◌∙◌, sym, ap, rules, subst}
use Rattle.std.proofs.lemmas.Int.{to_z-of_z}
use mir.Syntax.{w32}
use mir.Val.{SFits}
use Rattle.cdb_source.specs.declared.head.SourceHead.{SourceHead}
use Rattle.cdb_model.specs.Grammar.{Head, file_in}
use Rattle.cdb_model.specs.Spelled.{SpellsHead}
use Rattle.cdb_engine.specs.Words.{head_of_words}
use Rattle.cdb_engine.proofs.SpelledLaws.{file_spelled, no_file_row}
use Rattle.cdb_engine.proofs.image_rows.source_of.Goals as goal

pub returns-in-Ok-push_rows : goal.returns-in-Ok-push_rows
returns-in-Ok-push_rows c =
    let fits : SFits w32 c.args.order.now.novalue = search rules in
    let fields = c.in-Ok.ensures.opened.fields in
    let spelled = subst (SpellsHead (head_of_words c.of_file.result) c.in-Ok.image.length c.in-Ok.image.width)
    (sym c.in-Ok-new.ensures.head) c.in-Some.ensures in (
      c.in-Ok.ensures.accepted,
      file_spelled (file_in c.args.order.now) c.args.bytes.now
          (head_of_words c.of_file.result) c.in-Ok.image.length c.in-Ok.image.width c.in-Ok-new.maker.head _
          c.push_rows.new.maker c.finish.result
          c.of_file.ensures fields.length fields.width
          (to_z-of_z w32 c.args.order.now.novalue fits) spelled c.in-Ok-push_rows.ensures.ok c.finish.ensures.head
          c.finish.ensures.posts,
    )

pub returns : goal.returns
returns c =
    let fits : SFits w32 c.args.order.now.novalue = search rules in
    let same : c.in-Ok-new.maker.head.kind ≡ c.in-Some.head.kind =
    ap (λ (h : SourceHead). h.kind) c.in-Ok-new.ensures.head in
    let kind : c.in-Ok-new.maker.head.kind ≡ (file_in c.args.order.now).head.kind = same ∙ c.in-Some.ensures.kind
    ∙ ap (λ (h : Head). h.kind) c.of_file.ensures in (
      c.in-Ok.ensures.accepted,
      no_file_row (file_in c.args.order.now) c.args.bytes.now _ _ c.in-Ok.image.length kind
          (to_z-of_z w32 c.args.order.now.novalue fits) c.in-Ok.ensures.opened.fields.length
          c.in-Err-push_rows.ensures.err,
    )
