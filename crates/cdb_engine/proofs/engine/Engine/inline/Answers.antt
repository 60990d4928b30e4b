use Rattle.std.proofs.Common.{◌≡◌, ◌∙◌, sym, ap, rules, All, List, ℤ, to_z, of_z, subst}
use Rattle.std.proofs.lemmas.Int.{to_z-of_z}
use mir.Syntax.{w32}
use mir.Val.{SFits}
use Rattle.cdb_source.specs.Posts.{IsAllowed, none_of}
use Rattle.cdb_source.specs.declared.head.SourceHead.{SourceHead}
use Rattle.cdb_model.specs.Grammar.{Head, inline_in}
use Rattle.cdb_model.specs.Spelled.{spelled_row}
use Rattle.cdb_model.specs.Text.{last_first}
use Rattle.cdb_engine.proofs.SpelledLaws.{no_row}
use Rattle.cdb_engine.proofs.engine.Engine.inline.Goals as goal

pub returns-in-Err-clause-range : goal.returns-in-Err-clause-range
returns-in-Err-clause-range c = λ e.
    let fits : SFits w32 c.no_value.result = search rules in
    let same : c.in-Ok.maker.head.kind ≡ c.in-Some.head.kind = ap (λ (h : SourceHead). h.kind) c.in-Ok.ensures.head in
    let kind : c.in-Ok.maker.head.kind ≡ (inline_in c.args.order.now).head.kind = same ∙ c.in-Some.ensures.kind
    ∙ ap (λ (h : Head). h.kind) c.of_inline.ensures in
    let none = subst
    (λ (posts : List ℤ). All (IsAllowed c.in-Ok.maker.head.kind (to_z w32 (of_z w32 c.no_value.result)))
    (last_first c.in-Some.head.rows (spelled_row c.in-Some.head.cols posts)) → ⊥) c.deref.ensures.0
    c.in-Err.ensures.err in
    no_row (inline_in c.args.order.now) _ _ c.in-Some.head.rows c.in-Some.head.cols kind
    (to_z-of_z w32 c.no_value.result fits ∙ c.no_value.ensures ∙ sym (ap none_of same)) c.in-Some.ensures.rows_are
    c.in-Some.ensures.cols_are none
