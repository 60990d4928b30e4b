use Rattle.std.proofs.Common.{ap, All, arith}
use Rattle.std.proofs.lemmas.Int.{to_z-of_z}
use mir.Syntax.{w32}
use Rattle.cdb_source.specs.declared.head.SourceHead.{SourceHead}
use Rattle.cdb_source.specs.Posts.{IsAllowed}
use Rattle.cdb_model.specs.Text.{last_first}
use Rattle.cdb_model.specs.Spelled.{row_of_pixels}
use Rattle.cdb_engine.proofs.RowLaws.{all_of_row, one_more_row, row_read}
use Rattle.cdb_engine.proofs.SpelledLaws.{not_allowed}
use Rattle.cdb_engine.proofs.image_rows.push_rows.Goals as goal
use Rattle.cdb_files.proofs.WholeLaws.{of_err}

pub returns-in_err-push_row-clause-err : goal.returns-in_err-push_row-clause-err
returns-in_err-push_row-clause-err c =
    let none : All (IsAllowed c.args.maker.now.head.kind c.args.novalue)
    (last_first c.args.image.now.length (row_of_pixels c.args.bytes.now)) → ⊥ = λ all.
    not_allowed _ _ _ _ _ _
    (ap (λ (h : SourceHead). h.kind) c.loop-r.invariant.head_is) (to_z-of_z w32 c.args.novalue c.ranges.novalue)
    (row_read c.args.bytes.now c.loop-r.r c.row.new.to
    (omega (arith, c.requires.opened.fields.width)) c.row.ensures)
    c.in_err-push_row.ensures.allowed.1
    (all_of_row (IsAllowed c.args.maker.now.head.kind c.args.novalue) c.args.image.now.length c.loop-r.r
    (row_of_pixels c.args.bytes.now) c.loop-r-test.true all) in
    of_err c.from_residual.result _ none

pub loop-r-preserved : goal.loop-r-preserved
loop-r-preserved c =
    one_more_row _ _ _ _ c.loop-r.maker c.push_row.new.self c.row.new.to c.loop-r.invariant
    c.in_ok-push_row.ensures.head c.in_ok-push_row.ensures.due c.in_ok-push_row.ensures.posts
    (row_read c.args.bytes.now c.loop-r.r c.row.new.to (omega (arith, c.requires.opened.fields.width)) c.row.ensures)
