use Rattle.std.proofs.Common.{◌*◌, ap, All, take, drop, arith}
use Rattle.std.proofs.lemmas.Int.{to_z-of_z}
use mir.Syntax.{w32}
use Rattle.cdb_source.specs.declared.head.SourceHead.{SourceHead}
use Rattle.cdb_source.specs.Posts.{IsAllowed}
use Rattle.cdb_model.specs.Text.{last_first}
use Rattle.cdb_model.specs.Spelled.{spelled_row}
use Rattle.cdb_engine.proofs.RowLaws.{all_of_row}
use Rattle.cdb_engine.proofs.SpelledLaws.{not_allowed}
use Rattle.cdb_engine.proofs.posts.push_posts.Goals as goal
use Rattle.cdb_files.proofs.WholeLaws.{of_err}

pub returns-in_err-push_row-clause-err : goal.returns-in_err-push_row-clause-err
returns-in_err-push_row-clause-err c =
    let none : All (IsAllowed c.args.maker.now.head.kind c.args.novalue)
    (last_first c.args.rows (spelled_row c.args.cols c.args.posts.now)) → ⊥ = λ all.
    not_allowed _ _ _ _ _ _
    (ap (λ (h : SourceHead). h.kind) c.loop-row.invariant.head_is) (to_z-of_z w32 c.args.novalue c.ranges.novalue)
    (ap (λ n. take n (drop (c.loop-row.row * c.args.cols) c.args.posts.now)) (omega arith))
    c.in_err-push_row.ensures.allowed.1
    (all_of_row (IsAllowed c.args.maker.now.head.kind c.args.novalue) c.args.rows c.loop-row.row
    (spelled_row c.args.cols c.args.posts.now) c.loop-row-test.true all) in
    of_err c.from_residual.result _ none
