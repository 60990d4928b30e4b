use Rattle.std.proofs.Common.{rules, SFits, w16, ◌≡◌, ◌++◌, ◌∙◌, ap, arith}
use Rattle.std.proofs.lemmas.Int.{to_z-of_z}
use Rattle.cdb_generate.specs.Generator.{posts_drawn, row_drawn}
use Rattle.cdb_generate.proofs.MakeLaws.{more_cols, more_rows}
use Rattle.cdb_generate.proofs.sources.posts.Goals as goal

pub loop-col-preserved : goal.loop-col-preserved
loop-col-preserved c =
    let fits : SFits w16 c.post.result = search rules in
    c.in_ok-push.ensures.items
    ∙ more_cols c.args.kind c.args.base c.loop-col.col c.loop-row.row
    (posts_drawn c.args.kind c.args.base c.loop-row.row c.args.cols) c.loop-col.posts.items _
    c.loop-col.invariant (to_z-of_z w16 c.post.result fits ∙ c.post.ensures)

pub loop-row-preserved : goal.loop-row-preserved
loop-row-preserved c =
    let whole : c.loop-col.col ≡ c.args.cols = omega (arith, c.loop-col-test.false, c.loop-col.auto.col-end) in
    c.loop-col.invariant ∙ ap
    (λ n. posts_drawn c.args.kind c.args.base c.loop-row.row c.args.cols ++ row_drawn c.args.kind c.args.base n
    c.loop-row.row) whole
    ∙ more_rows c.args.kind c.args.base c.loop-row.row c.args.cols
