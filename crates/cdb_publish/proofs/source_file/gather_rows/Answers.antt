use Rattle.std.proofs.Common.{◌≡◌, ◌+◌, ◌*◌, ◌++◌, ◌∙◌, take, sym, ap, arith}
use Rattle.cdb_source.specs.Texts.{posts_text, row_of_posts}
use Rattle.cdb_publish.proofs.FileRuns.{gathered_more}
use Rattle.cdb_publish.proofs.source_file.gather_rows.Goals as goal

pub rows-preserved : goal.rows-preserved
rows-preserved c =
    let s = c.args.source.now in let k = c.rows.k in let to = c.put_row_at.new.to in
    let end : (c.rows.k + 1) * (2 * c.args.source.now.head.cols)
    ≡ c.rows.k * (2 * c.args.source.now.head.cols) + 2 * c.args.source.now.head.cols = omega arith in
    ap (λ n. take n to) end ∙ c.put_row_at.ensures ∙ ap (λ l. l ++ posts_text (row_of_posts s (c.args.first + k)))
    c.rows.invariant ∙ sym (gathered_more s c.args.first k)
