use Rattle.std.proofs.Common.{arith, ◌≡◌, ◌+◌, ◌-◌, ◌*◌, sym, ◌∙◌}
use Rattle.cdb_source.specs.Texts.{posts_text, row_of_posts}
use Rattle.cdb_source.proofs.TextLaws.{row_in_file}
use Rattle.cdb_source.proofs.encoding.encode_row.Goals as goal

pub returns : goal.returns
returns c =
    let source = c.args.source.now in
    let cols : c.args.r * source.head.cols + source.head.cols - c.args.r * source.head.cols
    ≡ source.head.cols = omega arith in
    let posts : c.put_posts.new.to ≡ posts_text (row_of_posts source c.args.r) = c.put_posts.ensures
    ∙ rw (c.as_slice.ensures, cols) in
    record { posts = posts; part = posts ∙ sym (row_in_file source (c.args.r * source.head.cols) source.head.cols) }
