use Rattle.std.proofs.Common.{rules, ◌+◌, ◌*◌, pos, get_or}
use Rattle.std.proofs.lemmas.Int.{to_z-of_z}
use mir.Syntax.{w16}
use mir.Val.{SFits}
use Rattle.cdb_cut.proofs.PostLaws.{post_is}
use Rattle.cdb_cut.proofs.raster.post.Goals as goal

pub returns-clause-value : goal.returns-clause-value
returns-clause-value c =
    let fits : SFits w16
    (get_or c.as_slice.result.now (c.args.row * c.args.source.now.head.cols + c.args.col) (pos 0)) = search rules in
    rw (c.value.ensures.value, to_z-of_z w16 _ fits, c.as_slice.ensures)
    (post_is c.args.source.now.head.kind c.args.source.now.posts c.args.row c.args.col c.args.source.now.head.rows
    c.args.source.now.head.cols c.if-row-source.false c.if-col-source.false c.args.source.now.count)
