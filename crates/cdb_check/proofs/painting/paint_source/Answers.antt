use Rattle.std.proofs.Common.{refl, arith}
use Rattle.std.proofs.lemmas.Int.{ints}
use Rattle.cdb_cut.proofs.PaintedSources.{pass_window, painted_one}
use Rattle.cdb_check.proofs.painting.paint_source.Goals as goal

pub returns-in_default : goal.returns-in_default
returns-in_default c ss own before =
    pass_window ss c.args.tile.now c.args.source.now own c.args.frame.now c.in_default.ensures before

pub returns : goal.returns
returns c ss own before =
    let s = c.args.source.now in
    let rows = c.in-Some.rows in
    painted_one ss c.args.tile.now s own c.args.frame.now c.paint.new.frame c.posts_of.result.now rows.first rows.count
    s.head refl c.in-Some.ensures (omega (arith, ints, c.if-head-tile.false)) c.posts_of.ensures.posts
    c.paint.ensures.painted before
