use Rattle.std.proofs.Common.{rules, pos, get_or, arith, ◌<◌, length}
use Rattle.std.proofs.lemmas.Int.{to_z-of_z}
use mir.Syntax.{w16, w32}
use mir.Val.{SFits}
use Rattle.cdb_source.proofs.RowLaws.{posts_more, in_range_more}
use Rattle.cdb_source.proofs.row.put_posts.Goals as goal

pub loop-k-preserved : goal.loop-k-preserved
loop-k-preserved c =
    let fits : SFits w32 (get_or c.args.row.now c.loop-k.k (pos 0)) = search rules in
    let same = to_z-of_z w32 (get_or c.args.row.now c.loop-k.k (pos 0)) fits in
    let short : SFits w16 c.post.result = search rules in
    let within : c.loop-k.k < length c.loop-k.part = omega arith in
    rw (to_z-of_z w16 c.post.result short) (record {
      posts = posts_more _ c.loop-k.part c.args.row.now c.loop-k.k c.post.result within
          c.loop-k-test.true c.loop-k.invariant.posts (rw same at c.post.ensures.value);
      in_range = in_range_more c.args.kind c.loop-k.part c.loop-k.k c.post.result within
          c.loop-k.invariant.in_range c.post.ensures.in_range;
    })
