use Rattle.std.proofs.Common.{rules, arith, ◌≡◌, take, length, ◌<◌, to_z, of_z}
use Rattle.std.proofs.lemmas.Int.{to_z-of_z}
use Rattle.std.proofs.lemmas.List.{take_more_set, length-set}
use mir.Syntax.{w16, w32}
use mir.Val.{SFits}
use Rattle.cdb_source.specs.Posts.{IsPost}
use Rattle.cdb_source.proofs.DecodingLaws.{spelled_more, a_bad_post, allowed_more}
use Rattle.cdb_source.proofs.decoding.read_posts.Goals as goal

pub returns-then-not-is_post : goal.returns-then-not-is_post
returns-then-not-is_post c =
    let fits : SFits w16 c.post_at-post.result = search rules in
    let lt : c.loop-k.k < length c.loop-k.posts = omega arith in
    let same : to_z w32 (of_z w32 c.from.result) ≡ c.post_at-post.result = search rules in
    let refused : IsPost c.args.kind c.post_at-post.result → ⊥ = λ p. let t =
    c.if-not-is_post.ensures.1 (rw same p) in absurd cc in (
      omega arith,
      a_bad_post c.args.kind c.loop-k.k c.args.text.now c.loop-k.posts c.post_at-post.result fits lt
          c.loop-k.invariant.spelled c.loop-k.invariant.allowed c.post_at-post.ensures refused,
    )

pub loop-k-preserved : goal.loop-k-preserved
loop-k-preserved c =
    let fits : SFits w16 c.post_at-post.result = search rules in
    let lt : c.loop-k.k < length c.loop-k.posts = omega arith in
    let more = take_more_set c.loop-k.posts c.loop-k.k c.post_at-post.result lt in
    let allowed : IsPost c.args.kind c.post_at-post.result = search rules in
    rw (to_z-of_z w16 c.post_at-post.result fits) (record {
      spelled = spelled_more c.loop-k.k c.args.text.now c.loop-k.posts c.post_at-post.result lt
          c.loop-k.invariant.spelled c.post_at-post.ensures more;
      allowed =
          rw more (allowed_more c.args.kind (take c.loop-k.k c.loop-k.posts)
          c.post_at-post.result c.loop-k.invariant.allowed allowed);
      room = rw length-set c.loop-k.invariant.room;
    })
