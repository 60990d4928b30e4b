use Rattle.std.proofs.Common.{rules, ◌≡◌, ◌+◌, ◌*◌, ◌∙◌, pos, ◌+ℤ◌, ◌≤ℤ◌, ℤ, w64, to_z, of_z, get_or, take, ap, sym, subst}
use Rattle.std.proofs.lemmas.List.{take_all}
use Rattle.cdb_generate.specs.Sums.{numbers_sum, number_value}
use Rattle.cdb_generate.proofs.SumLaws.{numbers_more, least_more, most_more, sums_tiles}
use Rattle.cdb_generate.proofs.sums.sum_posts.Goals as goal

pub loop-post-preserved : goal.loop-post-preserved
loop-post-preserved c =
    let i = c.loop-post.post-index in
    let posts = c.args.posts.now in
    let old : ℤ = to_z w64 c.loop-post.sum-bits in
    let added : ℤ = c.value-sum.result in
    let next : to_z w64 (of_z w64 (old +ℤ to_z w64 (of_z w64 added))) ≡ old +ℤ added = search rules in
    let is : added ≡ number_value c.args.kind (get_or posts i (pos 0)) = search rules in
    record {
      sum = next ∙ (λ k. c.loop-post.invariant.sum k +ℤ is k)
          ∙ sym (numbers_more c.args.kind posts i c.loop-post-test.true);
      least = subst (λ z. pos 0 ≤ℤ (z +ℤ pos (32768 * (i + 1)))) (sym next)
          (least_more old added i c.loop-post.invariant.least c.value-sum.ensures.least);
      most = subst (λ z. z ≤ℤ pos (32768 * (i + 1))) (sym next)
          (most_more old added i c.loop-post.invariant.most c.value-sum.ensures.most);
    }

pub returns-clause-tile : goal.returns-clause-tile
returns-clause-tile c =
    let whole : take c.loop-post.post-index c.args.posts.now ≡ c.args.posts.now =
    take_all c.loop-post.post-index c.args.posts.now c.loop-post-test.false in
    sums_tiles c.args.kind c.args.posts.now (to_z w64 c.loop-post.sum-bits) (c.loop-post.invariant.sum
    ∙ ap (numbers_sum c.args.kind) whole)
