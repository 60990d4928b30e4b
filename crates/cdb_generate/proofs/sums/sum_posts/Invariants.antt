use Rattle.std.proofs.Common.{◌≡◌, ◌*◌, pos, ◌+ℤ◌, ◌≤ℤ◌, take}
use Rattle.cdb_generate.specs.Sums.{numbers_sum}
use Rattle.cdb_generate.proofs.sums.sum_posts.Given as goal

abbrev pub invariant-loop-post : goal.invariant-loop-post
invariant-loop-post l = record {
  sum : l.sum ≡ numbers_sum l.kind (take l.post-index l.posts);
  least : pos 0 ≤ℤ (l.sum +ℤ pos (32768 * l.post-index));
  most : l.sum ≤ℤ pos (32768 * l.post-index);
}
