use Rattle.std.proofs.Common.{◌≡◌, ◌*◌, take, length}
use Rattle.cdb_source.specs.Texts.{posts_text}
use Rattle.cdb_source.proofs.encoding.put_posts.Given as goal

abbrev pub invariant-loop-k : goal.invariant-loop-k
invariant-loop-k l = record {
  written : take (2 * l.k) l.to ≡ posts_text (take l.k l.posts);
  room : length l.to ≡ 2 * length l.posts;
}
