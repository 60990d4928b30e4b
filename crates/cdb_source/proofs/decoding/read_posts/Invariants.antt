use Rattle.std.proofs.Common.{◌≡◌, ◌*◌, ◌++◌, take, drop, All, length}
use Rattle.cdb_source.specs.Posts.{IsPost}
use Rattle.cdb_source.specs.Texts.{posts_text}
use Rattle.cdb_source.proofs.decoding.read_posts.Given as goal

abbrev pub invariant-loop-k : goal.invariant-loop-k
invariant-loop-k l = record {
  spelled : l.text ≡ posts_text (take l.k l.posts) ++ drop (2 * l.k) l.text;
  allowed : All (IsPost l.fn.kind) (take l.k l.posts);
  room : length l.fn.text ≡ 2 * length l.posts;
}
