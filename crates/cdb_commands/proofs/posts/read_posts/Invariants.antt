use Rattle.std.proofs.Common.{◌≡◌, ◌+◌, ◌≤◌, length}
use Rattle.cdb_commands.specs.Left.{left}
use Rattle.cdb_commands.proofs.PostLemmas.{read_all, with_front}
use Rattle.cdb_commands.proofs.posts.read_posts.Given as goal

abbrev pub invariant-loop-word : goal.invariant-loop-word
invariant-loop-word l = record {
  all : read_all (left l.fn.words) ≡ with_front l.posts.items (read_all (left l.left));
  count : length (left l.fn.words) ≡ length l.posts.items + length (left l.left);
  few : length l.posts.items ≤ 64;
}

abbrev pub decreases-loop-word : goal.decreases-loop-word
decreases-loop-word l = length (left l.left)
