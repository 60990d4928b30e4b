use Rattle.std.proofs.Common.{◌≡◌, All, map, take}
use Rattle.cdb_source.specs.Posts.{IsPost, post_of}
use Rattle.cdb_source.proofs.row.put_posts.Given as goal

abbrev pub invariant-loop-k : goal.invariant-loop-k
invariant-loop-k l = record {
  posts : take l.k l.part ≡ map (post_of l.fn.kind l.fn.novalue) (take l.k l.row);
  in_range : All (IsPost l.fn.kind) (take l.k l.part);
}
