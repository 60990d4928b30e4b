use Rattle.std.proofs.Common.{◌≡◌, length}
use Rattle.cdb_cut.specs.Painted.{Stand}
use Rattle.cdb_cut.proofs.walk.Axis.stand.Given as goal

abbrev pub invariant-loop-k : goal.invariant-loop-k
invariant-loop-k l = record {
  some : Stand l.self.start l.self.stride l.self.step l.k l.posts l.parts;
  posts_room : length l.posts ≡ length l.initial.posts;
  parts_room : length l.parts ≡ length l.initial.parts;
}
