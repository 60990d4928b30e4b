use Rattle.std.proofs.Common.{◌≡◌, ◌++◌}
use Rattle.cdb_generate.specs.Generator.{row_drawn, posts_drawn}
use Rattle.cdb_generate.proofs.sources.posts.Given as goal

abbrev pub invariant-loop-row : goal.invariant-loop-row
invariant-loop-row l = l.posts.items ≡ posts_drawn l.kind l.base l.row l.cols

abbrev pub invariant-loop-col : goal.invariant-loop-col
invariant-loop-col l = l.posts.items ≡ posts_drawn l.kind l.base l.row l.cols ++ row_drawn l.kind l.base l.col l.row
