use Rattle.std.proofs.Common.{◌≡◌, ◌≤◌, ◌+◌, ◌++◌, length}
use Rattle.cdb_engine.proofs.drawn_sources.submit_all.Given as goal

abbrev pub invariant-loop-sources : goal.invariant-loop-sources
invariant-loop-sources l = record {
  engine : l.engine ≡ record l.fn.engine { pending = l.engine.pending };
  all : l.engine.pending ++ l.sources.items ≡ l.fn.engine.pending ++ l.fn.sources.items;
  room : length l.engine.pending + length l.sources.items ≤ 64;
}

abbrev pub decreases-loop-sources : goal.decreases-loop-sources
decreases-loop-sources l = length l.sources.items
