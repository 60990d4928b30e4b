use Rattle.std.proofs.Common.{◌≡◌, ◌*◌, length}
use Rattle.cdb_generate.specs.Generator.{state_after, state_after_draws, SourcesDrawn}
use Rattle.cdb_generate.proofs.sources.draw_publication.Given as goal

abbrev pub invariant-loop-k : goal.invariant-loop-k
invariant-loop-k l = record {
  sources : SourcesDrawn (state_after l.fn.state) l.sources.items;
  count : length l.sources.items ≡ l._k;
  state : l.state ≡ state_after_draws (7 * l._k) (state_after l.fn.state);
}
