-- Which sources reach a finer tile.
use Rattle.std.proofs.Common.{List, All, get_or, map}
use Rattle.std.proofs.lemmas.Option.{slice_get-get_or}
use Rattle.cdb_grid.specs.declared.tile.Tile.{Tile}
use Rattle.cdb_source.specs.declared.source.Source.{Source}
use Rattle.cdb_source.specs.Reached.{Reaches, Reached}
use Rattle.cdb_crash.proofs.PlanNumbers.{get-map}

pub none_reaches : (ss : List Source) (t : Tile) → (Reached (map (λ (s : Source). s.head) ss) t → ⊥)
    → All (λ (s : Source). Reaches s.head t → ⊥) ss
none_reaches ss t none = λ k d below reaches. none (record {
  number = k;
  head = (get_or ss k d).head;
  there = get-map (λ (s : Source). s.head) ss k (get_or ss k d) (slice_get-get_or ss k d below);
  reaches = reaches;
})
