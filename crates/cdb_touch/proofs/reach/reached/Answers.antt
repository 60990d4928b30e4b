use Rattle.std.proofs.Common.{refl}
use Rattle.cdb_source.specs.declared.source.Source.{Source}
use Rattle.cdb_source.specs.Reached.{Reaches}
use Rattle.cdb_touch.proofs.ReachedLaws.{none_more, none_of_all, reached_at, none_reached}
use Rattle.cdb_touch.proofs.reach.reached.Goals as goal

pub returns-then-reaches : goal.returns-then-reaches
returns-then-reaches c = (
  (λ _. reached_at c.args.tile.now c.args.sources.now c.loop-source.source-index c.source-item.result
      c.loop-source-test.true c.source-item.is (c.reaches.ensures.0 c.if-reaches.true)),
  (λ _. refl),
)

pub loop-source-preserved : goal.loop-source-preserved
loop-source-preserved c =
    none_more (λ (s : Source). Reaches s.head c.args.tile.now → ⊥)
    c.args.sources.now c.loop-source.source-index c.source-item.result
    c.loop-source-test.true c.source-item.is c.loop-source.invariant
    (λ r. let yes = c.reaches.ensures.1 r in let f = c.if-reaches.false in cc)

pub returns : goal.returns
returns c = (
  (λ t. absurd (cc)),
  (λ r. absurd
      (none_reached c.args.tile.now c.args.sources.now (none_of_all (λ (s : Source). Reaches s.head c.args.tile.now → ⊥)
      c.args.sources.now c.loop-source.source-index
      c.loop-source-test.false c.loop-source.invariant) r)),
)
