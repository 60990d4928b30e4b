use Rattle.std.proofs.Common.{refl}
use Rattle.cdb_grid.specs.Grid.{Place}
use Rattle.cdb_source.specs.declared.source.Source.{Source}
use Rattle.cdb_scratch.specs.inside.Cells.{ReachesCell}
use Rattle.cdb_touch.proofs.ReachedLaws.{none_more, none_of_all}
use Rattle.cdb_scratch.proofs.ReachedLaws.{cell_reached_at, no_cell_reached}
use Rattle.cdb_scratch.proofs.reach.is_cell_reached.Goals as goal

pub returns-then-reaches_cell : goal.returns-then-reaches_cell
returns-then-reaches_cell c = let p : Place = record { north = c.args.north; east = c.args.east } in (
  (λ _. cell_reached_at c.args.kind c.args.height p c.args.sources.now c.loop-source.source-index c.source-item.result
      c.loop-source-test.true c.source-item.is (c.reaches_cell.ensures.0 c.if-reaches_cell.true)),
  (λ _. refl),
)

pub loop-source-preserved : goal.loop-source-preserved
loop-source-preserved c =
    none_more
    (λ (s : Source). ReachesCell c.args.kind c.args.height (record { north = c.args.north; east = c.args.east })
    s.head → ⊥) c.args.sources.now c.loop-source.source-index c.source-item.result
    c.loop-source-test.true c.source-item.is c.loop-source.invariant
    (λ r. let yes = c.reaches_cell.ensures.1 r in let f = c.if-reaches_cell.false in cc)

pub returns : goal.returns
returns c = let p : Place = record { north = c.args.north; east = c.args.east } in (
  (λ t. absurd (cc)),
  (λ r. absurd
      (no_cell_reached c.args.kind c.args.height p
      c.args.sources.now (none_of_all (λ (s : Source). ReachesCell c.args.kind c.args.height p s.head → ⊥)
      c.args.sources.now c.loop-source.source-index
      c.loop-source-test.false c.loop-source.invariant) r)),
)
