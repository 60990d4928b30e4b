use Rattle.std.proofs.Common.{◌≡◌, ◌∙◌, ◌-◌, ◌∷◌, List, drop, length, refl, sym, ap, subst, arith}
use Rattle.cdb_source.specs.declared.source.Source.{Source}
use Rattle.cdb_cut.specs.OneTile.{IsPaintedBy}
use Rattle.cdb_cut.proofs.PaintedSources.{one_older}
use Rattle.cdb_check.proofs.painting.paint_sources.Goals as goal

pub loop-done-preserved : goal.loop-done-preserved
loop-done-preserved c ss begun =
    let x : List Source = c.args.sources.now in
    let n = length x in let k = c.loop-done.done in
    let s : Source = c.index-sources-count.result in
    subst (λ own. IsPaintedBy ss c.args.tile.now own c.paint_source.new.frame)
    (sym (one_older x n k s refl c.loop-done-test.true ∙ ap (λ y. y ∷ drop (n - k) x) (sym c.index-sources-count.is)))
    (c.paint_source.ensures ss (drop (n - k) x) (c.loop-done.invariant ss begun))

pub returns : goal.returns
returns c ss begun =
    let n = length c.args.sources.now in let k = c.loop-done.done in
    let zero_left : n - k ≡ 0 = omega (arith, c.loop-done-test.false) in
    subst (λ i. IsPaintedBy ss c.args.tile.now (drop i c.args.sources.now) c.loop-done.frame) zero_left
    (c.loop-done.invariant ss begun)
