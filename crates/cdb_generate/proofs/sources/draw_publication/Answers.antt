use Rattle.std.proofs.Common.{◌≡◌, ◌+◌, ◌*◌, ◌++◌, ◌∷◌, [], ◌∙◌, List, length, sym, ap, subst, arith}
use Rattle.std.proofs.lemmas.List.{length-append}
use Rattle.cdb_source.specs.declared.source.Source.{Source}
use Rattle.cdb_generate.specs.Generator.{state_after, state_after_draws, SourceDrawn, SourcesDrawn}
use Rattle.cdb_generate.proofs.MakeLaws.{after_add, sources_more}
use Rattle.cdb_generate.proofs.sources.draw_publication.Goals as goal

pub loop-k-preserved : goal.loop-k-preserved
loop-k-preserved c =
    let x = state_after c.args.state.now in
    let k = c.loop-k._k in
    let ss = c.loop-k.sources.items in
    let s = c.in_ok-draw_source.field-0 in
    let items : c.push.new.self.items ≡ ss ++ s ∷ [] = c.in_ok-push.ensures.items in
    let counted : 7 * k ≡ 7 * length ss = ap (λ n. 7 * n) (sym c.loop-k.invariant.count) in
    let drawn : SourceDrawn (state_after_draws (7 * k) x) s =
    subst (λ n. SourceDrawn n s) c.loop-k.invariant.state c.in_ok-draw_source.ensures.source in
    let number : 7 * k + 7 ≡ 7 * (k + 1) = omega arith in
    record {
      sources = subst (λ (zs : List Source). SourcesDrawn x zs) (sym items) (sources_more x ss s
          (7 * k) counted c.loop-k.invariant.sources drawn);
      count = ap length items ∙ length-append ss (s ∷ []) ∙ ap (λ n. n + 1) c.loop-k.invariant.count;
      state = c.draw_source.ensures.state ∙ ap (state_after_draws 7) c.loop-k.invariant.state ∙ after_add (7 * k) 7 x
          ∙ ap (λ n. state_after_draws n x) number;
    }
