use Rattle.std.proofs.Common.{rules, ◌≡◌, ◌+◌, ◌*◌, ◌∙◌, ℤ, pos, ◌+ℤ◌, ◌≤ℤ◌, w64, to_z, of_z, take, [], ◌∷◌, ap, sym}
use Rattle.std.proofs.Common.{subst, arith}
use Rattle.std.proofs.lemmas.List.{take_all}
use Rattle.cdb_grid.specs.declared.tile.Tile.{Tile}
use Rattle.cdb_model.specs.Publications.{sources_up_to}
use Rattle.cdb_model.specs.Stores.{known}
use Rattle.cdb_generate.specs.Sums.{tile_sum, tiles_sum}
use Rattle.cdb_generate.proofs.SumLaws.{sums_in_order}
use Rattle.cdb_engine.specs.inside.Populating.{IsOpenAt}
use Rattle.cdb_engine.proofs.AskLaws.{one_of, least_more, most_more}
use Rattle.cdb_engine.proofs.tile_sums.sum_tiles.Goals as goal

pub loop-tile-preserved : goal.loop-tile-preserved
loop-tile-preserved g c =
    let i = c.loop-tile.tile-index in
    let tiles = c.args.tiles.now in
    let t = c.tile-item.result in
    let old : ℤ = to_z w64 c.loop-tile.sum-bits in
    let more : ℤ = c.in-Ok.more in
    let next : to_z w64 (of_z w64 (old +ℤ to_z w64 (of_z w64 more))) ≡ old +ℤ more = search rules in
    record {
      stays = λ w origin s stays. c.in-Ok.ensures.asks w origin s (c.loop-tile.invariant.stays w origin s stays);
      sum = λ origin s version stays at.
          let ss = sources_up_to version s.list in
          let before : old ≡ tiles_sum ss (take i tiles) = c.loop-tile.invariant.sum origin s version stays at in
          let open_at = subst (λ (u : Tile). IsOpenAt s c.args.id version (u ∷ [])) (sym c.tile-item.is)
          (one_of s c.args.id version tiles i t c.loop-tile-test.true at) in
          let here : more ≡ tile_sum ss t =
          c.in-Ok.ensures.sum origin s version (c.loop-tile.invariant.stays known origin s stays) open_at in
          next ∙ (λ k. before k +ℤ here k)
          ∙ ap (λ (u : Tile). tiles_sum ss (take i tiles) +ℤ tile_sum ss u) c.tile-item.is
          ∙ sym (sums_in_order.more ss tiles i t c.loop-tile-test.true);
      least = subst (λ (z : ℤ). pos 0 ≤ℤ (z +ℤ pos (34359738368 * (i + 1)))) (sym next)
          (least_more old more i c.loop-tile.invariant.least c.in-Ok.ensures.least);
      most = subst (λ (z : ℤ). z ≤ℤ pos (34359738368 * (i + 1))) (sym next)
          (most_more old more i c.loop-tile.invariant.most c.in-Ok.ensures.most);
      frame = c.in-Ok.ensures.frame ∙ c.loop-tile.invariant.frame;
      later = omega (arith, c.in-Ok.ensures.later, c.loop-tile.invariant.later);
    }

pub returns-clause-sum : goal.returns-clause-sum
returns-clause-sum g c = λ origin s version stays at.
    c.loop-tile.invariant.sum origin s version stays at
    ∙ ap (tiles_sum (sources_up_to version s.list))
    (take_all c.loop-tile.tile-index c.args.tiles.now c.loop-tile-test.false)
