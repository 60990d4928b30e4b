use Rattle.std.proofs.Common.{◌≡◌, ℕ, ◌+◌, ◌<◌, ◌≤◌, sym, subst, arith, rules}
use Rattle.cdb_grid.proofs.UnitLaws.{height-least}
use Rattle.cdb_source.specs.Reached.{source_height}
use Rattle.cdb_touch.specs.inside.Count.{HasCount}
use Rattle.cdb_touch.proofs.Below.{IsBelowHeight}
use Rattle.cdb_touch.proofs.LoadLaws.{IsSmall, no_height, one_height_more, all_heights_counted, small_none, small_more, small_end, small_fits}
use Rattle.cdb_touch.proofs.loads.count_of_family.Goals as goal

pub loop-height-init : goal.loop-height-init
loop-height-init c =
    let h : ℕ = c.height-height.result in
    let e : h ≡ source_height c.args.head.now = c.height-height.ensures.value in
    record {
      finer = omega arith;
      each = λ f ek. subst (λ k. HasCount (IsBelowHeight c.args.head.now f k) 0) (sym e) (no_height c.args.head.now f);
      small = small_none h c.height-height.ensures.least;
    }

pub loop-height-preserved : goal.loop-height-preserved
loop-height-preserved c =
    let h : ℕ = c.loop-height.height in
    let k : 1 ≤ source_height c.args.head.now =
    height-least c.args.head.now.level.number c.args.head.now.level.finest in
    let g = c.loop-height.invariant.finer in
    record {
      finer = omega arith;
      each = λ f ek. one_height_more c.args.head.now f h c.loop-height.count c.count_at_height-count.result
          (c.loop-height.invariant.each f ek) (c.count_at_height-count.ensures.each f ek);
      small = small_more h c.loop-height.count c.count_at_height-count.result (omega arith)
          c.count_at_height-count.ensures.most c.loop-height.invariant.small;
    }

pub overflow_add-count : goal.overflow_add-count
overflow_add-count c =
    let h : ℕ = c.loop-height.height in
    let k : 1 ≤ source_height c.args.head.now =
    height-least c.args.head.now.level.number c.args.head.now.level.finest in
    let g = c.loop-height.invariant.finer in
    let s : IsSmall (h + 1) (c.loop-height.count + c.count_at_height-count.result) =
    small_more h c.loop-height.count c.count_at_height-count.result (omega arith)
    c.count_at_height-count.ensures.most c.loop-height.invariant.small in
    let t = c.loop-height-test.true in
    let below : c.loop-height.count + c.count_at_height-count.result < 18446744073709551616 =
    small_fits (h + 1) (c.loop-height.count + c.count_at_height-count.result) (omega arith) s in
    search (rules, below)

pub returns-clause-each : goal.returns-clause-each
returns-clause-each c f ek =
    let e : c.loop-height.height ≡ 35 = let a = c.loop-height-test.false in let b = c.loop-height.auto.height-end in
    let m = c.height-height.ensures.most in omega arith in
    all_heights_counted c.args.head.now f c.loop-height.count
    (subst (λ k. HasCount (IsBelowHeight c.args.head.now f k) c.loop-height.count) e
    (c.loop-height.invariant.each f ek))

pub returns-clause-most : goal.returns-clause-most
returns-clause-most c =
    let e : c.loop-height.height ≡ 35 = let a = c.loop-height-test.false in let b = c.loop-height.auto.height-end in
    let m = c.height-height.ensures.most in omega arith in
    small_end c.loop-height.count (subst (λ k. IsSmall k c.loop-height.count) e c.loop-height.invariant.small)
