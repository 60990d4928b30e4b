use Rattle.std.proofs.Common.{◌≡◌, ℕ, ◌+◌, ◌≤◌, sym, subst, arith}
use Rattle.cdb_source.specs.Reached.{source_height}
use Rattle.cdb_touch.specs.inside.Reach.{IsOfHeight, IsOfFamily}
use Rattle.cdb_touch.proofs.Below.{IsBelowHeight}
use Rattle.cdb_touch.specs.inside.Touched.{AddsTiles}
use Rattle.cdb_touch.proofs.AddLaws.{Adds-none, Adds-then, Adds-iff}
use Rattle.cdb_touch.proofs.LoadLaws.{height_none, one_height_split, all_heights_same}
use Rattle.cdb_touch.proofs.gather.push_family.Goals as goal

pub loop-height-init : goal.loop-height-init
loop-height-init c =
    let e : c.height-height.result ≡ source_height c.args.head.now = c.height-height.ensures.value in
    record {
      finer = omega arith;
      adds = subst (λ k. AddsTiles (IsBelowHeight c.args.head.now c.args.family k)
          c.args.tiles.now.items c.args.tiles.now.items) (sym e)
          (Adds-none (IsBelowHeight c.args.head.now c.args.family (source_height c.args.head.now))
          c.args.tiles.now.items (height_none c.args.head.now c.args.family));
    }

pub loop-height-preserved : goal.loop-height-preserved
loop-height-preserved c =
    let h : ℕ = c.loop-height.height in
    let f = c.args.family in
    let g = c.loop-height.invariant.finer in
    record {
      finer = omega arith;
      adds = Adds-then (IsBelowHeight c.args.head.now f h) (IsOfHeight c.args.head.now f h)
          (IsBelowHeight c.args.head.now f (h + 1))
          c.args.tiles.now.items c.loop-height.tiles.items c.push_height.new.tiles.items c.loop-height.invariant.adds
          c.in_ok-push_height.ensures
          (one_height_split c.args.head.now f h);
    }

pub returns : goal.returns
returns c =
    let h : ℕ = c.loop-height.height in
    let past : 35 ≤ h = c.loop-height-test.false in
    Adds-iff (IsBelowHeight c.args.head.now c.args.family h) (IsOfFamily c.args.head.now c.args.family)
    c.args.tiles.now.items c.loop-height.tiles.items (all_heights_same c.args.head.now c.args.family h past)
    c.loop-height.invariant.adds
