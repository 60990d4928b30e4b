-- Half of each index, one level coarser.
use Rattle.std.proofs.Common.{◌<◌, ◌/◌, Some, ap, subst, sym, refl}
use Rattle.cdb_grid.specs.Units.{tiles_of}
use Rattle.cdb_grid.proofs.UnitLaws.{height-finer}
use Rattle.cdb_grid.proofs.PyramidLaws.{half_index, is_parent, one_parent}
use Rattle.cdb_grid.proofs.pyramid.parent.Goals as goal

pub invariant_of-result : goal.invariant_of-result
invariant_of-result c =
    let t = c.args.tile.now in
    let e = height-finer _ _ t.level.finest c.in_ok-level.ensures in
    record {
      up_in_range = subst (λ h. t.up / 2 < tiles_of h) (sym e) (half_index _ t.up t.up_in_range);
      right_in_range = subst (λ h. t.right / 2 < tiles_of h) (sym e) (half_index _ t.right t.right_in_range);
    }

pub returns-clause-parent : goal.returns-clause-parent
returns-clause-parent c = is_parent c.args.tile.now _ refl refl c.in_ok-level.ensures refl refl

pub returns-clause-only : goal.returns-clause-only
returns-clause-only c = λ p k. ap Some (one_parent c.args.tile.now _ p (returns-clause-parent c) k)
