-- Twice each index, and the half.
use Rattle.std.proofs.Common.{ℕ, ◌<◌, ◌≤◌, subst, arith}
use Rattle.cdb_grid.specs.Units.{tiles_of, height_of}
use Rattle.cdb_grid.proofs.UnitLaws.{height-finer}
use Rattle.cdb_grid.proofs.PyramidLaws.{index_half, height-from}
use Rattle.cdb_grid.proofs.pyramid.quarter.Goals as goal

pub invariant_of-result : goal.invariant_of-result
invariant_of-result c =
    let t = c.args.tile.now in
    let h : ℕ = height_of c.args.level.number in
    let e = height-finer t.level.number c.args.level.number c.args.level.finest c.requires.level in
    let top = height-from t.level.number c.requires.from in
    let fine : h ≤ 23 = omega arith in
    record {
      up_in_range = index_half h t.up c.args.north fine (subst (λ k. t.up < tiles_of k) e t.up_in_range)
          c.requires.north;
      right_in_range = index_half h t.right c.args.east fine (subst (λ k. t.right < tiles_of k) e t.right_in_range)
          c.requires.east;
    }
