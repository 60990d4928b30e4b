use Rattle.std.proofs.Common.{◌≡◌, ℕ, ◌+◌, ◌≤◌, ◌++◌, ◌∷◌, [], subst, sym, arith}
use Rattle.cdb_grid.specs.declared.tile.Tile.{Tile}
use Rattle.cdb_touch.specs.declared.axis.Run.{Run}
use Rattle.cdb_touch.specs.inside.Numbers.{IsInRow}
use Rattle.cdb_touch.specs.inside.Touched.{AddsTiles}
use Rattle.cdb_touch.proofs.AddLaws.{Adds-none, Adds-one, Adds-then, Adds-iff, one_column_more, no_column, all_columns}
use Rattle.cdb_touch.proofs.gather.push_row.Goals as goal

pub loop-column-init : goal.loop-column-init
loop-column-init c = record {
  adds = Adds-none
      (IsInRow c.args.family c.args.height c.args.row (record c.args.columns { end = c.args.columns.first }))
      c.args.tiles.now.items
      (no_column c.args.family c.args.height c.args.row c.args.columns);
  most = omega arith;
}

pub loop-column-preserved : goal.loop-column-preserved
loop-column-preserved c =
    let x : ℕ = c.loop-column.column in
    let run : Run = c.args.columns in
    let t : Tile = c.tile_at.result in
    let from : run.first ≤ x = c.loop-column.auto.column in
    let pushed : c.push.new.self.items ≡ c.loop-column.tiles.items ++ t ∷ [] = c.in_ok-push.ensures.items in
    record {
      adds = Adds-then (IsInRow c.args.family c.args.height c.args.row (record run { end = x })) (λ u. t ≡ u)
          (IsInRow c.args.family c.args.height c.args.row (record run { end = x + 1 }))
          c.args.tiles.now.items c.loop-column.tiles.items c.push.new.self.items c.loop-column.invariant.adds
          (subst (λ ys. AddsTiles (λ u. t ≡ u) c.loop-column.tiles.items ys) (sym pushed)
          (Adds-one c.loop-column.tiles.items t))
          (λ u. one_column_more c.args.family c.args.height c.args.row x run t u c.tile_at.ensures from);
      most = let a = c.loop-column-test.true in omega arith;
    }

pub returns : goal.returns
returns c =
    let x : ℕ = c.loop-column.column in
    let run : Run = c.args.columns in
    Adds-iff (IsInRow c.args.family c.args.height c.args.row (record run { end = x }))
    (IsInRow c.args.family c.args.height c.args.row run)
    c.args.tiles.now.items c.loop-column.tiles.items
    (λ u. all_columns c.args.family c.args.height c.args.row x run u
    c.loop-column.invariant.most c.loop-column-test.false)
    c.loop-column.invariant.adds
