use Rattle.std.proofs.Common.{◌≡◌, ◌∙◌, ◌+◌, ◌*◌, ◌/◌, ◌%◌, ◌≤◌, ◌∷◌, ◌++◌, [], List, take, sym, ap, subst, arith}
use Rattle.std.proofs.lemmas.Int.{ints}
use Rattle.std.proofs.lemmas.List.{take_more, take_all}
use Rattle.cdb_grid.specs.Children.{IsParent}
use Rattle.cdb_grid.specs.Frames.{IsPartChanged, four_under}
use Rattle.cdb_grid.specs.Tiles.{tile_side}
use Rattle.cdb_grid.specs.declared.tile.Tile.{Tile}
use Rattle.cdb_grid.proofs.ChildPlaces.{height-under}
use Rattle.cdb_cut.specs.OneTile.{StandsIn, IsFolded, four_rule, no_values, elevations_of}
use Rattle.cdb_cut.proofs.ChildPlaces.{stands_at}
use Rattle.cdb_cut.proofs.OneTile as one
use Rattle.cdb_cut.proofs.OneTileWhole.{start_elevation, extreme_whole, paint_start, own_whole}
use Rattle.cdb_cut.specs.FinerTiles.{AreChildren, elevation_tile}
use Rattle.cdb_cut.proofs.FinerTiles.{even_side, parents, all_folded}
use Rattle.cdb_cut.proofs.FrameStarts.{extreme_kind, plain_elevations, elevations_same}
use Rattle.cdb_check.proofs.MakingLaws.{none_reaches}
use Rattle.cdb_check.proofs.making.+making.Goals as goal

-- ---- one finer tile

pub fold_child-spot_of-spot-requires : goal.fold_child-spot_of-spot-requires
fold_child-spot_of-spot-requires t c =
    omega (arith, ints, c.requires.parent.coarser, c.args.tile.now.level.coarsest)

pub fold_child-returns-then-not-reached : goal.fold_child-returns-then-not-reached
fold_child-returns-then-not-reached t c start done plain before =
    let ss = c.args.sources.now in let child = c.args.child.now in let tile = c.args.tile.now in
    let s = c.spot_of-spot.result in let e = c.spot_of-spot.ensures in
    let at : StandsIn child tile s.row s.col =
    stands_at child tile s.row s.col c.requires.parent e.begins e.row_fits e.col_fits in
    one.miss_child ss tile start child s.row s.col at
    (none_reaches ss child (λ r. let yes = c.reached.ensures.1 r in let no = c.if-not-reached.true in cc)) done
    c.args.frame.now before

pub fold_child-make_tile-requires : goal.fold_child-make_tile-requires
fold_child-make_tile-requires t c =
    let above = height-under c.args.child.now c.args.tile.now c.requires.parent in (
      omega (arith, above),
      (
        c.requires.kept,
        c.split_at_mut-part.ensures.front_len ∙ ap (λ n. n * n) c.side-child_side.ensures.value,
      ),
    )

pub fold_child-fold-requires-clause-even : goal.fold_child-fold-requires-clause-even
fold_child-fold-requires-clause-even t c =
    let child = c.args.child.now in let tile = c.args.tile.now in
    let s = c.spot_of-spot.result in let e = c.spot_of-spot.ensures in
    let at : StandsIn child tile s.row s.col =
    stands_at child tile s.row s.col c.requires.parent e.begins e.row_fits e.col_fits in
    subst (λ n. n % 2 ≡ 0) (sym c.side-child_side.ensures.value) (even_side child tile s.row s.col at)

pub fold_child-fold-requires-clause-row_fits : goal.fold_child-fold-requires-clause-row_fits
fold_child-fold-requires-clause-row_fits t c =
    let child = c.args.child.now in let tile = c.args.tile.now in
    let s = c.spot_of-spot.result in let e = c.spot_of-spot.ensures in
    let at : StandsIn child tile s.row s.col =
    stands_at child tile s.row s.col c.requires.parent e.begins e.row_fits e.col_fits in
    subst (λ n. s.row + n / 2 ≤ c.side.result) (sym c.side-child_side.ensures.value)
    (subst (λ m. s.row + tile_side child / 2 ≤ m) (sym c.side.ensures.value) at.row_fits)

pub fold_child-fold-requires-clause-col_fits : goal.fold_child-fold-requires-clause-col_fits
fold_child-fold-requires-clause-col_fits t c =
    let child = c.args.child.now in let tile = c.args.tile.now in
    let s = c.spot_of-spot.result in let e = c.spot_of-spot.ensures in
    let at : StandsIn child tile s.row s.col =
    stands_at child tile s.row s.col c.requires.parent e.begins e.row_fits e.col_fits in
    subst (λ n. s.col + n / 2 ≤ c.side.result) (sym c.side-child_side.ensures.value)
    (subst (λ m. s.col + tile_side child / 2 ≤ m) (sym c.side.ensures.value) at.col_fits)

pub fold_child-returns : goal.fold_child-returns
fold_child-returns t c start done plain before =
    let ss = c.args.sources.now in let child = c.args.child.now in let tile = c.args.tile.now in
    let s = c.spot_of-spot.result in let e = c.spot_of-spot.ensures in
    let made = c.make_tile.new.frame in let old = c.args.frame.now in let new = c.fold.new.frame in
    let at : StandsIn child tile s.row s.col =
    stands_at child tile s.row s.col c.requires.parent e.begins e.row_fits e.col_fits in
    one.fold_child ss tile start child s.row s.col at plain made c.make_tile.ensures done old new before
    (subst (λ n. IsPartChanged (four_under (four_rule tile.family) made (tile_side child)) s.row s.col
    (tile_side child / 2) (tile_side child / 2) n old new) c.side.ensures.value
    (subst (λ n. IsPartChanged (four_under (four_rule tile.family) made n) s.row s.col (n / 2) (n / 2) c.side.result
    old new) c.side-child_side.ensures.value c.fold.ensures))

-- ---- all of them

pub fold_children-fold_child-requires : goal.fold_children-fold_child-requires
fold_children-fold_child-requires t c = (
  omega arith,
  (
    c.requires.kept,
    (
      subst (λ x. IsParent x c.args.tile.now) (sym c.child-item.is)
          (parents c.args.tile.now c.args.finer.now c.requires.finer c.loop-child.child-index c.child-item.result
          c.loop-child-test.true),
      (omega (arith, c.requires.spare, c.loop-child.auto.spare), c.loop-child.auto.frame ∙ c.requires.frame),
    ),
  ),
)

pub fold_children-loop-child-preserved : goal.fold_children-loop-child-preserved
fold_children-loop-child-preserved t c start plain begun =
    let items : List Tile = c.args.finer.now in let k = c.loop-child.child-index in let d = c.child-item.result in
    let more : take (k + 1) items ≡ take k items ++ d ∷ [] =
    take_more items k d c.loop-child-test.true ∙ ap (λ x. take k items ++ x ∷ []) (sym c.child-item.is) in
    subst (λ xs. IsFolded c.args.sources.now c.args.tile.now start xs c.fold_child.new.frame) (sym more)
    (c.fold_child.ensures start (take k items) plain (c.loop-child.invariant start plain begun))

pub fold_children-returns : goal.fold_children-returns
fold_children-returns t c start plain begun =
    let ss = c.args.sources.now in let items : List Tile = c.args.finer.now in
    let end : take c.loop-child.child-index items ≡ items =
    take_all c.loop-child.child-index items c.loop-child-test.false in
    all_folded ss c.args.tile.now start items c.loop-child.frame c.requires.finer
    (subst (λ xs. IsFolded ss c.args.tile.now start xs c.loop-child.frame) end
    (c.loop-child.invariant start plain begun))

-- ---- the tile

pub make_extreme-fold_children-requires : goal.make_extreme-fold_children-requires
make_extreme-fold_children-requires t c = let k = c.children-finer.ensures in (
  omega arith,
  (
    c.requires.kept,
    (
      subst (λ xs. AreChildren c.args.tile.now xs) (sym c.as_slice.ensures.value)
          (record { none = k.none; one = k.one; four = k.four; fill = k.fill }),
      (
        omega (arith, c.requires.spare, c.make_elevations.auto.spare),
        c.make_elevations.auto.frame ∙ c.requires.frame,
      ),
    ),
  ),
)

pub make_extreme-returns : goal.make_extreme-returns
make_extreme-returns t c =
    let ss = c.args.sources.now in let tile = c.args.tile.now in let extreme = c.requires.extreme in
    extreme_whole ss tile c.fold_children.new.frame extreme
    (c.fold_children.ensures (elevations_of ss tile) (plain_elevations ss tile extreme)
    (start_elevation ss tile (elevation_tile tile) c.make_elevations.new.frame (extreme_kind tile.family extreme)
    (elevations_same tile) c.make_elevations.ensures))

pub make_own-fold_children-requires : goal.make_own-fold_children-requires
make_own-fold_children-requires t c = let k = c.children-finer.ensures in (
  omega arith,
  (
    c.requires.kept,
    (
      subst (λ xs. AreChildren c.args.tile.now xs) (sym c.as_slice.ensures.value)
          (record { none = k.none; one = k.one; four = k.four; fill = k.fill }),
      (c.requires.spare, c.clear.auto.frame ∙ c.requires.frame),
    ),
  ),
)

pub make_own-returns : goal.make_own-returns
make_own-returns t c =
    let ss = c.args.sources.now in let tile = c.args.tile.now in let own = c.requires.own in
    own_whole ss tile c.paint_sources.new.frame own
    (c.paint_sources.ensures ss (paint_start ss tile c.fold_children.new.frame own
    (c.fold_children.ensures no_values (λ r q. tt) (c.clear.ensures ss))))
