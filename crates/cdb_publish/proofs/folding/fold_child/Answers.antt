use Rattle.std.proofs.Common.{◌≡◌, ℕ, ◌/◌, ◌%◌, ℤ, List, Option, sym, subst}
use Rattle.cdb_grid.specs.Tiles.{tile_side}
use Rattle.cdb_grid.specs.Frames.{IsPartChanged, four_under}
use Rattle.cdb_cut.specs.OneTile.{StandsIn, four_rule}
use Rattle.cdb_cut.proofs.ChildPlaces.{stands_at}
use Rattle.cdb_cut.proofs.OneTile.{fold_child, miss_child}
use Rattle.cdb_publish.specs.inside.LookUps.{IsNamed, IsReadFile}
use Rattle.cdb_tiff_write.specs.Samples.{frame_in}
use Rattle.cdb_tiff_write.proofs.FrameIn.{frame_read_in}
use Rattle.cdb_cut.proofs.FinerTiles.{even_side}
use Rattle.cdb_publish.proofs.folding.fold_child.Goals as goal

pub fold-requires-clause-even : goal.fold-requires-clause-even
fold-requires-clause-even g c =
    let child = c.args.child.now in let t = c.args.tile.now in let s = c.spot_of-spot.result in
    let at : StandsIn child t s.row s.col =
    stands_at child t s.row s.col c.requires.parent c.spot_of-spot.ensures.begins c.spot_of-spot.ensures.row_fits
    c.spot_of-spot.ensures.col_fits in
    subst (λ n. n % 2 ≡ 0) (sym c.side-child_side.ensures.value) (even_side child t s.row s.col at)

pub returns-in-Ok-true-clause-folded : goal.returns-in-Ok-true-clause-folded
returns-in-Ok-true-clause-folded g c told ss start done named plain before =
    let child = c.args.child.now in let t = c.args.tile.now in let s = c.spot_of-spot.result in
    let m = (g.D.Disk.state c.args.disk.now).present in
    let at : StandsIn child t s.row s.col =
    stands_at child t s.row s.col c.requires.parent c.spot_of-spot.ensures.begins c.spot_of-spot.ensures.row_fits
    c.spot_of-spot.ensures.col_fits in
    let N : Option ℕ → Type 0 = IsNamed m ss child in
    let side = c.side-child_side.result in
    let frame : List ℤ = frame_in c.bits-bits.result c.read_named.new.bytes side in
    let Folds : ℕ → ℕ → Type 0 = λ n m.
    IsPartChanged (four_under (four_rule t.family) frame n) s.row s.col (n / 2)
    (n / 2) m c.args.frame.now c.fold.new.frame in
    fold_child ss t start child s.row s.col at plain frame
    (frame_read_in ss child c.read_named.new.bytes side c.bits-bits.result
    c.side-child_side.ensures.value c.bits-bits.ensures.value
    (subst (IsReadFile ss child c.read_named.new.bytes) c.in-Ok-true.field-0-test
    (c.in-Ok-true.ensures.read told ss (subst N (sym c.look-version.ensures.named) named))))
    done c.args.frame.now c.fold.new.frame before
    (subst (λ n. Folds (tile_side child) n) c.side.ensures.value
    (subst (λ n. Folds n c.side.result) c.side-child_side.ensures.value c.fold.ensures))

pub returns-in-Ok-false-clause-folded : goal.returns-in-Ok-false-clause-folded
returns-in-Ok-false-clause-folded g c told ss start done named plain before =
    let child = c.args.child.now in let t = c.args.tile.now in let s = c.spot_of-spot.result in
    let m = (g.D.Disk.state c.args.disk.now).present in
    let at : StandsIn child t s.row s.col =
    stands_at child t s.row s.col c.requires.parent c.spot_of-spot.ensures.begins c.spot_of-spot.ensures.row_fits
    c.spot_of-spot.ensures.col_fits in
    let N : Option ℕ → Type 0 = IsNamed m ss child in
    miss_child ss t start child s.row s.col at
    (subst (IsReadFile ss child c.read_named.new.bytes) c.in-Ok-false.field-0-test
    (c.in-Ok-false.ensures.read told ss (subst N (sym c.look-version.ensures.named) named)))
    done c.args.frame.now before
