use Rattle.std.proofs.Common.{ℕ, ◌+◌, ◌/◌, subst}
use Rattle.cdb_grid.specs.Tiles.{tile_side}
use Rattle.cdb_grid.specs.Frames.{number_at, IsPartChanged}
use Rattle.cdb_cut.specs.OneTile.{StandsIn}
use Rattle.cdb_cut.proofs.ChildPlaces.{stands_at}
use Rattle.cdb_cut.proofs.KeptParts.{idle_child, copied_child}
use Rattle.cdb_publish.proofs.folding.keep_child.Goals as goal

pub returns-in-Elev-clause-folded : goal.returns-in-Elev-clause-folded
returns-in-Elev-clause-folded g c ss start done stays before =
    let child = c.args.child.now in let t = c.args.tile.now in let s = c.spot_of-spot.result in
    let at : StandsIn child t s.row s.col =
    stands_at child t s.row s.col c.requires.parent c.spot_of-spot.ensures.begins c.spot_of-spot.ensures.row_fits
    c.spot_of-spot.ensures.col_fits in
    idle_child ss t start child s.row s.col at (stays.own c.in-Elev.is) done c.args.frame.now before

pub returns-in-Low-clause-folded : goal.returns-in-Low-clause-folded
returns-in-Low-clause-folded g c ss start done stays before =
    let child = c.args.child.now in let t = c.args.tile.now in let s = c.spot_of-spot.result in
    let older = c.args.older.now in
    let at : StandsIn child t s.row s.col =
    stands_at child t s.row s.col c.requires.parent c.spot_of-spot.ensures.begins c.spot_of-spot.ensures.row_fits
    c.spot_of-spot.ensures.col_fits in
    let Copies : ℕ → ℕ → Type 0 = λ n m.
    IsPartChanged (λ row col old. number_at older m (s.row + row) (s.col + col)) s.row s.col (n / 2) (n / 2) m
    c.args.frame.now c.copy_part.new.frame in
    copied_child ss t start child s.row s.col at older (stays.extreme c.in-Low.is) done c.args.frame.now
    c.copy_part.new.frame before
    (subst (λ n. Copies (tile_side child) n) c.side.ensures.value
    (subst (λ n. Copies n c.side.result) c.side-half.ensures.value c.copy_part.ensures))
