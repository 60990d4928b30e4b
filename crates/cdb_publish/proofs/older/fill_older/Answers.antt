use Rattle.std.proofs.Common.{Option, ℕ, refl, sym, subst}
use Rattle.cdb_cut.proofs.OneTileWhole.{fill_older, no_older}
use Rattle.cdb_publish.specs.inside.LookUps.{IsNamed, IsReadFile}
use Rattle.cdb_grid.specs.Tiles.{tile_side}
use Rattle.cdb_model.specs.TileFile.{bits_of}
use Rattle.cdb_tiff_write.specs.Samples.{frame_in}
use Rattle.cdb_tiff_write.proofs.FrameIn.{frame_read_in}
use Rattle.cdb_publish.proofs.older.fill_older.Goals as goal

pub returns-in-Ok-true-clause-filled : goal.returns-in-Ok-true-clause-filled
returns-in-Ok-true-clause-filled g c told ss x own named painted =
    let t = c.args.tile.now in let m = (g.D.Disk.state c.args.disk.now).present in
    let N : Option ℕ → Type 0 = IsNamed m ss t in
    fill_older ss x t (frame_in (bits_of t.family) c.read_named.new.bytes (tile_side t))
    c.args.frame.now c.fill_file.new.frame own
    (frame_read_in ss t c.read_named.new.bytes (tile_side t) (bits_of t.family) refl refl
    (subst (IsReadFile ss t c.read_named.new.bytes) c.in-Ok-true.field-0-test
    (c.in-Ok-true.ensures.read told ss (subst N (sym c.look_before-version.ensures.named) named))))
    painted c.fill_file.ensures

pub returns-in-Ok-false-clause-filled : goal.returns-in-Ok-false-clause-filled
returns-in-Ok-false-clause-filled g c told ss x own named painted =
    let t = c.args.tile.now in let m = (g.D.Disk.state c.args.disk.now).present in
    let N : Option ℕ → Type 0 = IsNamed m ss t in
    no_older ss x t c.args.frame.now own
    (subst (IsReadFile ss t c.read_named.new.bytes) c.in-Ok-false.field-0-test
    (c.in-Ok-false.ensures.read told ss (subst N (sym c.look_before-version.ensures.named) named)))
    painted
