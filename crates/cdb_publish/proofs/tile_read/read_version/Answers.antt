use Rattle.std.proofs.Common.{ℕ, ◌∷◌, [], length, subst}
use Rattle.cdb_model.specs.Maps.{Text}
use Rattle.cdb_model.specs.Names.{path}
use Rattle.cdb_publish.specs.Needs.{TellsSizes}
use Rattle.cdb_publish.proofs.tile_read.read_version.Goals as goal

pub returns-clause-sizes : goal.returns-clause-sizes
returns-clause-sizes g c told =
    let Tells : Text → ℕ → Type 0 = λ q n.
    TellsSizes (g.D.Disk.state c.args.disk.now).present (record { path = q; size = n } ∷ []) c.read_sized.result in
    subst (Tells (path c.args.version c.args.tile.now)) c.requires.bytes
    (subst (λ q. Tells q (length c.args.bytes.now)) c.write_path-path.ensures (c.read_sized.ensures.sizes told))
