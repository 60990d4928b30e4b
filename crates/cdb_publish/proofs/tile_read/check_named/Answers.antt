use Rattle.std.proofs.Common.{ℕ, ◌∷◌, [], Option, sym, subst}
use Rattle.cdb_model.specs.Maps.{Text}
use Rattle.cdb_model.specs.Names.{path}
use Rattle.cdb_publish.specs.LookUps.{needs_of}
use Rattle.cdb_publish.specs.Needs.{TellsSizes}
use Rattle.cdb_publish.proofs.tile_read.check_named.Goals as goal

pub returns-clause-sizes : goal.returns-clause-sizes
returns-clause-sizes g c told =
    let m = (g.D.Disk.state c.args.disk.now).present in let t = c.args.tile.now in
    let Tells : Text → ℕ → Type 0 = λ q n. TellsSizes m (record { path = q; size = n } ∷ []) c.check_size.result in
    let Named : Option ℕ → Type 0 = λ o. TellsSizes m (needs_of t o) c.check_size.result in
    subst Named (sym c.in-Some.is)
    (subst (Tells (path c.in-Some.version t)) c.tile_size.ensures.value
    (subst (λ q. Tells q c.tile_size.result) c.write_path-path.ensures (c.check_size.ensures.sizes told)))
