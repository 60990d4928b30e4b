use Rattle.std.proofs.Common.{◌≡◌, ◌++◌, ◌∙◌, Some, All, sym, subst}
use Rattle.cdb_grid.specs.declared.tile.Tile.{Tile}
use Rattle.cdb_model.specs.Names.{path}
use Rattle.cdb_model.specs.TileFile.{tile_bytes}
use Rattle.cdb_files.specs.Disk.{State}
use Rattle.cdb_cut.specs.OneTile.{IsFrameOf, elevations_of}
use Rattle.cdb_cut.proofs.OneTileWhole.{start_elevation, extreme_whole}
use Rattle.cdb_publish.specs.LookUps.{child_needs, needs_of, look, look_before}
use Rattle.cdb_publish.specs.inside.LookUps.{IsNamed}
use Rattle.cdb_cut.specs.FinerTiles.{elevation_tile}
use Rattle.cdb_publish.specs.Needs.{AreSized, TellsError}
use Rattle.cdb_cut.proofs.FrameStarts.{extreme_kind, plain_elevations, elevations_same}
use Rattle.cdb_publish.proofs.OlderParts.{extreme_stays}
use Rattle.cdb_publish.proofs.Sizes.{error_before, error_later}
use Rattle.cdb_publish.proofs.tile_values.make_extreme.Goals as goal

pub returns-in-Err-clause-sizes : goal.returns-in-Err-clause-sizes
returns-in-Err-clause-sizes g c told =
    let m = (g.D.Disk.state c.args.disk.now).present in let p = c.args.plan.now in let k = c.args.chain.now.records in
    let t = c.args.tile.now in
    let E : Tile → Type 0 = λ e. TellsError m (needs_of e (Some p.record.version)) c.in-Err.error in
    error_before m (needs_of (elevation_tile t) (Some p.record.version)) (child_needs p k c.args.children.now)
    c.in-Err.error (subst E c.elevation_tile-elevations.ensures (c.in-Err.ensures.sizes told))

pub returns-in-Err-fold_children-clause-sizes : goal.returns-in-Err-fold_children-clause-sizes
returns-in-Err-fold_children-clause-sizes g c told =
    let m = (g.D.Disk.state c.args.disk.now).present in let p = c.args.plan.now in let k = c.args.chain.now.records in
    let t = c.args.tile.now in
    let A : Tile → Type 0 = λ e. AreSized m (needs_of e (Some p.record.version)) in
    let E : State → Type 0 = λ s. TellsError s.present (child_needs p k c.args.children.now)
    c.in-Err-fold_children.error in
    error_later m (needs_of (elevation_tile t) (Some p.record.version)) (child_needs p k c.args.children.now)
    c.in-Err-fold_children.error
    (subst A c.elevation_tile-elevations.ensures (c.in-Ok.ensures.sizes told))
    (subst E (c.take_older.ensures.state ∙ c.read_tile.ensures.state) (c.in-Err-fold_children.ensures.sizes told))

pub returns-in-Ok-fold_children-clause-values : goal.returns-in-Ok-fold_children-clause-values
returns-in-Ok-fold_children-clause-values g c told ss x h =
    let p = c.args.plan.now in let k = c.args.chain.now.records in let t = c.args.tile.now in let all = ss ++ x in
    let m = (g.D.Disk.state c.args.disk.now).present in let children = c.args.children.now in
    let F : Tile → Type 0 = λ e. m (path p.record.version e) ≡ Some (tile_bytes all e) in
    let N : State → Type 0 = λ s. All (λ d. IsNamed s.present all d (look p k d)) children in
    let O : State → Type 0 = λ s. IsNamed s.present ss t (look_before p k t) in
    let frame =
    c.in-Ok.ensures.frame told all
    (subst F (sym c.elevation_tile-elevations.ensures) (h.elevation c.requires.extreme)) in
    let I : Tile → Type 0 = λ e. IsFrameOf all e c.read_tile.new.frame in
    extreme_whole all t c.fold_children.new.frame c.requires.extreme
    (c.in-Ok-fold_children.ensures.folded told all (elevations_of all t)
    (subst N (sym (c.take_older.ensures.state ∙ c.read_tile.ensures.state)) h.children_named)
    (λ found d unlisted. extreme_stays p k m ss x t children h c.requires.extreme
    (c.in-Ok-take_older.ensures.level found) c.take_older.new.older
    (c.in-Ok-take_older.ensures.values told ss (subst O (sym c.read_tile.ensures.state) h.older) found) d unlisted)
    (plain_elevations all t c.requires.extreme)
    (start_elevation all t (elevation_tile t) c.read_tile.new.frame (extreme_kind t.family c.requires.extreme)
    (elevations_same t) (subst I c.elevation_tile-elevations.ensures frame)))
