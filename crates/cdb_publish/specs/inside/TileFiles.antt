-- Inside the crate: what the files of a disk give a tile of a publication.
use Rattle.std.specs.Prelude.{◌≡◌, List, ◌++◌, All, Some}
use Rattle.cdb_grid.specs.declared.tile.Tile.{Tile}
use Rattle.cdb_source.specs.declared.source.Source.{Source}
use Rattle.cdb_source.specs.Reached.{IsTouched}
use Rattle.cdb_model.specs.Publications.{heads_of}
use Rattle.cdb_model.specs.Maps.{FileMap}
use Rattle.cdb_model.specs.Names.{path}
use Rattle.cdb_model.specs.TileFile.{tile_bytes}
use Rattle.cdb_manifest.specs.declared.record_.Record.{Record}
use Rattle.cdb_cut.specs.Laws.{IsExtreme}
use Rattle.cdb_cut.specs.FinerTiles.{elevation_tile}
use Rattle.cdb_publish.specs.LookUps.{look, look_before}
use Rattle.cdb_publish.specs.inside.LookUps.{IsNamed}
use Rattle.cdb_publish.specs.inside.Windows.{HasSources}
use Rattle.cdb_publish.specs.declared.plan.Plan.{Plan}

-- The files that a tile with these finer tiles is made from: the earlier sources are ss, and the new ones x.
pub record HasFilesFor (p : Plan) (kept : List Record) (m : FileMap) (ss x : List Source) (t : Tile)
    (children : List Tile) : Type 0 where
  pub heads : p.record.heads ≡ heads_of x
  pub touched : IsTouched (heads_of x) p.record.tiles
  pub children_named : All (λ c. IsNamed m (ss ++ x) c (look p kept c)) children
  pub sources : HasSources m p.record.version x
  pub older : IsNamed m ss t (look_before p kept t)
  pub elevation : IsExtreme t.family → m (path p.record.version (elevation_tile t)) ≡ Some (tile_bytes (ss ++ x)
      (elevation_tile t))
