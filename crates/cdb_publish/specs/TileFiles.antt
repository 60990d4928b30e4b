-- What the files of a disk give a tile of a publication.
use Rattle.std.specs.Prelude.{List, ◌++◌, Some}
use Rattle.cdb_grid.specs.declared.family.Family.{Family}
use Rattle.cdb_grid.specs.declared.family.Family.TheVariants.{Elev, Low, High, Mat}
use Rattle.cdb_grid.specs.declared.tile.Tile.{Tile}
use Rattle.cdb_manifest.specs.declared.record_.Record.{Record}
use Rattle.cdb_cut.specs.FinerTiles.{AreChildren, elevation_tile}
use Rattle.cdb_publish.specs.LookUps.{look_before, needs_of, child_needs}
use Rattle.cdb_publish.specs.Needs.{Need}
use Rattle.cdb_publish.specs.Windows.{window_needs}
use Rattle.cdb_publish.specs.declared.plan.Plan.{Plan}

-- The files that a tile of elevations or of materials needs: its finer tiles, the new sources of its level, and the
-- tile before it. One of least or greatest elevations: the elevations of the same cells, and its finer tiles.
abbrev pub own_needs : Plan → List Record → Tile → List Tile → List Need
own_needs p kept t children = child_needs p kept children ++
    (window_needs p.record.version 1 p.record.heads t ++ needs_of t (look_before p kept t))

abbrev pub extreme_needs : Plan → List Record → Tile → List Tile → List Need
extreme_needs p kept t children = needs_of (elevation_tile t) (Some p.record.version) ++ child_needs p kept children

abbrev pub family_needs : Family → Plan → List Record → Tile → List Tile → List Need
family_needs Elev p kept t children = own_needs p kept t children
family_needs Low p kept t children = extreme_needs p kept t children
family_needs High p kept t children = extreme_needs p kept t children
family_needs Mat p kept t children = own_needs p kept t children

-- A fact of the files that a tile needs.
pub record TileNeeds (p : Plan) (kept : List Record) (t : Tile) (Fact : List Need → Type 0) : Type 0 where
  pub children : List Tile
  pub those : AreChildren t children
  pub fact : Fact (family_needs t.family p kept t children)
