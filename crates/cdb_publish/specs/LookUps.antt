-- Where the newest file of a tile stands, and what stands there.
use Rattle.std.specs.Prelude.{ℕ, ◌-◌, if◌then◌else◌, List, [], ◌∷◌}
use Rattle.std.specs.Prelude.{Option, Some, None}
use Rattle.std.specs.List.{flat_map}
use Rattle.cdb_grid.specs.declared.tile.Tile.{Tile}
use Rattle.cdb_model.specs.Names.{path}
use Rattle.cdb_manifest.specs.declared.record_.Record.{Record}
use Rattle.cdb_tiff_write.specs.Rasters.{tile_size}
use Rattle.cdb_chain.specs.LookUps.{is_listed, found_in}
use Rattle.cdb_publish.specs.Needs.{Need}
use Rattle.cdb_publish.specs.declared.plan.Plan.{Plan}

-- The version that has the newest file of a tile before this publication, and in it.
abbrev pub look_before : Plan → List Record → Tile → Option ℕ
look_before p kept t = found_in (p.record.version - 1) kept t

abbrev pub look : Plan → List Record → Tile → Option ℕ
look p kept t = if is_listed p.record.tiles t then Some p.record.version else look_before p kept t

-- The file of a tile of which a look-up gave this.
abbrev pub needs_of : Tile → Option ℕ → List Need
needs_of t None = []
needs_of t (Some version) = record { path = path version t; size = tile_size t } ∷ []

-- The files of the finer tiles under a tile.
abbrev pub child_needs : Plan → List Record → List Tile → List Need
child_needs p kept children = flat_map (λ c. needs_of c (look p kept c)) children
