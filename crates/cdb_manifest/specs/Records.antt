-- What a record may hold.
use Rattle.std.specs.Prelude.{◌≡◌, ℕ, ◌≤◌, List}
use Rattle.cdb_grid.specs.declared.tile.Tile.{Tile}
use Rattle.cdb_source.specs.Reached.{IsTouched}
use Rattle.cdb_source.specs.declared.source.Source.{Source}
use Rattle.cdb_model.specs.Publications.{heads_of}
use Rattle.cdb_model.specs.Stands.{IsPublication}
use Rattle.cdb_manifest.specs.declared.record_.Record.{Record}
use Rattle.cdb_model.specs.Records.{record_text}
use Rattle.cdb_model.specs.declared.limits.TheConstants.{MOST_VERSIONS}

-- the text of a record
abbrev pub record_bytes : Record → List ℕ
record_bytes item = record_text item.version item.heads item.tiles

-- the text of each publication's record is that of a record
abbrev pub PublicationsHaveRecords : Type 0
PublicationsHaveRecords = (version : ℕ) (sources : List Source) (tiles : List Tile) → 1 ≤ version
    → version ≤ MOST_VERSIONS → IsPublication sources → IsTouched (heads_of sources) tiles
    → (item : Record) × (record_bytes item ≡ record_text version (heads_of sources) tiles)
