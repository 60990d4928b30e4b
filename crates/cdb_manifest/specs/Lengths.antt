-- How long records are.
use Rattle.std.specs.Prelude.{◌≡◌, ℕ, ◌+◌, ◌*◌, ◌≤◌, List, length}
use Rattle.cdb_grid.specs.declared.tile.Tile.{Tile}
use Rattle.cdb_source.specs.declared.head.SourceHead.{SourceHead}
use Rattle.cdb_model.specs.Records.{record_text}
use Rattle.cdb_manifest.specs.Entries.{IsRecord}

-- 20 bytes, 44 for each source and 16 for each tile
abbrev pub RecordsHaveLength : Type 0
RecordsHaveLength = (version : ℕ) (heads : List SourceHead) (tiles : List Tile)
    → length (record_text version heads tiles) ≡ 20 + 44 * length heads + 16 * length tiles

-- a record has at most 264,980 bytes
abbrev pub RecordsAreShort : Type 0
RecordsAreShort = (version : ℕ) (heads : List SourceHead) (tiles : List Tile) → IsRecord version heads tiles
    → length (record_text version heads tiles) ≤ 264980
