-- What is told of bytes that aren't a record has one place, and of a record nothing is told.
use Rattle.std.specs.Prelude.{◌≡◌, ℕ, List}
use Rattle.cdb_grid.specs.declared.tile.Tile.{Tile}
use Rattle.cdb_source.specs.declared.head.SourceHead.{SourceHead}
use Rattle.cdb_model.specs.Records.{record_text}
use Rattle.cdb_manifest.specs.Entries.{IsRecord}
use Rattle.cdb_manifest.specs.Decoding.{FirstBadField}

-- the first bad field of the same bytes begins at one place
abbrev pub OneBadField : Type 0
OneBadField = (bytes : List ℕ) (p q : ℕ) → FirstBadField bytes p → FirstBadField bytes q → p ≡ q

-- the text of a record has no bad field at any place
abbrev pub RecordsHaveNoBadPlace : Type 0
RecordsHaveNoBadPlace = (version : ℕ) (heads : List SourceHead) (tiles : List Tile) (place : ℕ)
    → IsRecord version heads tiles → FirstBadField (record_text version heads tiles) place → ⊥
