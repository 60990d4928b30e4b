-- How long records are.
use Rattle.std.proofs.Common.{◌≡◌, ℕ, ◌++◌, List, length, refl, arith, length-append}
use Rattle.cdb_grid.specs.declared.tile.Tile.{Tile}
use Rattle.cdb_source.specs.declared.head.SourceHead.{SourceHead}
use Rattle.cdb_model.specs.Records.{record_front_text, heads_text, entries_text}
use Rattle.cdb_manifest.specs.Lengths.{RecordsHaveLength, RecordsAreShort}
use Rattle.cdb_manifest.proofs.PlaceLaws.{length-heads_text, length-entries_text}

length-front_text : (version sources tiles : ℕ) → length (record_front_text version sources tiles) ≡ 20
length-front_text version sources tiles = refl

pub have_length : RecordsHaveLength
have_length version heads tiles =
    let front = record_front_text version (length heads) (length tiles) in
    omega (
      arith,
      length-append (front ++ heads_text heads) (entries_text tiles),
      length-append front (heads_text heads),
      length-front_text version (length heads) (length tiles),
      length-heads_text heads,
      length-entries_text tiles,
    )

pub are_short : RecordsAreShort
are_short version heads tiles r =
    let sources = r.heads_most in
    let entries = r.tiles_most in
    omega (arith, have_length version heads tiles, sources, entries)
