-- What other bytes than a record's are told to be: the first field that isn't of the form.
use Rattle.std.specs.Prelude.{◌≡◌, ℕ, ◌+◌, ◌*◌, ◌<◌, ◌≤◌, List, [], ◌∷◌, ◌++◌, length, Result, Ok, Err}
use Rattle.cdb_grid.specs.declared.tile.Tile.{Tile}
use Rattle.cdb_source.specs.declared.head.SourceHead.{SourceHead}
use Rattle.cdb_source.specs.declared.limits.TheConstants.{MOST_LOAD}
use Rattle.cdb_source.specs.Texts.{count_bytes, head_text}
use Rattle.cdb_manifest.specs.declared.record_.Record.{Record}
use Rattle.cdb_manifest.specs.declared.record_error.RecordError.{RecordError}
use Rattle.cdb_manifest.specs.declared.record_error.RecordError.TheVariants.{Memory, Bad}
use Rattle.cdb_model.specs.Records.{record_first_bytes, version_text, sources_text, record_front_text, heads_text, entries_text, entry_text}
use Rattle.cdb_manifest.specs.Entries.{Ascending}
use Rattle.cdb_model.specs.declared.limits.TheConstants.{MOST_VERSIONS}

-- the fields of a record up to some field: up to the first bytes, the version, the number of sources, one of the heads
-- that aren't all there yet, and one of the tiles
pub data Fields : Type 0 where
  no_field : Fields
  to_first : Fields
  to_version : (version : ℕ) → Fields
  to_sources : (version sources : ℕ) → Fields
  to_head : (version sources tiles : ℕ) (heads : List SourceHead) → Fields
  to_entry : (version tiles : ℕ) (heads : List SourceHead) (entries : List Tile) → Fields

-- the text of these fields
abbrev pub fields_text : Fields → List ℕ
fields_text no_field = []
fields_text to_first = record_first_bytes
fields_text (to_version version) = version_text version
fields_text (to_sources version sources) = sources_text version sources
fields_text (to_head version sources tiles heads) = record_front_text version sources tiles ++ heads_text heads
fields_text (to_entry version tiles heads entries) = record_front_text version (length heads) tiles ++ heads_text heads
    ++ entries_text entries

abbrev pub IsVersion : ℕ → Type 0
IsVersion version = (1 ≤ version) × (version ≤ MOST_VERSIONS)

abbrev pub IsSources : ℕ → Type 0
IsSources sources = (1 ≤ sources) × (sources ≤ 64)

-- the fields are of the form
abbrev pub AreOfForm : Fields → Type 0
AreOfForm no_field = Unit {0}
AreOfForm to_first = Unit {0}
AreOfForm (to_version version) = IsVersion version
AreOfForm (to_sources version sources) = IsVersion version × IsSources sources
AreOfForm (to_head version sources tiles heads) = IsVersion version × IsSources sources × (tiles ≤ MOST_LOAD)
    × (length heads < sources)
AreOfForm (to_entry version tiles heads entries) = IsVersion version × IsSources (length heads) × (tiles ≤ MOST_LOAD)
    × (length entries ≤ tiles) × Ascending entries

-- the bytes of a number from least to most
abbrev pub IsNumberField : ℕ → ℕ → List ℕ → Type 0
IsNumberField least most text = (n : ℕ) × ((least ≤ n) × (n ≤ most) × (text ≡ count_bytes n))

-- the bytes of a tile that comes after these
abbrev pub IsEntryAfter : List Tile → List ℕ → Type 0
IsEntryAfter tiles text = (tile : Tile) × (Ascending (tiles ++ tile ∷ []) × (text ≡ entry_text tile))

-- a text that the next field may have; after the last tile there is none
abbrev pub IsNextField : Fields → List ℕ → Type 0
IsNextField no_field text = text ≡ record_first_bytes
IsNextField to_first text = IsNumberField 1 MOST_VERSIONS text
IsNextField (to_version version) text = IsNumberField 1 64 text
IsNextField (to_sources version sources) text = IsNumberField 0 MOST_LOAD text
IsNextField (to_head version sources tiles heads) text = (head : SourceHead) × (text ≡ head_text head)
IsNextField (to_entry version tiles heads entries) text = (length entries < tiles) × IsEntryAfter entries text

-- these are all fields, and nothing follows
abbrev pub IsWholeRecord : Fields → List ℕ → Type 0
IsWholeRecord (to_entry version tiles heads entries) rest = (length entries ≡ tiles) × (rest ≡ [])
IsWholeRecord _ rest = ⊥

-- the bytes begin with fields of the form; they aren't a whole record, and no next field follows at the place
pub record FirstBadField (bytes : List ℕ) (place : ℕ) : Type 0 where
  pub fields : Fields
  pub rest : List ℕ
  pub of_form : AreOfForm fields
  pub begins : bytes ≡ fields_text fields ++ rest
  pub never : (next after : List ℕ) → IsNextField fields next → rest ≡ next ++ after → ⊥
  pub unfinished : IsWholeRecord fields rest → ⊥
  pub place_is : place ≡ length (fields_text fields)

-- what an error says of the bytes
abbrev pub RecordCause : List ℕ → RecordError → Type 0
RecordCause bytes Memory = Unit {0}
RecordCause bytes (Bad place) = FirstBadField bytes place

-- after so many heads of a text the next one isn't whole, or is none
pub record IsBadHead (text : List ℕ) (count : ℕ) (place : ℕ) : Type 0 where
  pub heads : List SourceHead
  pub rest : List ℕ
  pub begins : text ≡ heads_text heads ++ rest
  pub few : length heads < count
  pub never : (head : SourceHead) (after : List ℕ) → rest ≡ head_text head ++ after → ⊥
  pub place_is : place ≡ 20 + 44 * length heads

-- after so many entries of a text, which begin at a place, the next one isn't whole, is none, or doesn't come after
-- them
pub record IsBadEntry (text : List ℕ) (count : ℕ) (start : ℕ) (place : ℕ) : Type 0 where
  pub tiles : List Tile
  pub rest : List ℕ
  pub begins : text ≡ entries_text tiles ++ rest
  pub few : length tiles < count
  pub ordered : Ascending tiles
  pub never : (tile : Tile) (after : List ℕ) → Ascending (tiles ++ tile ∷ []) → rest ≡ entry_text tile ++ after → ⊥
  pub place_is : place ≡ start + 16 * length tiles

-- the bytes of a record give this record, unless memory ran out
abbrev pub GivesRecord : Record → Result Record RecordError → Type 0
GivesRecord item (Ok given) = given ≡ item
GivesRecord item (Err Memory) = Unit {0}
GivesRecord item (Err (Bad place)) = ⊥
