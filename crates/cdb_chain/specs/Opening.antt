-- What opening makes of the records of a store.
use Rattle.std.specs.Prelude.{◌≡◌, ◌≢◌, ℕ, ◌+◌, ◌≤◌, ◌<◌, ◌⊎◌, List, length, slice_get, Some, None, Result}
use Rattle.std.specs.Prelude.{Ok, Err}
use Rattle.cdb_model.specs.Maps.{Content, FileMap}
use Rattle.cdb_model.specs.Names.{record_path}
use Rattle.cdb_manifest.specs.Decoding.{FirstBadField}
use Rattle.cdb_manifest.specs.Records.{record_bytes}
use Rattle.cdb_manifest.specs.declared.record_.Record.{Record}
use Rattle.cdb_chain.specs.Versions.{Versions}
use Rattle.cdb_chain.specs.declared.open_error.OpenError.{OpenError}
use Rattle.cdb_chain.specs.declared.open_error.OpenError.TheVariants.{Memory, Fault, NotAStore}

-- the bytes are those of a record of another version
pub record IsOtherVersion (bytes : List ℕ) (version place : ℕ) : Type 0 where
  pub item : Record
  pub spelled : bytes ≡ record_bytes item
  pub other : item.version ≢ version
  pub place_is : place ≡ 8

-- the bytes aren't those of a version's record, and the first bad one is at the place
abbrev pub AreUnfit : List ℕ → ℕ → ℕ → Type 0
AreUnfit bytes version place = FirstBadField bytes place ⊎ IsOtherVersion bytes version place

-- too long for a record
abbrev pub IsTooLong : List ℕ → ℕ → Type 0
IsTooLong bytes place = (264980 < length bytes) × (place ≡ 264980)

-- there is no file, or its bytes aren't those of the version's record
abbrev pub IsBadRecord : Content → ℕ → ℕ → Type 0
IsBadRecord None version place = place ≡ 0
IsBadRecord (Some bytes) version place = IsTooLong bytes place
    ⊎ ((length bytes ≤ 264980) × AreUnfit bytes version place)

-- each record is that of its version, and stands there where the disk tells
pub record AreRead (Tells : Type 0) (present : FileMap) (records : List Record) : Type 0 where
  pub numbered : (k : ℕ) (item : Record) → slice_get records k ≡ Some item → item.version ≡ k + 1
  pub told : Tells → (k : ℕ) (item : Record) → slice_get records k ≡ Some item
      → present (record_path (k + 1)) ≡ Some (record_bytes item)

-- the first bad record
pub record IsFirstBad (Tells : Type 0) (present : FileMap) (newest version place : ℕ) : Type 0 where
  pub earlier : List Record
  pub read : AreRead Tells present earlier
  pub next : version ≡ length earlier + 1
  pub up_to : version ≤ newest
  pub bad : Tells → IsBadRecord (present (record_path version)) version place

-- what opening answers
abbrev pub IsOpenedFrom : Type 0 → FileMap → ℕ → Result Versions OpenError → Type 0
IsOpenedFrom Tells present newest (Ok chain) = (length chain.records ≡ newest) × AreRead Tells present chain.records
IsOpenedFrom Tells present newest (Err (NotAStore version place)) = IsFirstBad Tells present newest version place
IsOpenedFrom Tells present newest (Err Memory) = Unit {0}
IsOpenedFrom Tells present newest (Err Fault) = Unit {0}
