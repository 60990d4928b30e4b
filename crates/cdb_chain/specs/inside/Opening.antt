-- Inside the crate: what opening makes of the records of a store.
use Rattle.std.specs.Prelude.{◌≡◌, ℕ, ◌≤◌, List, length, Some, None, Result}
use Rattle.std.specs.Prelude.{Ok, Err}
use Rattle.std.specs.declared.vec.Vec.{Vec}
use Rattle.cdb_model.specs.Maps.{Content}
use Rattle.cdb_manifest.specs.Records.{record_bytes}
use Rattle.cdb_manifest.specs.declared.record_.Record.{Record}
use Rattle.cdb_chain.specs.declared.open_error.OpenError.{OpenError}
use Rattle.cdb_chain.specs.declared.open_error.OpenError.TheVariants.{Memory, Fault, NotAStore}
use Rattle.cdb_chain.specs.Opening.{AreUnfit, IsBadRecord, IsTooLong}

-- there is no file, or it is too long
abbrev pub HasNoSize : Content → ℕ → Type 0
HasNoSize None place = place ≡ 0
HasNoSize (Some bytes) place = IsTooLong bytes place

-- a bad record, of this version, where the disk tells
abbrev pub RefusesBytes : Type 0 → (ℕ → Type 0) → ℕ → ℕ → ℕ → Type 0
RefusesBytes Tells Bad version told place = (told ≡ version) × (Tells → Bad place)

-- the bytes of a file
abbrev pub AreBytes : {Z : Type 0} → Type 0 → Content → ℕ → Result (Vec ℕ Z) OpenError → Type 0
AreBytes Tells content version (Ok bytes) = (length bytes.items ≤ 264980) × (Tells → content ≡ Some bytes.items)
AreBytes Tells content version (Err (NotAStore told place)) = RefusesBytes Tells (HasNoSize content) version told place
AreBytes Tells content version (Err Memory) = Unit {0}
AreBytes Tells content version (Err Fault) = Unit {0}

-- the record of bytes
abbrev pub IsItem : List ℕ → ℕ → Result Record OpenError → Type 0
IsItem bytes version (Ok item) = (item.version ≡ version) × (bytes ≡ record_bytes item)
IsItem bytes version (Err (NotAStore told place)) = (told ≡ version) × AreUnfit bytes version place
IsItem bytes version (Err Memory) = Unit {0}
IsItem bytes version (Err Fault) = ⊥

-- the record of a version
abbrev pub IsRecordOf : Type 0 → Content → ℕ → Result Record OpenError → Type 0
IsRecordOf Tells content version (Ok item) = (item.version ≡ version) × (Tells → content ≡ Some (record_bytes item))
IsRecordOf Tells content version (Err (NotAStore told place)) =
    RefusesBytes Tells (IsBadRecord content version) version told place
IsRecordOf Tells content version (Err Memory) = Unit {0}
IsRecordOf Tells content version (Err Fault) = Unit {0}
