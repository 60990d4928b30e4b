-- Inside the crate: what other bytes than a record's are told to be: the first field that isn't of the form.
use Rattle.std.specs.Prelude.{ℕ, ◌≤◌, List}
use Rattle.cdb_manifest.specs.declared.record_error.RecordError.{RecordError}
use Rattle.cdb_manifest.specs.declared.record_error.RecordError.TheVariants.{Memory, Bad}
use Rattle.cdb_manifest.specs.Decoding.{IsBadEntry, IsBadHead, IsSources, IsVersion}
use Rattle.cdb_source.specs.declared.limits.TheConstants.{MOST_LOAD}

-- the first numbers of a record: its version, and how many sources and tiles it has
pub record IsFront (version sources tiles : ℕ) : Type 0 where
  pub a_version : IsVersion version
  pub a_count : IsSources sources
  pub tiles_most : tiles ≤ MOST_LOAD

abbrev pub TellsHead : List ℕ → ℕ → RecordError → Type 0
TellsHead text count Memory = Unit {0}
TellsHead text count (Bad place) = IsBadHead text count place

abbrev pub TellsEntry : List ℕ → ℕ → ℕ → RecordError → Type 0
TellsEntry text count start Memory = Unit {0}
TellsEntry text count start (Bad place) = IsBadEntry text count start place
