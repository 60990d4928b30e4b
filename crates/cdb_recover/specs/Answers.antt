-- What recovery answers, and what it leaves.
use Rattle.std.specs.Prelude.{◌≡◌, ◌≢◌, ℕ, ◌+◌, ◌≤◌, ◌⊎◌, List, length, None, Some, Result, Ok, Err}
use Rattle.cdb_source.specs.declared.source.Source.{Source}
use Rattle.cdb_model.specs.Maps.{Text, Content, FileMap}
use Rattle.cdb_model.specs.Names.{head_path}
use Rattle.cdb_model.specs.Records.{head_file_text}
use Rattle.cdb_model.specs.Stands.{AtMost, Stands}
use Rattle.cdb_files.specs.Disk.{State}
use Rattle.cdb_crash.specs.Crash.{IsClean}
use Rattle.cdb_crash.specs.Leftovers.{IsOfVersion, IsLeftover, HasAtMost}
use Rattle.cdb_recover.specs.declared.recover_error.RecoverError.{RecoverError}
use Rattle.cdb_recover.specs.declared.recover_error.RecoverError.TheVariants.{Fault, NotAStore}
use Rattle.cdb_model.specs.declared.limits.TheConstants.{MOST_VERSIONS}

-- The file that names the newest version names this one: 0 where there is no file.
abbrev pub NamesNewest : Content → ℕ → Type 0
NamesNewest None newest = newest ≡ 0
NamesNewest (Some bytes) newest = (1 ≤ newest) × (newest ≤ MOST_VERSIONS) × (bytes ≡ head_file_text newest)

-- The file is there, and names no version.
abbrev pub NamesNone : Content → Type 0
NamesNone None = ⊥
NamesNone (Some bytes) = (newest : ℕ) → 1 ≤ newest → newest ≤ MOST_VERSIONS → bytes ≡ head_file_text newest → ⊥

-- The newest version is named, and there are more than 65,536 files under the next one.
pub record HasTooMany (m : FileMap) (version place : ℕ) : Type 0 where
  pub newest : ℕ
  pub named : NamesNewest (m head_path) newest
  pub many : HasAtMost 65536 (newest + 1) m → ⊥
  pub version_is : version ≡ newest + 1
  pub place_is : place ≡ 65536

-- What recovery answers over a map.
abbrev pub IsAnswer : FileMap → Result ℕ RecoverError → Type 0
IsAnswer m (Ok newest) = NamesNewest (m head_path) newest × HasAtMost 65536 (newest + 1) m
IsAnswer m (Err (NotAStore version place)) = (NamesNone (m head_path) × (version ≡ 0) × (place ≡ 0))
    ⊎ HasTooMany m version place
IsAnswer m (Err Fault) = Unit {0}

-- The newest version is that of the list, and the disk is clean for it.
abbrev pub IsRecovered : State → List (List Source) → ℕ → Type 0
IsRecovered s list newest = (newest ≡ length list) × IsClean Stands list s

-- No leftover of a store of so many versions is there.
abbrev pub HasNoLeftover : FileMap → ℕ → Type 0
HasNoLeftover m newest = (q : Text) → IsLeftover newest q → m q ≡ None

-- Leftovers are removed, at most 65,536 of them under the version after the newest, and no other path has changed.
pub record RemovesLeftovers (newest : ℕ) (old new : FileMap) : Type 0 where
  pub each : (q : Text) → (new q ≡ old q) ⊎ (IsLeftover newest q × (new q ≡ None))
  pub few : AtMost 65536 (λ q. IsOfVersion (newest + 1) q × (new q ≢ old q))

-- So it is where a newest version is named, and where none is all stays.
pub record KeepsStore (old new : FileMap) : Type 0 where
  pub named : (newest : ℕ) → NamesNewest (old head_path) newest → RemovesLeftovers newest old new
  pub unnamed : NamesNone (old head_path) → (q : Text) → new q ≡ old q
