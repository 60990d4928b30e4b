-- The removal of all files under a folder.
use Rattle.std.specs.Prelude.{◌≡◌, ◌≢◌, ℕ, ◌⊎◌, Bool, true, false, List, None, IsTrue}
use Rattle.cdb_source.specs.declared.source.Source.{Source}
use Rattle.cdb_model.specs.Maps.{Text, FileMap, IsThere, is_under, NoneUnder}
use Rattle.cdb_model.specs.Stands.{AtMost, Stands}
use Rattle.cdb_files.specs.Disk.{State}
use Rattle.cdb_crash.specs.Crash.{IsClean}

-- One file is removed, or stays, and no other path has changed.
abbrev pub RemovesOne : Text → FileMap → FileMap → Type 0
RemovesOne path old new = (q : Text) → (new q ≡ old q) ⊎ ((q ≡ path) × (new q ≡ None))

-- Files under a folder are removed, at most so many, and no other path has changed.
pub record RemovesUnder (most : ℕ) (folder : Text) (old new : FileMap) : Type 0 where
  pub each : (q : Text) → (new q ≡ old q) ⊎ (IsTrue (is_under folder q) × (new q ≡ None))
  pub few : AtMost most (λ q. new q ≢ old q)

-- A file lies under the folder.
abbrev pub IsLeftUnder : Text → FileMap → Text → Type 0
IsLeftUnder folder m q = IsTrue (is_under folder q) × IsThere (m q)

-- Whether there are at most 65,536 files under the folder.
abbrev pub TellsFew : Text → FileMap → Bool → Type 0
TellsFew folder m true = AtMost 65536 (IsLeftUnder folder m)
TellsFew folder m false = AtMost 65536 (IsLeftUnder folder m) → ⊥

-- Whether no file is left under the folder.
abbrev pub TellsNone : Text → FileMap → Bool → Type 0
TellsNone folder m true = NoneUnder m folder
TellsNone folder m false = NoneUnder m folder → ⊥

-- None is left, and the disk is clean for the list.
abbrev pub Clears : List (List Source) → State → Bool → Type 0
Clears list s none = IsTrue none × IsClean Stands list s
