-- What a check of files answers.
use Rattle.std.specs.Prelude.{◌≡◌, ℕ, ◌≤◌, List, length, Result, Ok, Err}
use Rattle.cdb_files.specs.Disk.{State}
use Rattle.cdb_files.specs.Moments.{Rests}
use Rattle.cdb_model.specs.Causes.{Rose}
use Rattle.cdb_model.specs.Maps.{FileMap}
use Rattle.cdb_manifest.specs.declared.record_.Record.{Record}
use Rattle.cdb_check.specs.Expected.{Expected, AllAsExpected, FirstOther, expected_files}
use Rattle.cdb_check.specs.declared.outcome.Agreed.{Agreed}
use Rattle.cdb_check.specs.declared.outcome.CheckError.{CheckError}
use Rattle.cdb_check.specs.declared.outcome.CheckError.TheVariants.{Memory, Fault, Differs}

-- files were looked at in turn: all are what they must be, or the path of the first that isn't is told
abbrev pub FirstDiffering : {T : Type 0} → FileMap → List Expected → Result T CheckError → Type 0
FirstDiffering m list (Ok _) = AllAsExpected m list
FirstDiffering m list (Err Memory) = Unit {0}
FirstDiffering m list (Err Fault) = Unit {0}
FirstDiffering m list (Err (Differs path)) = FirstOther m list path.bytes

-- ---- a disk that is only read

-- nothing was written: the disk is as it was, at each moment, and no call was forgotten by its count of faults
pub record OnlyReads {D : Type 0} (clock : D → ℕ) (since : D → ℕ → FileMap → Type 0) (holds : D → State)
    (faults : D → ℕ)
    (old new : D) : Type 0 where
  pub state : holds new ≡ holds old
  pub time : Rests (clock old) (clock new) (since old) (since new)
  pub later : faults old ≤ faults new

-- a fault of the disk is told only where its count rose
abbrev pub IsFaultCaused : {T : Type 0} → ℕ → ℕ → Result T CheckError → Type 0
IsFaultCaused before now (Err Fault) = Rose before now
IsFaultCaused before now _ = Unit {0}

-- so many versions, and so many files that must be there
pub record TellsCounts (records : List Record) (agreed : Agreed) : Type 0 where
  pub versions : agreed.versions ≡ length records
  pub files : agreed.files ≡ length (expected_files records)
