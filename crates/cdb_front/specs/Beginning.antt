-- What the machine begins with over a disk that tells: the records of the files that were there; and what opening adds
-- to what a crash may leave.
use Rattle.std.specs.Prelude.{◌≡◌, ℕ, List, ◌∷◌, length, Option, None, Some}
use Rattle.cdb_model.specs.Images.{Base, StandsForOne}
use Rattle.cdb_model.specs.Maps.{FileMap}
use Rattle.cdb_model.specs.Stores.{any_store}
use Rattle.cdb_model.specs.Transitions.{StateIn}
use Rattle.cdb_files.specs.Moments.{AddsOnly}
use Rattle.cdb_manifest.specs.declared.record_.Record.{Record}
use Rattle.cdb_publish.specs.Entries.{entries_in}
use Rattle.cdb_engine.specs.Checks.{AreOpened}
use Rattle.cdb_front.specs.declared.exit_status.Status.{Status}
use Rattle.cdb_front.specs.declared.exit_status.Status.TheVariants.{Done, InputFault, OutputFault, TooLong}

-- records were read from the files that were there, and the state has their count and that of their tiles
pub record CountsRecords (present : FileMap) (start : StateIn any_store) : Type 0 where
  pub left : FileMap
  pub records : List Record
  pub opened : AreOpened present left records
  pub list_is : start.list ≡ record { versions = length records; entries = entries_in records }

-- where the disk tells and the store was opened
abbrev pub BeginsAsRead : Type 0 → FileMap → StateIn any_store → Status → Type 0
BeginsAsRead tells present start Done = tells → CountsRecords present start
BeginsAsRead tells present start InputFault = tells → CountsRecords present start
BeginsAsRead tells present start OutputFault = tells → CountsRecords present start
BeginsAsRead tells present start TooLong = tells → CountsRecords present start
BeginsAsRead tells present start status = Unit {0}

-- up to the end of opening nothing is begun: what a crash leaves stands for the list, or for one of the early ones
abbrev pub OpensBy : {D : Type 0} → (D → ℕ) → (D → ℕ → FileMap → Type 0) → Option Base → D → D → Type 0
OpensBy clock since None old opened = Unit {0}
OpensBy clock since (Some base) old opened = AddsOnly clock since old opened (StandsForOne (base.list ∷ base.early))
