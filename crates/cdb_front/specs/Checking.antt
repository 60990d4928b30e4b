-- What a run of mode check answers and writes.
use Rattle.std.specs.Prelude.{◌≡◌, ◌⊎◌, ℕ, List, [], ◌∷◌, length, Option, codes}
use Rattle.std.specs.Io.KnownBytes.{Appends}
use Rattle.cdb_model.specs.Causes.{Rose}
use Rattle.cdb_model.specs.Images.{Base, StandsForOne}
use Rattle.cdb_model.specs.Maps.{FileMap}
use Rattle.cdb_model.specs.Publications.{Publication}
use Rattle.cdb_model.specs.Stands.{Stands}
use Rattle.cdb_model.specs.Text.{Text, ended, numbered}
use Rattle.cdb_crash.specs.Crash.{IsWhole}
use Rattle.cdb_files.specs.Disk as disk
use Rattle.cdb_files.specs.Disk.{IsImage}
use Rattle.cdb_manifest.specs.declared.record_.Record.{Record}
use Rattle.cdb_check.specs.Expected.{Agrees, FirstOther, expected_files}
use Rattle.cdb_check.specs.Laws.{IsFileCount}
use Rattle.cdb_engine.specs.Checks.{AreOpened}
use Rattle.cdb_front.specs.Devices.{WritesPart}
use Rattle.cdb_front.specs.EntryStore.{HasStore}
use Rattle.cdb_front.specs.Failures.{Still}
use Rattle.cdb_front.specs.OverStore.{EndsOver}
use Rattle.cdb_front.specs.RunOutcome.{EndsWith}
use Rattle.cdb_front.specs.declared.exit_status.Status.{Status}
use Rattle.cdb_front.specs.declared.exit_status.Status.TheVariants.{Done, Memory, Usage, InputFault, OutputFault}
use Rattle.cdb_front.specs.declared.exit_status.Status.TheVariants.{StoreFault, NotAStore, TooLong, Differs, Refused}
use Rattle.cdb_front.specs.declared.exit_status.Status.TheVariants.{Damaged}

-- ---- what is written

-- the line where all files agree: how many versions and files there are
abbrev pub agrees_line : ℕ → ℕ → Text
agrees_line versions files = ended (numbered (codes "agrees") (versions ∷ files ∷ []))

-- this much was written of such a line
pub record SaysAgrees (Wrote : Text → Type 0) : Type 0 where
  pub versions : ℕ
  pub files : ℕ
  pub wrote : Wrote (agrees_line versions files)

-- how the run ended, before the line of its status: that line was written, or a part of it and not all; or nothing was;
-- and the run ends in no other way
abbrev pub SaysAgreed : Option (List ℕ) → Option (List ℕ) → Status → Type 0
SaysAgreed old new Done = SaysAgrees (Appends old new)
SaysAgreed old new OutputFault = SaysAgrees (WritesPart old new)
SaysAgreed old new Usage = ⊥
SaysAgreed old new InputFault = ⊥
SaysAgreed old new TooLong = ⊥
SaysAgreed old new (Refused limit) = ⊥
SaysAgreed old new (Damaged expected found) = ⊥
SaysAgreed old new status = new ≡ old

-- ---- what is answered over a disk that tells

-- all files that the records of the store that was opened expect are there, and this much was written of their counts
pub record AgreesAll (before now : FileMap) (Wrote : Text → Type 0) : Type 0 where
  pub records : List Record
  pub opened : AreOpened before now records
  pub agrees : Agrees now records
  pub wrote : Wrote (agrees_line (length records) (length (expected_files records)))

-- the file at this path is the first of them that isn't as expected
pub record DiffersFirst (before now : FileMap) (path : Text) : Type 0 where
  pub records : List Record
  pub opened : AreOpened before now records
  pub first : FirstOther now (expected_files records) path

abbrev pub FindsFiles : FileMap → FileMap → Option (List ℕ) → Option (List ℕ) → Status → Type 0
FindsFiles before now old new Done = AgreesAll before now (Appends old new)
FindsFiles before now old new OutputFault = AgreesAll before now (WritesPart old new)
FindsFiles before now old new (Differs path) = DiffersFirst before now path.bytes
FindsFiles before now old new status = Unit {0}

-- ---- what is answered over a store

-- this much was written of the counts of the list, and the disk is whole for it
pub record AgreesAsListed (list : List Publication) (d : disk.State) (Wrote : Text → Type 0) : Type 0 where
  pub files : ℕ
  pub files_are : IsFileCount list files
  pub wrote : Wrote (agrees_line (length list) files)
  pub whole : IsWhole Stands list d

-- no file differs
abbrev pub FindsListed : List Publication → disk.State → Option (List ℕ) → Option (List ℕ) → Status → Type 0
FindsListed list d old new Done = AgreesAsListed list d (Appends old new)
FindsListed list d old new OutputFault = AgreesAsListed list d (WritesPart old new)
FindsListed list d old new (Differs path) = ⊥
FindsListed list d old new (NotAStore version place) = ⊥
FindsListed list d old new status = Unit {0}

-- and whatever a crash leaves since the run began, or at its end, stands for the list; for one of the early ones only
-- up to the end of opening
pub record ChecksStore {D : Type 0} (state : D → disk.State) (clock : D → ℕ) (since : D → ℕ → FileMap → Type 0)
    (base : Base) (old new : D) (written written' : Option (List ℕ)) (status : Status) : Type 0 where
  pub finds : FindsListed base.list (state new) written written' status
  pub since_entry : (m : FileMap) → since new (clock old) m → StandsForOne (base.list ∷ base.early) m
  pub over : EndsOver clock since base old new [] (λ m. Stands m base.list) (λ m. Stands m base.list)
      (IsImage (state new)) status

-- ---- the whole run

-- how it ended, what was written until then, and the line of the status
pub record Checks {D : Type 0} (tells : Type 0) (state : D → disk.State) (clock : D → ℕ)
    (since : D → ℕ → FileMap → Type 0) (old new : D) (written written' : Option (List ℕ)) (result : Status)
    : Type 0 where
  pub status : Status
  pub mid : Option (List ℕ)
  pub says : SaysAgreed written mid status
  pub finds : tells → FindsFiles (state old).present (state new).present written mid status
  pub store : (base : Base) → HasStore tells base (clock old) (state old)
      → ChecksStore state clock since base old new written mid status
  pub ends : EndsWith status mid written' result

-- ---- no device fails

-- over a store it is done, or stopped for want of memory
abbrev pub CompletesCheckOf : {D O : Type 0} → Type 0 → (D → disk.State) → (D → ℕ) → (D → ℕ → FileMap → Type 0)
    → (D → ℕ) → (O → Option (List ℕ)) → (O → ℕ) → Type 0
CompletesCheckOf {D = D} {O = O} tells state clock since disk_faults written output_faults =
    (old new : D) (output output' : O) (status : Status) (base : Base) → HasStore tells base (clock old) (state old)
    → Checks tells state clock since old new (written output) (written output') status
    → (status ≡ StoreFault → Rose (disk_faults old) (disk_faults new))
    → (status ≡ OutputFault → Rose (output_faults output) (output_faults output'))
    → Still (disk_faults old) (disk_faults new) → Still (output_faults output) (output_faults output')
    → (status ≡ Done) ⊎ (status ≡ Memory)
