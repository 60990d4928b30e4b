-- What a run of mode generate leaves and writes.
use Rattle.std.specs.Prelude.{◌≡◌, ◌≢◌, ◌⊎◌, ℕ, ℤ, List, ◌++◌, Option, Some}
use Rattle.std.specs.Io.KnownBytes.{Appends}
use Rattle.cdb_model.specs.Causes.{Rose}
use Rattle.cdb_model.specs.Images.{Base, StandsFrom}
use Rattle.cdb_model.specs.KnownStore.{KnownState, start_at}
use Rattle.cdb_model.specs.Maps.{FileMap}
use Rattle.cdb_model.specs.Publications.{Publication}
use Rattle.cdb_model.specs.Stands.{Stands}
use Rattle.cdb_model.specs.Stores.{known, any, any_store}
use Rattle.cdb_model.specs.Transitions.{StateIn, IsFreshIn}
use Rattle.cdb_model.specs.Text.{Text}
use Rattle.cdb_files.specs.Disk as disk
use Rattle.cdb_files.specs.Disk.{IsImage}
use Rattle.cdb_generate.specs.Generated.{Generates, Summary, summary_text}
use Rattle.cdb_engine.specs.Filling.{AreMade, StopsAfter, StandsButLast}
use Rattle.cdb_engine.specs.declared.errors.PopulateError.{PopulateError}
use Rattle.cdb_engine.specs.declared.errors.PopulateError.TheVariants as populate
use Rattle.cdb_front.specs.Beginning.{CountsRecords}
use Rattle.cdb_front.specs.Devices.{WritesPart}
use Rattle.cdb_front.specs.EntryStore.{HasStore}
use Rattle.cdb_front.specs.Failures.{Still}
use Rattle.cdb_front.specs.OverStore.{EndsOver}
use Rattle.cdb_front.specs.RunOutcome.{EndsWith}
use Rattle.cdb_front.specs.declared.exit_status.Limit.{Limit}
use Rattle.cdb_front.specs.declared.exit_status.Limit.TheVariants.{Entries, Versions}
use Rattle.cdb_front.specs.declared.exit_status.Status.{Status}
use Rattle.cdb_front.specs.declared.exit_status.Status.TheVariants.{Done, Memory, Usage, InputFault, OutputFault}
use Rattle.cdb_front.specs.declared.exit_status.Status.TheVariants.{StoreFault, NotAStore, TooLong, Differs, Refused}
use Rattle.cdb_front.specs.declared.exit_status.Status.TheVariants.{Damaged}

-- ---- over any disk, whatever it holds, and whether it tells it or not

-- the machine began with nothing pending, going or open, and, where the disk tells, with what the records count that
-- were there
pub record BeginsFresh (tells : Type 0) (present : FileMap) (entry : StateIn any_store) : Type 0 where
  pub fresh : IsFreshIn any_store entry
  pub read : tells → CountsRecords present entry

-- all publications were made, and of the three lines this much was written: the newest version, how many files of tiles
-- they have, and a sum
pub record MakesAll (tells : Type 0) (present : FileMap) (start count : ℕ) (Wrote : Text → Type 0) : Type 0 where
  pub entry : StateIn any_store
  pub begins : BeginsFresh tells present entry
  pub files : ℕ
  pub sum : ℤ
  pub next : StateIn any_store
  pub made : AreMade any entry start count files sum next
  pub wrote : Wrote (summary_text next.list.versions files sum)

-- the machine stopped so before all were made
pub record StopsFrom (tells : Type 0) (present : FileMap) (start count : ℕ) (error : PopulateError) : Type 0 where
  pub entry : StateIn any_store
  pub begins : BeginsFresh tells present entry
  pub next : StateIn any_store
  pub stops : StopsAfter any entry start count error next

abbrev pub error_of : Limit → PopulateError
error_of (Entries count) = populate.Entries count
error_of Versions = populate.Versions

-- how the run ended, before the line of its status: the three lines were written, or a part of them and not all; or
-- nothing was. A limit is told where the machine comes to it, a file as damaged where the machine may, and only with
-- another size than the one that is expected; and the run ends in no other way
abbrev pub SaysMade : Type 0 → FileMap → ℕ → ℕ → Option (List ℕ) → Option (List ℕ) → Status → Type 0
SaysMade tells present start count old new Done = MakesAll tells present start count (Appends old new)
SaysMade tells present start count old new OutputFault = MakesAll tells present start count (WritesPart old new)
SaysMade tells present start count old new (Refused limit) =
    (new ≡ old) × StopsFrom tells present start count (error_of limit)
SaysMade tells present start count old new (Damaged expected found) =
    (new ≡ old) × ((found ≢ Some expected) × StopsFrom tells present start count (populate.Damaged expected found))
SaysMade tells present start count old new Usage = ⊥
SaysMade tells present start count old new InputFault = ⊥
SaysMade tells present start count old new TooLong = ⊥
SaysMade tells present start count old new (Differs path) = ⊥
SaysMade tells present start count old new status = new ≡ old

-- ---- over a store

-- the next publication of the generator would pass the limit; a crash leaves those before it
pub record IsAtLimit (list : List Publication) (start count : ℕ) (limit : Limit)
    (Left : FileMap → Type 0) : Type 0 where
  pub next : KnownState
  pub stops : StopsAfter known (start_at list) start count (error_of limit) next
  pub at_exit : (m : FileMap) → Left m → Stands m next.list

-- this much was written of a text that tells of all publications, and a crash leaves them all
pub record SumsUp (list begun : List Publication) (count : ℕ) (Left : FileMap → Type 0) (Wrote : Text → Type 0)
    : Type 0 where
  pub text : Text
  pub wrote : Wrote text
  pub summary : Summary list begun count Left text

-- no file is damaged
abbrev pub EndsMade : List Publication → ℕ → ℕ → List Publication → (FileMap → Type 0) → Option (List ℕ)
    → Option (List ℕ) → Status → Type 0
EndsMade list start count begun Left old new Done = SumsUp list begun count Left (Appends old new)
EndsMade list start count begun Left old new OutputFault = SumsUp list begun count Left (WritesPart old new)
EndsMade list start count begun Left old new (Refused limit) = IsAtLimit list start count limit Left
EndsMade list start count begun Left old new (Damaged expected found) = ⊥
EndsMade list start count begun Left old new (NotAStore version place) = ⊥
EndsMade list start count begun Left old new status = Unit {0}

-- what a crash leaves at the end of a run that opened the store: the list followed by the publications begun, by all of
-- them where all were made, and else by all but at most the last
abbrev pub StandsMade : Status → List Publication → List Publication → FileMap → Type 0
StandsMade Done list begun m = Stands m (list ++ begun)
StandsMade OutputFault list begun m = Stands m (list ++ begun)
StandsMade status list begun m = StandsButLast list begun m

-- whatever the status, the publications begun are the first of the generator's, and each crash since the run began
-- leaves the list followed by the first of them; one of the early lists only up to the end of opening
pub record FillsStore {D : Type 0} (state : D → disk.State) (clock : D → ℕ) (since : D → ℕ → FileMap → Type 0)
    (base : Base) (start count : ℕ) (old new : D) (written written' : Option (List ℕ)) (status : Status) : Type 0 where
  pub begun : List Publication
  pub generates : Generates base start count (since new base.moment) begun
  pub over : EndsOver clock since base old new begun (StandsFrom base.list begun) (StandsMade status base.list begun)
      (IsImage (state new)) status
  pub ends : EndsMade base.list start count begun (IsImage (state new)) written written' status

-- ---- the whole run

-- how it ended, what was written until then, and the line of the status
pub record Fills {D : Type 0} (tells : Type 0) (state : D → disk.State) (clock : D → ℕ)
    (since : D → ℕ → FileMap → Type 0) (start count : ℕ) (old new : D) (written written' : Option (List ℕ))
    (result : Status) : Type 0 where
  pub status : Status
  pub mid : Option (List ℕ)
  pub says : SaysMade tells (state old).present start count written mid status
  pub store : (base : Base) → HasStore tells base (clock old) (state old)
      → FillsStore state clock since base start count old new written mid status
  pub ends : EndsWith status mid written' result

-- ---- no device fails

-- over a store it is done, or stopped for want of memory, or as a limit was reached
abbrev pub CompletesFillOf : {D O : Type 0} → Type 0 → (D → disk.State) → (D → ℕ) → (D → ℕ → FileMap → Type 0)
    → (D → ℕ) → (O → Option (List ℕ)) → (O → ℕ) → Type 0
CompletesFillOf {D = D} {O = O} tells state clock since disk_faults written output_faults =
    (start count : ℕ) (old new : D) (output output' : O) (status : Status) (base : Base)
    → HasStore tells base (clock old) (state old)
    → Fills tells state clock since start count old new (written output) (written output') status
    → (status ≡ StoreFault → Rose (disk_faults old) (disk_faults new))
    → (status ≡ OutputFault → Rose (output_faults output) (output_faults output'))
    → Still (disk_faults old) (disk_faults new) → Still (output_faults output) (output_faults output')
    → (status ≡ Done) ⊎ ((status ≡ Memory) ⊎ ((limit : Limit) × (status ≡ Refused limit)))
