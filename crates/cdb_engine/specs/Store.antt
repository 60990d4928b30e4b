-- The disk at the beginning of a run: whole for a list, or left by a fault without a stop.
use Rattle.std.specs.Prelude.{ℕ, List, [], ◌∷◌, Result, Ok, Err}
use Rattle.cdb_model.specs.Images.{IsNext}
use Rattle.cdb_model.specs.Maps.{FileMap}
use Rattle.cdb_model.specs.Publications.{Publication}
use Rattle.cdb_model.specs.Stands.{Stands}
use Rattle.cdb_files.specs.Disk as disk
use Rattle.cdb_crash.specs.Crash.{IsWhole, IsFaulted}
use Rattle.cdb_chain.specs.Opening.{IsFirstBad}
use Rattle.cdb_chain.specs.declared.open_error.OpenError.{OpenError}
use Rattle.cdb_chain.specs.declared.open_error.OpenError.TheVariants.{Memory, Fault, NotAStore}
use Rattle.cdb_recover.specs.Answers.{IsAnswer, KeepsStore}
use Rattle.cdb_recover.specs.declared.recover_error.RecoverError.TheVariants as recovery

-- after a fault without a stop: a clear disk that stands for the list at present; a crash may also leave the other one
pub record IsLeft (list other : List Publication) (d : disk.State) : Type 0 where
  pub shorter : List Publication
  pub x : Publication
  pub next : IsNext shorter x list other
  pub faulted : IsFaulted Stands shorter x d
  pub present : Stands d.present list

-- a disk that is whole for the list, or was left by a fault without a stop, where a crash may leave one other list
abbrev pub IsStore : List Publication → List (List Publication) → disk.State → Type 0
IsStore list [] d = IsWhole Stands list d
IsStore list (other ∷ []) d = IsLeft list other d
IsStore list _ d = ⊥

-- ---- why a disk has no store

-- recovery refuses the files that were there; or it gives the newest version, and of the versions up to it one has a
-- bad record among the files that are left, the first such version. Only leftovers of recovery are gone from them
pub data IsNoStore (present left : FileMap) (version place : ℕ) : Type 0 where
  unrecovered : IsAnswer present (Err (recovery.NotAStore version place)) → KeepsStore present left
      → IsNoStore present left version place
  bad_record : (newest : ℕ) → IsAnswer present (Ok newest) → KeepsStore present left
      → IsFirstBad (Unit {0}) left newest version place → IsNoStore present left version place

-- what opening says of the files that were there, and of those that are left, where the disk tells
abbrev pub TellsNoStore : {T : Type 0} → Type 0 → FileMap → FileMap → Result T OpenError → Type 0
TellsNoStore Tells present left (Ok _) = Unit {0}
TellsNoStore Tells present left (Err Memory) = Unit {0}
TellsNoStore Tells present left (Err Fault) = Unit {0}
TellsNoStore Tells present left (Err (NotAStore version place)) = Tells → IsNoStore present left version place

-- a store was found
abbrev pub IsStoreFound : OpenError → Type 0
IsStoreFound Memory = Unit {0}
IsStoreFound Fault = Unit {0}
IsStoreFound (NotAStore version place) = ⊥
