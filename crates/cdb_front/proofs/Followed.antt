-- A state that is followed on a disk since a run began, and what the disk is at its end.
use Rattle.std.specs.Prelude.{◌≡◌, ℕ, List, None, Some}
use Rattle.cdb_model.specs.Begun.{HasBegun}
use Rattle.cdb_model.specs.Images.{Base, StandsSince}
use Rattle.cdb_model.specs.KnownStore.{KnownState, Going}
use Rattle.cdb_model.specs.Maps.{FileMap}
use Rattle.cdb_model.specs.Publications.{Publication}
use Rattle.cdb_model.specs.Stands.{Stands}
use Rattle.cdb_crash.specs.Crash.{IsWhole, IsEither}
use Rattle.cdb_files.specs.Disk as disk
use Rattle.cdb_files.specs.Disk.{IsImage}
use Rattle.cdb_front.specs.RunOutcome.{LeavesNoEarly}

-- a disk is whole for the list of a state, or, where a publication was given up, each image stands for the list or for
-- the list followed by that one; where one was given up, none is going
pub record IsLeftBy (s : KnownState) (d : disk.State) : Type 0 where
  pub whole : s.halted ≡ None → IsWhole Stands s.list d
  pub either : (x : Publication) → s.halted ≡ Some x → (m : FileMap) → IsImage d m → IsEither Stands s.list x m
  pub one : (now : Going) (x : Publication) → s.going ≡ Some now → s.halted ≡ Some x → ⊥

-- a state of a run that began with a store: whatever a crash left since then stands for the store's list followed by
-- the first of the publications begun
pub record IsFollowed (base : Base) (s : KnownState) (opened now : ℕ) (Since : ℕ → FileMap → Type 0) (d : disk.State)
    : Type 0 where
  pub begun : List Publication
  pub has_begun : HasBegun base.list s begun
  pub since : (m : FileMap) → Since base.moment m → StandsSince base begun m
  pub opening : LeavesNoEarly base begun opened now Since
  pub left : IsLeftBy s d
