-- The moments of a disk by its clock, and the images since one of them.
use Rattle.std.specs.Prelude.{◌≡◌, ℕ, ◌≤◌, ◌<◌, ◌⊎◌}
use Rattle.cdb_model.specs.Maps.{Text, FileMap}
use Rattle.cdb_files.specs.Disk.{State, Allows}

-- An image at a moment inside a call from one state to another: each path is as it may be before or after.
abbrev pub IsBetween : State → State → FileMap → Type 0
IsBetween old after m = (q : Text) → Allows (old.may q) (m q) ⊎ Allows (after.may q) (m q)

-- One call: the clock doesn't go back, and the images since an earlier moment are those from before the call and some
-- of P.
pub record Elapses (before now : ℕ) (past since : ℕ → FileMap → Type 0) (P : FileMap → Type 0) : Type 0 where
  pub later : before ≤ now
  pub nothing_else : (t : ℕ) (m : FileMap) → t ≤ before → since t m → past t m ⊎ P m
  pub keeps : (t : ℕ) (m : FileMap) → t ≤ before → past t m → since t m

-- A call that only reads: the clock rests, and the images since each moment stay.
pub record Rests (before now : ℕ) (past since : ℕ → FileMap → Type 0) : Type 0 where
  pub same : now ≡ before
  pub nothing_else : (t : ℕ) (m : FileMap) → since t m → past t m
  pub keeps : (t : ℕ) (m : FileMap) → past t m → since t m

-- The clock moves on in a call that changes the map or a possibility.
abbrev pub Moves : ℕ → ℕ → State → State → Type 0
Moves before now old new = ((new.present ≡ old.present) × (new.may ≡ old.may)) ⊎ (before < now)

-- A run of calls from one disk to another, whose images since an earlier moment are those from before the run and some
-- of P.
pub record AddsOnly {D : Type 0} (clock : D → ℕ) (since : D → ℕ → FileMap → Type 0) (old new : D)
    (P : FileMap → Type 0) : Type 0 where
  pub later : clock old ≤ clock new
  pub nothing_else : (t : ℕ) (m : FileMap) → t ≤ clock old → since new t m → since old t m ⊎ P m
