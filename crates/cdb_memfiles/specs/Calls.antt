-- What a call of a disk or a shelf tells, and what it makes of a disk, in the words of their traits.
use Rattle.std.specs.Prelude.{◌≡◌, ℕ, List, Option, Result, IfOk, OnOk, OnErr, MatchOption}
use Rattle.arrayvec.specs.ArrayString.{ArrayString}
use Rattle.cdb_model.specs.Maps.{Text, FileMap, size_of, HasAt, NoneUnder, IsFirstUnder}
use Rattle.cdb_files.specs.Disk.{State, FailsAppend}
use Rattle.cdb_files.specs.Moments.{IsBetween, Elapses, Rests, Moves}

-- The size of a file is told.
abbrev pub TellsSize : {E : Type 0} → FileMap → Text → Result (Option ℕ) E → Type 0
TellsSize m path result = IfOk result (λ size. size ≡ size_of (m path))

-- The bytes of a file from a place on are given.
abbrev pub GivesBytes : {T E : Type 0} → FileMap → Text → ℕ → List ℕ → Result T E → Type 0
GivesBytes m path at bytes result = OnOk result (HasAt (m path) at bytes)

-- The first file under a folder is told, or that there is none.
abbrev pub TellsFirst : {E : Type 0} → FileMap → Text → Result (Option ArrayString) E → Type 0
TellsFirst m folder result =
    IfOk result (λ found. MatchOption found (NoneUnder m folder) (λ path. IsFirstUnder m folder path.bytes))

-- What a failed call leaves, by the states before it, after it, and left: nothing has changed.
abbrev pub IsUnchanged : State → State → State → Type 0
IsUnchanged old after new = new ≡ old

-- A first part of the piece was added.
abbrev pub AddsPart : Text → List ℕ → State → State → State → Type 0
AddsPart path piece old after new = FailsAppend path piece old new

module _ {D : Type 0} (state_of : D → State) (clock_of : D → ℕ) (since_of : D → ℕ → FileMap → Type 0) where
  -- A call that reads: the state and the moments rest.
  pub record Reads (old new : D) : Type 0 where
    pub state : state_of new ≡ state_of old
    pub time : Rests (clock_of old) (clock_of new) (since_of old) (since_of new)

  -- A call that makes this of the state where it is Ok, and where it fails leaves what it may leave then.
  pub record Changes {T E : Type 0} (after : State → State) (Leaves : State → State → State → Type 0) (old new : D)
      (result : Result T E) : Type 0 where
    pub ok : OnOk result (state_of new ≡ after (state_of old))
    pub err : OnErr result (Leaves (state_of old) (after (state_of old)) (state_of new))
    pub time : Elapses (clock_of old) (clock_of new) (since_of old) (since_of new)
        (IsBetween (state_of old) (after (state_of old)))
    pub moves : Moves (clock_of old) (clock_of new) (state_of old) (state_of new)
