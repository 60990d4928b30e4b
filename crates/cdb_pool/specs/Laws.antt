-- Frames are disjoint lists.
use Rattle.std.specs.Prelude.{◌≡◌, ◌≢◌, ℕ, List, length, true}
use Rattle.cdb_pool.specs.Frames.{Frames, contents, written, with_out, IsOut, IsFirstFree}

-- new is old, where w was written into frame k, and every other frame is as it was
pub record WritesOne {T : Type 0} (old : Frames T) (k : ℕ) (w : List T) (new : Frames T) : Type 0 where
  pub this : contents new k ≡ w
  pub others : (j : ℕ) → j ≢ k → contents new j ≡ contents old j
  pub block : length new.items ≡ length old.items
  pub frame_length : new.frame_length ≡ old.frame_length
  pub out : new.out ≡ old.out

-- any frame that is out, written through with as many items as it has
abbrev pub FramesAreApart : {T : Type 0} → Frames T → Type 0
FramesAreApart {T = T} p = (k : ℕ) (w : List T) → IsOut p k → length w ≡ p.frame_length
    → WritesOne p k w (written p k w)

-- frame k is out in new, and is none of those that were out in old, which are out still
pub record TakesAnother {T : Type 0} (old : Frames T) (k : ℕ) (new : Frames T) : Type 0 where
  pub out : IsOut new k
  pub others : (j : ℕ) → IsOut old j → IsOut new j × (j ≢ k)

-- any frame that was the first free one
abbrev pub TakesOther : {T : Type 0} → Frames T → Type 0
TakesOther p = (k : ℕ) → IsFirstFree p k → TakesAnother p k (with_out p k true)
