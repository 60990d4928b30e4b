-- A disk that passes some calls on and fails each one after.
use Rattle.std.specs.Prelude.{◌≡◌, ℕ, ◌-◌, ◌<◌, Result, IsErr, OnOk, OnErr}
use Rattle.cdb_model.specs.Causes.{Rose, HasCause}
use Rattle.cdb_memfiles.specs.declared.fuse.Fuse.{Fuse}
use Rattle.cdb_memfiles.specs.Schedule.{one_more}

module _ {D : Type 0} where
  -- The disk to which the calls are passed.
  abbrev pub inner_of : Fuse D → D
  inner_of fuse = fuse.disk

  -- How many calls it still passes.
  abbrev pub calls_left : Fuse D → ℕ
  calls_left fuse = fuse.left

  -- Its count of faults.
  abbrev pub fuse_faults : Fuse D → ℕ
  fuse_faults fuse = fuse.faults

  -- A call is passed while there are calls left, and fails then only where the inner disk's count of faults rose.
  -- With none left it fails and changes nothing. Its own count of faults rises by one in a call that fails, and rests
  -- else.
  pub record IsFused {T E : Type 0} (fault_count : D → ℕ) (old new : Fuse D) (result : Result T E) : Type 0 where
    pub cause : HasCause (fuse_faults old) (fuse_faults new) result
    pub left : calls_left new ≡ calls_left old - 1
    pub blown : calls_left old ≡ 0 → IsErr result × (inner_of new ≡ inner_of old)
    pub passed : 0 < calls_left old → OnErr result (Rose (fault_count (inner_of old)) (fault_count (inner_of new)))
    pub ok : OnOk result (fuse_faults new ≡ fuse_faults old)
    pub err : OnErr result (fuse_faults new ≡ one_more (fuse_faults old))
