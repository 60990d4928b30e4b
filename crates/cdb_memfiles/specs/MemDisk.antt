-- A disk in memory: what it did, and its counts.
use Rattle.std.specs.Prelude.{◌≡◌, ℕ, ◌⊎◌, List, length, Result, OnOk, OnErr, IsErr, IsTrue}
use Rattle.cdb_model.specs.Causes.{Rose, HasCause}
use Rattle.cdb_model.specs.Maps.{FileMap}
use Rattle.cdb_files.specs.Disk.{State}
use Rattle.cdb_memfiles.specs.declared.call.Call.{Call}
use Rattle.cdb_memfiles.specs.declared.mem_disk.MemDisk.{MemDisk}
use Rattle.cdb_memfiles.specs.declared.schedule.Schedule.{Schedule}
use Rattle.cdb_memfiles.specs.History.{replay, HasBeen}
use Rattle.cdb_memfiles.specs.Schedule.{CountsCall, FailsAsListed, fails_next, one_more}

-- The calls that it answered with Ok and that change something. All that it holds is told by them.
abbrev pub history : MemDisk → List Call
history disk = disk.record.calls.items

-- Its calls by number, those that fail, and its count of faults.
abbrev pub schedule_of : MemDisk → Schedule
schedule_of disk = disk.schedule

-- The count of its calls of `read_at`.
abbrev pub reads_of : MemDisk → ℕ
reads_of disk = disk.reads

-- The count of its own growths that were refused.
abbrev pub refused_of : MemDisk → ℕ
refused_of disk = disk.refused

abbrev pub disk_state : MemDisk → State
disk_state disk = replay (history disk)

abbrev pub clock_of : MemDisk → ℕ
clock_of disk = length (history disk)

abbrev pub since_of : MemDisk → ℕ → FileMap → Type 0
since_of disk = HasBeen (history disk)

-- A call that changes the disk fails where it is listed, and else only where a growth was refused; and where it fails,
-- nothing has changed.
pub record WritesAsListed {T E : Type 0} (old new : MemDisk) (result : Result T E) : Type 0 where
  pub numbered : CountsCall (schedule_of old) (schedule_of new)
  pub cause : HasCause (schedule_of old).faults (schedule_of new).faults result
  pub listed : IsTrue (fails_next (schedule_of old)) → IsErr result × (refused_of new ≡ refused_of old)
  pub why : OnErr result (IsTrue (fails_next (schedule_of old)) ⊎ Rose (refused_of old) (refused_of new))
  pub unchanged : OnErr result (history new ≡ history old)
  pub ok : OnOk result (((schedule_of new).faults ≡ (schedule_of old).faults) × (refused_of new ≡ refused_of old))
  pub err : OnErr result ((schedule_of new).faults ≡ one_more (schedule_of old).faults)
  pub reads : reads_of new ≡ reads_of old

-- A call that reads fails exactly where it is listed.
pub record ReadsAsListed {T E : Type 0} (old new : MemDisk) (result : Result T E) : Type 0 where
  pub listed : FailsAsListed (schedule_of old) (schedule_of new) result
  pub history : history new ≡ history old
  pub refused : refused_of new ≡ refused_of old
