-- Inside the crate: what a run of mode check answers and writes.
use Rattle.cdb_check.specs.declared.outcome.CheckError.{CheckError}
use Rattle.cdb_check.specs.declared.outcome.CheckError.TheVariants as check
use Rattle.cdb_front.specs.declared.exit_status.Status.{Status}
use Rattle.cdb_front.specs.declared.exit_status.Status.TheVariants.{Memory, StoreFault, Differs}

-- how a run ends whose check failed
abbrev pub checked_status : CheckError → Status
checked_status check.Memory = Memory
checked_status check.Fault = StoreFault
checked_status (check.Differs path) = Differs path
