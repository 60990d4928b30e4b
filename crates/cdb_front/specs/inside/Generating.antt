-- Inside the crate: what a run of mode generate leaves and writes.
use Rattle.cdb_engine.specs.declared.errors.PopulateError.{PopulateError}
use Rattle.cdb_engine.specs.declared.errors.PopulateError.TheVariants as populate
use Rattle.cdb_front.specs.declared.exit_status.Limit.TheVariants.{Entries, Versions}
use Rattle.cdb_front.specs.declared.exit_status.Status.{Status}
use Rattle.cdb_front.specs.declared.exit_status.Status.TheVariants.{Memory, StoreFault, Refused, Damaged}

-- how a run ends that couldn't make all publications
abbrev pub made_status : PopulateError → Status
made_status populate.Memory = Memory
made_status populate.Fault = StoreFault
made_status (populate.Entries count) = Refused (Entries count)
made_status populate.Versions = Refused Versions
made_status (populate.Damaged expected found) = Damaged expected found
