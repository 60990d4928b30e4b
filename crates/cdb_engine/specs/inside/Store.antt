-- Inside the crate: the disk at the beginning of a run: whole for a list, or left by a fault without a stop.
use Rattle.cdb_chain.specs.declared.open_error.OpenError.{OpenError}
use Rattle.cdb_chain.specs.declared.open_error.OpenError.TheVariants.{Fault, NotAStore}
use Rattle.cdb_recover.specs.declared.recover_error.RecoverError.{RecoverError}
use Rattle.cdb_recover.specs.declared.recover_error.RecoverError.TheVariants as recovery

-- an error of recovery, as one of opening
abbrev pub open_error_of : RecoverError → OpenError
open_error_of recovery.Fault = Fault
open_error_of (recovery.NotAStore version place) = NotAStore version place
