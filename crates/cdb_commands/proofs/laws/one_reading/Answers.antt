use Rattle.cdb_commands.proofs.OneEvent.{one_event}
use Rattle.cdb_commands.proofs.OneReading.{one_reading}
use Rattle.cdb_commands.proofs.laws.one_reading.Goals as goal

pub returns : goal.returns
returns c = record { reading = one_reading; event = one_event }
