use Rattle.cdb_commands.proofs.Wordings.{line_worded}
use Rattle.cdb_commands.proofs.WordingsRead.{line_read}
use Rattle.cdb_commands.proofs.laws.reading_is_worded.Goals as goal

pub returns : goal.returns
returns c = record { worded = line_worded; read = line_read }
