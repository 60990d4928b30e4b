use Rattle.cdb_commands.proofs.ReadForms.{line_form}
use Rattle.cdb_commands.proofs.WritingBack.{reads_back}
use Rattle.cdb_commands.proofs.laws.writing_reads_back.Goals as goal

pub returns : goal.returns
returns c = record { back = reads_back; formed = line_form }
