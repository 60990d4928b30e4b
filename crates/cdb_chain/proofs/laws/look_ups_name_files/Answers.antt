use Rattle.cdb_chain.proofs.ReachedLaws.{names_files}
use Rattle.cdb_chain.proofs.laws.look_ups_name_files.Goals as goal

pub returns : goal.returns
returns c = names_files
