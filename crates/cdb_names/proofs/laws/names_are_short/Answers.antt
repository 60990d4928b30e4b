use Rattle.cdb_names.proofs.LengthLaws.{names_short, paths_short}
use Rattle.cdb_names.proofs.laws.names_are_short.Goals as goal

pub returns : goal.returns
returns c = record { names = names_short; paths = paths_short }
