use Rattle.cdb_names.proofs.NameResults.{none_in_name}
use Rattle.cdb_names.proofs.PathResults.{none_in_path}
use Rattle.cdb_names.proofs.laws.names_have_no_wrong_place.Goals as goal

pub returns : goal.returns
returns c = record { names = none_in_name; paths = none_in_path }
