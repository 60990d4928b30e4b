use Rattle.cdb_names.proofs.NameResults.{one_wrong_in_name}
use Rattle.cdb_names.proofs.PathResults.{one_wrong_in_path}
use Rattle.cdb_names.proofs.laws.one_wrong_place.Goals as goal

pub returns : goal.returns
returns c = record { names = one_wrong_in_name; paths = one_wrong_in_path }
