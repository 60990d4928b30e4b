use Rattle.cdb_manifest.proofs.LengthLaws.{have_length, are_short}
use Rattle.cdb_manifest.proofs.laws.records_have_length.Goals as goal

pub returns : goal.returns
returns c = record { length = have_length; most = are_short }
