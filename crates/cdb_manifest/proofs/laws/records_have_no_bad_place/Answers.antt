use Rattle.cdb_manifest.proofs.PlaceLaws.{no_bad}
use Rattle.cdb_manifest.proofs.laws.records_have_no_bad_place.Goals as goal

pub returns : goal.returns
returns c = no_bad
