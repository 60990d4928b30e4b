use Rattle.cdb_manifest.proofs.PlaceLaws.{one_place}
use Rattle.cdb_manifest.proofs.laws.one_bad_place.Goals as goal

pub returns : goal.returns
returns c = one_place
