use Rattle.cdb_source.proofs.DecodingLaws.{one_bad_place}
use Rattle.cdb_source.proofs.laws.one_bad_place.Goals as goal

pub returns : goal.returns
returns c = one_bad_place
