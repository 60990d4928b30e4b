use Rattle.std.proofs.Common.{map}
use Rattle.std.proofs.lemmas.List.{map-append}
use Rattle.cdb_source.specs.Values.{sampled}
use Rattle.cdb_source.proofs.ElevationLaws.{earlier_stand}
use Rattle.cdb_source.proofs.laws.earlier_sources_stand.Goals as goal

pub returns : goal.returns
returns c = λ ss ts h p. rw (map-append sampled ss ts) (earlier_stand (map sampled ss) (map sampled ts) h p)
