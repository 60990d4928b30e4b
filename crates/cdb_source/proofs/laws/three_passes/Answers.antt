use Rattle.std.proofs.Common.{map}
use Rattle.std.proofs.lemmas.List.{map-append}
use Rattle.cdb_source.specs.Values.{sampled}
use Rattle.cdb_source.proofs.ElevationLaws.{three_passes}
use Rattle.cdb_source.proofs.laws.three_passes.Goals as goal

pub returns : goal.returns
returns c = λ ss ts h p. rw (map-append sampled ss ts) (three_passes (map sampled ss) (map sampled ts) h p)
