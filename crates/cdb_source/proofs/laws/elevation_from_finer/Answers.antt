use Rattle.std.proofs.Common.{map}
use Rattle.cdb_source.specs.Values.{sampled}
use Rattle.cdb_source.proofs.ElevationLaws.{elevation-suc, elevation-zero}
use Rattle.cdb_source.proofs.laws.elevation_from_finer.Goals as goal

pub returns : goal.returns
returns c = record { finest = elevation-zero; next = λ ss h p. elevation-suc (map sampled ss) h p }
