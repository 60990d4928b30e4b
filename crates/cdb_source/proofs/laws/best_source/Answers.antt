use Rattle.std.proofs.Common.{map}
use Rattle.cdb_source.specs.Values.{sampled}
use Rattle.cdb_source.proofs.BestLaws.{elevation_is, elevation_only}
use Rattle.cdb_source.proofs.laws.best_source.Goals as goal

pub returns : goal.returns
returns c = record {
  is = λ ss h p. elevation_is (map sampled ss) h p;
  only = λ ss h p r k. elevation_only (map sampled ss) h p r _ k (elevation_is (map sampled ss) h p);
}
