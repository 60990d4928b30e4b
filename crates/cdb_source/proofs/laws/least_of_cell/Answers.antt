use Rattle.std.proofs.Common.{map}
use Rattle.cdb_source.specs.Values.{sampled}
use Rattle.std.proofs.Common.{refl}
use Rattle.cdb_source.specs.Values.{low}
use Rattle.cdb_source.specs.Meaning.{ValueIn}
use Rattle.cdb_source.proofs.CellLaws.{low_is, least_only}
use Rattle.cdb_source.proofs.laws.least_of_cell.Goals as goal

pub returns : goal.returns
unfolding low
returns c = record {
  is = λ ss h p. low_is (map sampled ss) h p;
  only = λ ss h p r le corner k. least_only (ValueIn (map sampled ss) h p) r _ k
      (low_is (map sampled ss) h p le corner);
  next = λ ss h p. refl;
}
