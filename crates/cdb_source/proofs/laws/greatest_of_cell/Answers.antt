use Rattle.std.proofs.Common.{map}
use Rattle.cdb_source.specs.Values.{sampled}
use Rattle.std.proofs.Common.{refl}
use Rattle.cdb_source.specs.Values.{high}
use Rattle.cdb_source.specs.Meaning.{ValueIn}
use Rattle.cdb_source.proofs.CellLaws.{high_is, greatest_only}
use Rattle.cdb_source.proofs.laws.greatest_of_cell.Goals as goal

pub returns : goal.returns
unfolding high
returns c = record {
  is = λ ss h p. high_is (map sampled ss) h p;
  only = λ ss h p r le corner k. greatest_only (ValueIn (map sampled ss) h p) r _ k
      (high_is (map sampled ss) h p le corner);
  next = λ ss h p. refl;
}
