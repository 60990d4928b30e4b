use Rattle.std.proofs.Common.{map}
use Rattle.std.proofs.lemmas.List.{map-append}
use Rattle.cdb_source.specs.Values.{sampled}
use Rattle.cdb_source.proofs.MaterialLaws.{material-zero, material-suc, material_later}
use Rattle.cdb_source.proofs.laws.material_with_later_sources.Goals as goal

pub returns : goal.returns
returns c = record {
  finest = λ ss p. material-zero (map sampled ss) p;
  next = λ ss h p. material-suc (map sampled ss) h p;
  later = λ ss ts h p. rw (map-append sampled ss ts) (material_later (map sampled ss) (map sampled ts) h p);
}
