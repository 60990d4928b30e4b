use Rattle.cdb_source.proofs.ModeLaws.{mode_is, mode_only}
use Rattle.cdb_source.proofs.laws.most_frequent.Goals as goal

pub returns : goal.returns
returns c = record { is = mode_is; only = λ values r k. mode_only values r _ k (mode_is values) }
