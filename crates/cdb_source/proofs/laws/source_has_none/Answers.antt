use Rattle.std.proofs.Common.{refl}
use Rattle.cdb_source.specs.Texts.{source_text}
use Rattle.cdb_source.proofs.DecodingLaws.{no_bad}
use Rattle.cdb_source.proofs.laws.source_has_none.Goals as goal

pub returns : goal.returns
returns c = λ source place bad. no_bad (source_text source) place source refl bad
