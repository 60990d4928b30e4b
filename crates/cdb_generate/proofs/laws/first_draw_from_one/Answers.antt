use Rattle.std.proofs.Common.{refl}
use Rattle.cdb_generate.proofs.laws.first_draw_from_one.Goals as goal

pub returns : goal.returns
returns c = record { first = refl; sources = refl }
