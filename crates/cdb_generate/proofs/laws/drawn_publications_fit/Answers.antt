use Rattle.cdb_generate.proofs.LoadLaws.{drawn_fits}
use Rattle.cdb_generate.proofs.laws.drawn_publications_fit.Goals as goal

pub returns : goal.returns
returns c = drawn_fits
