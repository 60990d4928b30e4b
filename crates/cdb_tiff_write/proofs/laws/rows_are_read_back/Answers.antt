use Rattle.cdb_tiff_write.proofs.TileSamples.{are_read_back}
use Rattle.cdb_tiff_write.proofs.laws.rows_are_read_back.Goals as goal

pub returns : goal.returns
returns c = are_read_back
