use Rattle.cdb_tiff_write.proofs.Read.{are_read}
use Rattle.cdb_tiff_write.proofs.laws.tiles_are_read.Goals as goal

pub returns : goal.returns
returns c = are_read
