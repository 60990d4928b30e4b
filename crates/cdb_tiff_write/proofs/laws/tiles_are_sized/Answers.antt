use Rattle.cdb_tiff_write.proofs.SizeLaws.{are_sized}
use Rattle.cdb_tiff_write.proofs.laws.tiles_are_sized.Goals as goal

pub returns : goal.returns
returns c = are_sized
