use Rattle.cdb_tiff_write.proofs.Written.{written_tiles}
use Rattle.cdb_tiff_write.proofs.laws.tiles_are_written_files.Goals as goal

pub returns : goal.returns
returns c = written_tiles
