use Rattle.cdb_tiff_write.proofs.FrameIn.{frame_of_file}
use Rattle.cdb_tiff_write.proofs.laws.frames_are_of_tiles.Goals as goal

pub returns : goal.returns
returns c = frame_of_file
