use Rattle.cdb_tiff_base.proofs.WrittenTile.{accepted, pixel_is}
use Rattle.cdb_tiff_base.proofs.written_tile.written_tile_is_read.Goals as goal

pub returns-clause-accepted : goal.returns-clause-accepted
returns-clause-accepted c = accepted

pub returns-clause-pixels : goal.returns-clause-pixels
returns-clause-pixels c = pixel_is
