use Rattle.std.proofs.Common.{◌∙◌}
use Rattle.cdb_tiff_write.proofs.RasterLaws.{small_octets}
use Rattle.cdb_tiff_write.proofs.raster.put_row_8.Goals as goal

pub returns : goal.returns
returns c = c.put_octets.ensures ∙ small_octets c.args.posts.now c.requires.least c.requires.greatest
