use Rattle.cdb_tiff_write.proofs.TileSamples.{tile_samples}
use Rattle.cdb_tiff_write.proofs.laws.samples_are_values.Goals as goal

pub returns : goal.returns
returns c = tile_samples
