use Rattle.cdb_source.proofs.ReachLaws.{tile_same, tile_untouched, tile_unreached}
use Rattle.cdb_tiff_write.proofs.ByteLaws.{bytes_by_reaching}
use Rattle.cdb_tiff_write.proofs.laws.bytes_by_reaching_sources.Goals as goal

pub returns : goal.returns
returns c = bytes_by_reaching (record { same = tile_same; untouched = tile_untouched; unreached = tile_unreached })
