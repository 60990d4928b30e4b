use Rattle.cdb_source.proofs.ReachLaws.{tile_same, tile_untouched, tile_unreached}
use Rattle.cdb_source.proofs.laws.reaching_sources_alone.Goals as goal

pub returns : goal.returns
returns c = record { same = tile_same; untouched = tile_untouched; unreached = tile_unreached }
