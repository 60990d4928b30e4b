-- The record of a publication.
use Rattle.std.proofs.Common.{◌≡◌, ◌≤◌, List, length, arith}
use Rattle.std.proofs.lemmas.List.{length-map}
use Rattle.cdb_source.specs.declared.source.Source.{Source}
use Rattle.cdb_source.proofs.LoadLaws.{within_load}
use Rattle.cdb_model.specs.Publications.{heads_of}
use Rattle.cdb_manifest.specs.Records.{PublicationsHaveRecords}
use Rattle.cdb_manifest.proofs.DecodingLaws.{published}

pub heads-length : (sources : List Source) → length (heads_of sources) ≡ length sources
heads-length sources = length-map sources (λ (s : Source). s.head)

pub publications : PublicationsHaveRecords
publications version sources tiles least most publication touched =
    let same = heads-length sources in
    let few : length tiles ≤ publication.load =
    within_load (heads_of sources) publication.load tiles publication.load_is touched in
    published version (heads_of sources) tiles (record {
      version_least = least;
      version_most = most;
      heads_least = omega (arith, same, publication.some);
      heads_most = omega (arith, same, publication.few);
      tiles_most = omega (arith, few, publication.fits);
      ordered = touched.ordered;
    })
