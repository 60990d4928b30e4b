use Rattle.std.proofs.Common.{◌++◌, List, ℕ, refl, ap, ◌∙◌}
use Rattle.cdb_model.specs.Records.{record_first_bytes, version_text}
use Rattle.cdb_manifest.specs.Decoding.{to_version, to_sources}
use Rattle.cdb_manifest.proofs.decoding.numbers_at.Goals as goal

pub returns-in_default-number_at-2-clause-bad : goal.returns-in_default-number_at-2-clause-bad
returns-in_default-number_at-2-clause-bad c =
    let version = c.in-Some-number_at.ensures in
    record {
      fields = to_version c.in-Some-number_at.version;
      rest = c.in-Some-number_at.rest.now;
      of_form = (version.0, version.1);
      begins = c.in-Some.ensures ∙ ap (λ (r : List ℕ). record_first_bytes ++ r) version.2;
      never = c.in_default-number_at-2.ensures;
      unfinished = λ whole. whole;
      place_is = refl;
    }

pub returns-in_default-number_at-3-clause-bad : goal.returns-in_default-number_at-3-clause-bad
returns-in_default-number_at-3-clause-bad c =
    let version = c.in-Some-number_at.ensures in
    let sources = c.in-Some-number_at-2.ensures in
    record {
      fields = to_sources c.in-Some-number_at.version c.in-Some-number_at-2.sources;
      rest = c.in-Some-number_at-2.rest.now;
      of_form = ((version.0, version.1), (sources.0, sources.1));
      begins = c.in-Some.ensures ∙ ap (λ (r : List ℕ). record_first_bytes ++ r) version.2
          ∙ ap (λ (r : List ℕ). version_text c.in-Some-number_at.version ++ r) sources.2;
      never = c.in_default-number_at-3.ensures;
      unfinished = λ whole. whole;
      place_is = refl;
    }
