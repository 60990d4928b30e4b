-- The store that was never written.
use Rattle.std.proofs.Common.{◌≡◌, ◌≢◌, ℕ, ◌+◌, ◌⊎◌, inl, inr, List, [], ◌∷◌, ◌++◌, length, length-append, None, Some, refl, sym, ap, ◌∙◌, subst, arith}
use Rattle.std.proofs.lemmas.Option.{none-some}
use Rattle.cdb_source.specs.declared.source.Source.{Source}
use Rattle.cdb_model.specs.Maps.{Text, Content, FileMap, IsThere, put}
use Rattle.cdb_model.specs.Names.{head_path, new_head_path}
use Rattle.cdb_model.specs.Stands.{ArePublications, HasVersion, IsInVersions, Stands}
use Rattle.cdb_model.proofs.MapLaws.{put-same, put-other, same_text}
use Rattle.cdb_files.specs.Disk.{empty_disk}
use Rattle.cdb_crash.specs.Leftovers.{IsOfVersion}
use Rattle.cdb_crash.specs.Laws.{EmptyStore}
use Rattle.cdb_crash.proofs.Paths.{not_head, at_most-none, at_most-one}
use Rattle.cdb_crash.proofs.HeadSteps.{heads_differ}
use Rattle.cdb_crash.proofs.StoreLaws.{none_beyond}
use Rattle.cdb_crash.proofs.Barrier.{whole_alone}

no_publications : ArePublications []
no_publications = record {
  each = λ k d l. absurd (omega (arith, l));
  few = omega arith;
  entries = 0;
  entries_are = refl;
  entries_fit = omega arith;
}

no_versions : (m : FileMap) (earlier : List (List Source)) (sources : List Source) (later : List (List Source))
    → [] ≡ earlier ++ sources ∷ later → HasVersion m earlier sources
no_versions m earlier sources later e =
    absurd (let n = ap length e in omega (arith, n, length-append earlier (sources ∷ later)))

-- A map with one file, which isn't the head.
with_one : (path : Text) (bytes : List ℕ) → path ≢ head_path → (path ≡ new_head_path) ⊎ IsOfVersion 1 path
    → Stands (put (λ p. None) path (Some bytes)) []
with_one path bytes ne place = record {
  publications = no_publications;
  head = put-other (λ p. None) path (Some bytes) head_path (λ e. ne (sym e));
  versions = no_versions (put (λ p. None) path (Some bytes));
  others = λ q there. other q there (same_text q path) place;
  leftovers = at_most-one 65536 (λ q. IsOfVersion (0 + 1) q × IsThere (put (λ p. None) path (Some bytes) q)) path
      (omega arith) (λ q f. one q (f.1) (same_text q path));
}
  where
    one : (q : Text) → IsThere (put (λ p. None) path (Some bytes) q) → (q ≡ path) ⊎ (q ≢ path) → q ≡ path
    one q there (inl e) = e
    one q there (inr other) = let T : Content → Type 0 = IsThere in
        absurd (subst T (put-other (λ p. None) path (Some bytes) q other) there)

    other : (q : Text) → IsThere (put (λ p. None) path (Some bytes) q) → (q ≡ path) ⊎ (q ≢ path)
        → (path ≡ new_head_path) ⊎ IsOfVersion 1 path
        → (q ≡ head_path) ⊎ ((q ≡ new_head_path) ⊎ IsInVersions 0 q)
    other q there (inl e) (inl new_head) = inr (inl (e ∙ new_head))
    other q there (inl e) (inr under) = let U : Text → Type 0 = IsOfVersion 1 in
        inr (inr (record { version = 1; from_one = omega arith; to_next = omega arith; under = subst U (sym e) under }))
    other q there (inr no_file) p = let T : Content → Type 0 = IsThere in
        absurd (subst T (put-other (λ p. None) path (Some bytes) q no_file) there)

none_stands : Stands (λ path. None) []
none_stands = record {
  publications = no_publications;
  head = refl;
  versions = no_versions (λ path. None);
  others = λ q there. absurd there;
  leftovers = at_most-none 65536 (λ q. IsOfVersion (0 + 1) q × IsThere None) (λ q f. f.1);
}

pub empty_store : EmptyStore Stands
empty_store = record {
  empty = none_stands;
  new_head = λ bytes. with_one new_head_path bytes (λ e. heads_differ (sym e)) (inl refl);
  leftover = λ path bytes under. with_one path bytes (not_head 1 path under) (inr under);
  head = λ bytes stands. none-some bytes (sym stands.head ∙ put-same (λ p. None) head_path (Some bytes));
  stray = λ path bytes under stands. none-some bytes
      (sym (none_beyond [] (put (λ p. None) path (Some bytes)) stands 2 (omega arith) path under)
      ∙ put-same (λ p. None) path (Some bytes));
  disk = record {
    whole = whole_alone Stands [] (λ path. None) empty_disk none_stands
        (record { present = λ path. refl; may = λ path. of });
    none = λ m image q under. of (m q) (image q);
  };
}
  where
    of : (v : Content) → (v ≡ None) ⊎ ⊥ → v ≡ None
    of v (inl e) = e
    of v (inr e) = absurd e
