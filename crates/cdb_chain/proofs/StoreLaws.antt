-- The records of a store that stands for a list of publications.
use Rattle.std.proofs.Common.{◌≡◌, ℕ, ◌+◌, ◌<◌, ◌≤◌, inl, inr, List, [], ◌∷◌, ◌++◌, length, slice_get}
use Rattle.std.proofs.Common.{get_or, Some, Result, Ok, Err, refl, sym, ap, ◌∙◌, subst, arith}
use Rattle.std.proofs.Common.{length-append}
use Rattle.std.proofs.lemmas.Option.{slice_get-get_or, same_Some, slice_get_within}
use Rattle.cdb_grid.specs.declared.tile.Tile.{Tile}
use Rattle.cdb_source.specs.Reached.{IsTouched}
use Rattle.cdb_source.specs.declared.head.SourceHead.{SourceHead}
use Rattle.cdb_source.specs.declared.source.Source.{Source}
use Rattle.cdb_source.proofs.LoadLaws.{within_load}
use Rattle.cdb_model.specs.Publications.{heads_of}
use Rattle.cdb_model.specs.Maps.{Content, FileMap}
use Rattle.cdb_model.specs.Names.{record_path}
use Rattle.cdb_model.specs.Records.{record_text, heads_text, entries_text}
use Rattle.cdb_model.specs.Stands.{IsPublication, ArePublications, HasVersion, IsVersionFile, Stands}
use Rattle.cdb_manifest.specs.Entries.{IsRecord}
use Rattle.cdb_manifest.specs.Records.{record_bytes}
use Rattle.cdb_manifest.specs.declared.record_.Record.{Record}
use Rattle.cdb_manifest.proofs.DecodingLaws.{one_record}
use Rattle.cdb_manifest.proofs.PlaceLaws.{length-heads_text, length-entries_text, no_bad}
use Rattle.cdb_manifest.proofs.PublicationLaws.{heads-length}
use Rattle.cdb_chain.specs.Versions.{Versions}
use Rattle.cdb_chain.specs.Opening.{AreRead, IsBadRecord, IsFirstBad, IsOpenedFrom}
use Rattle.cdb_chain.specs.Publications.{AreRecords, OpensTo}
use Rattle.cdb_chain.specs.declared.open_error.OpenError.{OpenError}
use Rattle.cdb_chain.specs.declared.open_error.OpenError.TheVariants.{Memory, Fault, NotAStore}
use Rattle.cdb_source.proofs.Lists.{some_at, Split, split, AtEnd, at_end}

-- ---- the record of a publication

abbrev item_of : (version : ℕ) (heads : List SourceHead) (tiles : List Tile) → IsRecord version heads tiles → Record
item_of version heads tiles facts = record { version = version; heads = heads; tiles = tiles; in_range = facts }

facts_of : (version : ℕ) (sources : List Source) (tiles : List Tile) → 1 ≤ version → version ≤ 4096
    → IsPublication sources → IsTouched (heads_of sources) tiles → IsRecord version (heads_of sources) tiles
facts_of version sources tiles least most publication touched =
    let same = heads-length sources in
    let few : length tiles ≤ publication.load =
    within_load (heads_of sources) publication.load tiles publication.load_is touched in
    record {
      version_least = least;
      version_most = most;
      heads_least = omega (arith, same, publication.some);
      heads_most = omega (arith, same, publication.few);
      tiles_most = omega (arith, few, publication.fits);
      ordered = touched.ordered;
    }

-- the text isn't too long
short_text : (item : Record) → length (record_bytes item) ≤ 264980
short_text item =
    let hs = item.heads in
    let ts = item.tiles in
    omega (
      arith,
      length-append (heads_text hs) (entries_text ts),
      length-heads_text hs,
      length-entries_text ts,
      item.in_range.heads_most,
      item.in_range.tiles_most,
    )

-- ---- a version of a store

pub record IsRecordAt (present : FileMap) (k : ℕ) (x : List Source) (item : Record) : Type 0 where
  pub version : item.version ≡ k + 1
  pub heads : item.heads ≡ heads_of x
  pub touched : IsTouched (heads_of x) item.tiles
  pub there : present (record_path (k + 1)) ≡ Some (record_bytes item)

publication_at : (P : List (List Source)) (k : ℕ) (x : List Source) → ArePublications P → slice_get P k ≡ Some x
    → IsPublication x
publication_at P k x all at =
    let lt = slice_get_within P k x at in subst IsPublication (value P k x lt at) (all.each k x lt)
  where
    value : (P : List (List Source)) (k : ℕ) (x : List Source) → k < length P → slice_get P k ≡ Some x
        → get_or P k x ≡ x
    value P k x lt at = same_Some (get_or P k x) x (sym (slice_get-get_or P k x lt) ∙ at)

pub item_at : (present : FileMap) (P : List (List Source)) (k : ℕ) (x : List Source) → Stands present P
    → slice_get P k ≡ Some x → (item : Record) × IsRecordAt present k x item
item_at present P k x stands at = of (split P k x at)
  where
    of : Split P k x → (item : Record) × IsRecordAt present k x item
    of s =
        let v : HasVersion present s.earlier x = stands.versions s.earlier x s.later s.is in
        let most : k + 1 ≤ 4096 = omega (arith, slice_get_within P k x at, stands.publications.few) in
        let facts = facts_of (k + 1) x v.tiles (omega arith) most (publication_at P k x stands.publications at)
        v.touched in
        let T : ℕ → Type 0 = λ n. present (record_path (n + 1)) ≡ Some (record_text (n + 1) (heads_of x) v.tiles) in (
          item_of (k + 1) (heads_of x) v.tiles facts,
          record {
            version = refl;
            heads = refl;
            touched = v.touched;
            there = subst T s.size (v.there _ _ IsVersionFile.of_record);
          },
        )

-- ---- opening

-- the first bad record of a store: there is none
never_bad : (content : Content) (version place : ℕ) (item : Record) → item.version ≡ version
    → content ≡ Some (record_bytes item) → IsBadRecord content version place → ⊥
never_bad content version place item is there bad = of (subst (λ c. IsBadRecord c version place) there bad)
  where
    of : IsBadRecord (Some (record_bytes item)) version place → ⊥
    of (inl long) = omega (arith, long.0, short_text item)
    of (inr (short, inl first)) = no_bad item.version item.heads item.tiles place item.in_range first
    of (inr (short, inr other)) =
        other.other (ap (λ (r : Record). r.version) (one_record other.item item (sym other.spelled)) ∙ is)

module _ (Tells : Type 0) (told : Tells) (present : FileMap) (P : List (List Source)) (stands : Stands present P) where
  same_at : (records : List Record) → length records ≡ length P → AreRead Tells present records
      → (k : ℕ) (r : Record) (x : List Source)
      → slice_get records k ≡ Some r → slice_get P k ≡ Some x → (r.heads ≡ heads_of x) × IsTouched (heads_of x) r.tiles
  same_at records count read k r x at there = of (item_at present P k x stands there)
    where
      of : (item : Record) × IsRecordAt present k x item → (r.heads ≡ heads_of x) × IsTouched (heads_of x) r.tiles
      of (item, is) =
          let texts : record_bytes r ≡ record_bytes item =
          same_Some (record_bytes r) (record_bytes item) (sym (read.told told k r at) ∙ is.there) in
          let same : r ≡ item = one_record r item texts in (
            ap (λ (q : Record). q.heads) same
                ∙ is.heads,
            subst (λ (q : Record). IsTouched (heads_of x) q.tiles) (sym same) is.touched,
          )

  pub are_records : (records : List Record) → length records ≡ length P → AreRead Tells present records
      → AreRecords records P
  are_records records count read = record {
    count = count;
    versions = read.numbered;
    heads = λ k r x at there. (same_at records count read k r x at there).0;
    tiles = λ k r x at there. (same_at records count read k r x at there).1;
  }

  none_bad : (version place : ℕ) → IsFirstBad Tells present (length P) version place → ⊥
  none_bad version place bad =
      let k = length bad.earlier in
      let x = some_at P k (omega (arith, bad.next, bad.up_to)) in
      let item = item_at present P k x.0 stands x.1 in
      never_bad (present (record_path version)) version place item.0 (item.1.version
      ∙ sym bad.next) (ap (λ v. present (record_path v)) bad.next ∙ item.1.there) (bad.bad told)

  pub opens_to : (newest : ℕ) (result : Result Versions OpenError) → newest ≡ length P
      → IsOpenedFrom Tells present newest result → OpensTo P result
  opens_to newest (Ok chain) is (count, read) = are_records chain.records (count ∙ is) read
  opens_to newest (Err (NotAStore version place)) is bad =
      none_bad version place (subst (λ n. IsFirstBad Tells present n version place) is bad)
  opens_to newest (Err Memory) is h = tt
  opens_to newest (Err Fault) is h = tt

-- ---- one publication more

module _ (records : List Record) (P : List (List Source)) (x : List Source) (next : Record) (are : AreRecords records P)
    (version : next.version ≡ length records + 1)
    (heads : next.heads ≡ heads_of x) (touched : IsTouched (heads_of x) next.tiles) where
  version_at : (k : ℕ) (r : Record) → AtEnd records next k r → r.version ≡ k + 1
  version_at k r (AtEnd.before at) = are.versions k r at
  version_at k r (AtEnd.last end is) = ap (λ (o : Record). o.version) (sym is) ∙ version ∙ ap (λ n. n + 1) (sym end)

  heads_at : (k : ℕ) (r : Record) (y : List Source) → AtEnd records next k r → AtEnd P x k y → r.heads ≡ heads_of y
  heads_at k r y (AtEnd.before at) (AtEnd.before there) = are.heads k r y at there
  heads_at k r y (AtEnd.before at) (AtEnd.last end is) =
      absurd (omega (arith, slice_get_within records k r at, end, are.count))
  heads_at k r y (AtEnd.last end is) (AtEnd.before there) =
      absurd (omega (arith, slice_get_within P k y there, end, are.count))
  heads_at k r y (AtEnd.last end is) (AtEnd.last end' is') = ap (λ (o : Record). o.heads) (sym is) ∙ heads
      ∙ ap heads_of is'

  tiles_at : (k : ℕ) (r : Record) (y : List Source) → AtEnd records next k r → AtEnd P x k y
      → IsTouched (heads_of y) r.tiles
  tiles_at k r y (AtEnd.before at) (AtEnd.before there) = are.tiles k r y at there
  tiles_at k r y (AtEnd.before at) (AtEnd.last end is) =
      absurd (omega (arith, slice_get_within records k r at, end, are.count))
  tiles_at k r y (AtEnd.last end is) (AtEnd.before there) =
      absurd (omega (arith, slice_get_within P k y there, end, are.count))
  tiles_at k r y (AtEnd.last end is) (AtEnd.last end' is') =
      subst (λ (o : Record). IsTouched (heads_of y) o.tiles) is
      (subst (λ (z : List Source). IsTouched (heads_of z) next.tiles) is' touched)

  pub one_more : AreRecords (records ++ next ∷ []) (P ++ x ∷ [])
  one_more = record {
    count = omega (arith, are.count, length-append records (next ∷ []), length-append P (x ∷ []));
    versions = λ k r at. version_at k r (at_end records next k r at);
    heads = λ k r y at there. heads_at k r y (at_end records next k r at) (at_end P x k y there);
    tiles = λ k r y at there. tiles_at k r y (at_end records next k r at) (at_end P x k y there);
  }
