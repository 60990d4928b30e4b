-- Records and publications side by side.
use Rattle.std.proofs.Common.{◌≡◌, ℕ, zero, suc, ◌+◌, List, [], ◌∷◌, ◌++◌, length, slice_get, Some, refl, sym, ◌∙◌, ap, subst, arith}
use Rattle.std.proofs.lemmas.List.{length-append, length-map}
use Rattle.std.proofs.lemmas.List.Concat.{flat_map-cons}
use Rattle.std.proofs.lemmas.Option.{same_Some, none-some}
use Rattle.cdb_source.specs.Reached.{IsTouched}
use Rattle.cdb_source.specs.declared.source.Source.{Source}
use Rattle.cdb_model.specs.Publications.{Publication, sources_in, sources_of, heads_of}
use Rattle.cdb_manifest.specs.declared.record_.Record.{Record}
use Rattle.cdb_chain.specs.Publications.{AreRecords}
use Rattle.cdb_check.specs.Expected.{SourceFile, expected_of, expected_after, source_files_of}
use Rattle.cdb_check.specs.Laws.{IsFileCount}
use Rattle.cdb_check.proofs.LoopLaws.{version_length}

-- the record of a publication that comes after so many others
pub record IsOf (n : ℕ) (r : Record) (x : Publication) : Type 0 where
  pub version : r.version ≡ n + 1
  pub heads : r.heads ≡ heads_of x
  pub tiles : IsTouched (heads_of x) r.tiles

abbrev pub AreOf : ℕ → List Record → List Publication → Type 0
AreOf n [] [] = Unit {0}
AreOf n (r ∷ records) (x ∷ list) = IsOf n r x × AreOf (n + 1) records list
AreOf n _ _ = ⊥

-- ---- by their places

pub are_of : (n : ℕ) (records : List Record) (list : List Publication) → length records ≡ length list
    → ((k : ℕ) (r : Record) → slice_get records k ≡ Some r → r.version ≡ n + k + 1)
    → ((k : ℕ) (r : Record) (x : Publication) → slice_get records k ≡ Some r → slice_get list k ≡ Some x
    → (r.heads ≡ heads_of x) × IsTouched (heads_of x) r.tiles)
    → AreOf n records list
are_of n [] [] same versions facts = tt
are_of n [] (x ∷ list) same versions facts = let e : 0 ≡ suc (length list) = same in omega arith
are_of n (r ∷ records) [] same versions facts = let e : suc (length records) ≡ 0 = same in omega arith
are_of n (r ∷ records) (x ∷ list) same versions facts =
    let f = facts 0 r x refl refl in
    let first : n + 0 + 1 ≡ n + 1 = omega arith in
    let rest : length records ≡ length list =
    (let e : suc (length records) ≡ suc (length list) = same in omega (arith, e)) in (
      record { version = versions 0 r refl ∙ first; heads = f.0; tiles = f.1 },
      are_of (n + 1) records list rest
          (λ k q at. versions (suc k) q at ∙ (let e : n + suc k + 1 ≡ n + 1 + k + 1 = omega arith in e))
          (λ k q y at there. facts (suc k) q y at there),
    )

pub of_records : (records : List Record) (list : List Publication) → AreRecords records list → AreOf 0 records list
of_records records list are =
    are_of 0 records list are.count
    (λ k r at. are.versions k r at ∙ (let e : k + 1 ≡ 0 + k + 1 = omega arith in e))
    (λ k r x at there. (are.heads k r x at there, are.tiles k r x at there))

count_of : (n : ℕ) (records : List Record) (list : List Publication) → AreOf n records list
    → length records ≡ length list
count_of n [] [] of = refl
count_of n [] (x ∷ list) of = absurd of
count_of n (r ∷ records) [] of = absurd of
count_of n (r ∷ records) (x ∷ list) of = ap suc (count_of (n + 1) records list of.1)

fact_of : (n : ℕ) (records : List Record) (list : List Publication) → AreOf n records list
    → (k : ℕ) (r : Record) (x : Publication)
    → slice_get records k ≡ Some r → slice_get list k ≡ Some x → (r.heads ≡ heads_of x) × IsTouched (heads_of x) r.tiles
fact_of n [] list of k r x at there = absurd (none-some r at)
fact_of n (q ∷ records) [] of k r x at there = absurd of
fact_of n (q ∷ records) (y ∷ list) of zero r x at there =
    let same = same_Some q r at in let same_x = same_Some y x there in (
      (λ i. (sym same i).heads) ∙ of.0.heads ∙ ap heads_of same_x,
      subst (λ (z : Publication). IsTouched (heads_of z) r.tiles) same_x
          (subst (λ (p : Record). IsTouched (heads_of y) p.tiles) same of.0.tiles),
    )
fact_of n (q ∷ records) (y ∷ list) of (suc k) r x at there = fact_of (n + 1) records list of.1 k r x at there

pub to_records : (records : List Record) (list : List Publication)
    → ((k : ℕ) (r : Record) → slice_get records k ≡ Some r → r.version ≡ k + 1)
    → AreOf 0 records list → AreRecords records list
to_records records list numbered of = record {
  count = count_of 0 records list of;
  versions = numbered;
  heads = λ k r x at there. (fact_of 0 records list of k r x at there).0;
  tiles = λ k r x at there. (fact_of 0 records list of k r x at there).1;
}

-- ---- how many files they have

pub counted : (n : ℕ) (files : List SourceFile) (records : List Record) (list : List Publication) → AreOf n records list
    → IsFileCount list (length (expected_after files records))
counted n files [] [] of = record { entries = 0; entries_are = refl; count_is = refl }
counted n files [] (x ∷ list) of = absurd of
counted n files (r ∷ records) [] of = absurd of
counted n files (r ∷ records) (x ∷ list) of =
    let rest = counted (n + 1) (files ++ source_files_of r) records list of.1 in
    let after = expected_after (files ++ source_files_of r) records in
    let all : length (expected_of files r ++ after) ≡ length (expected_of files r) + length after =
    length-append (expected_of files r) after in
    let one : length (expected_of files r) ≡ 1 + length r.heads + length r.tiles = version_length files r in
    let heads : length r.heads ≡ length x = ap length of.0.heads ∙ length-map x (λ (s : Source). s.head) in
    let sources : length (sources_of (x ∷ list)) ≡ length x + length (sources_of list) =
    ap length (flat_map-cons sources_in x list) ∙ length-append x (sources_of list) in
    record {
      entries = length r.tiles + rest.entries;
      entries_are = (r.tiles, rest.entries, (of.0.tiles, rest.entries_are, refl));
      count_is = omega (arith, all, one, heads, sources, rest.count_is);
    }
