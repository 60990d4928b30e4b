-- A publication begins: what its plan is that of.
use Rattle.std.proofs.Common.{◌≡◌, ℕ, zero, suc, ◌+◌, ◌≤◌, List, [], ◌∷◌, ◌++◌, map, length, length-append, Some, refl, sym, ap, ◌∙◌, arith}
use Rattle.std.specs.Prelude.{slice_get, All}
use Rattle.std.proofs.lemmas.List.{map-append}
use Rattle.std.proofs.lemmas.List.Sums.{sum_by-cons}
use Rattle.std.proofs.lemmas.List.Elements.{All-append}
use Rattle.cdb_grid.specs.declared.tile.Tile.{Tile}
use Rattle.cdb_source.specs.Reached.{IsTouched}
use Rattle.cdb_source.specs.declared.source.Source.{Source}
use Rattle.cdb_manifest.specs.declared.record_.Record.{Record}
use Rattle.cdb_model.specs.Publications.{heads_of, sources_of}
use Rattle.cdb_model.specs.Maps.{folder_above}
use Rattle.cdb_model.specs.Names.{path, source_path}
use Rattle.cdb_model.specs.Stands.{IsPublication, IsEntryCount, ArePublications}
use Rattle.cdb_crash.specs.Plan.{File, source_files, tile_file, files_of, folders_of, each_once}
use Rattle.cdb_crash.proofs.PlanLaws.{tile_files-paths}
use Rattle.cdb_publish.specs.Entries.{entries_in}
use Rattle.cdb_chain.specs.Publications.{AreRecords}
use Rattle.cdb_publish.specs.Planning.{IsAccepted}
use Rattle.cdb_publish.specs.inside.Planning.{source_paths_from, paths_in}

source_folders : (v from : ℕ) (x : List Source) → map (λ (file : File). folder_above file.path) (source_files v from x)
    ≡ map folder_above (source_paths_from v from (length x))
source_folders v from [] = refl
source_folders v from (s ∷ x) = ap (λ t. folder_above (source_path v from) ∷ t) (source_folders v (from + 1) x)

pub folders_are : (P : List (List Source)) (x : List Source) (tiles : List Tile)
    → each_once (map folder_above (paths_in (length P + 1) (length x) tiles)) ≡ folders_of (files_of P x tiles)
folders_are P x tiles =
    let v : ℕ = length P + 1 in
    let all : List Source = sources_of (P ++ x ∷ []) in
    ap each_once
    (map-append folder_above (source_paths_from (length P + 1) 1 (length x)) (map (path (length P + 1)) tiles)
    ∙ (λ i. sym (source_folders (length P + 1) 1 x) i
    ++ sym (tile_files-paths (length P + 1) (sources_of (P ++ x ∷ [])) tiles) i)
    ∙ sym (map-append (λ (file : File). folder_above file.path) (source_files (length P + 1) 1 x)
    (map (tile_file (length P + 1) (sources_of (P ++ x ∷ []))) tiles)))

pub entry_count : (kept : List Record) (P : List (List Source)) → length kept ≡ length P
    → ((k : ℕ) (r : Record) (x : List Source) → slice_get kept k ≡ Some r → slice_get P k ≡ Some x
    → IsTouched (heads_of x) r.tiles) → IsEntryCount P (entries_in kept)
entry_count [] [] same tiles = refl
entry_count [] (x ∷ P) same tiles = absurd (omega (arith, same))
entry_count (r ∷ kept) [] same tiles = absurd (omega (arith, same))
entry_count (r ∷ kept) (x ∷ P) same tiles = (
  r.tiles,
  entries_in kept,
  (
    tiles 0 r x refl refl,
    entry_count kept P (omega (arith, same)) (λ k q y a b. tiles (suc k) q y a b),
    sum_by-cons (λ (q : Record). length q.tiles) r kept,
  ),
)

entry_more : (P : List (List Source)) (x : List Source) (tiles : List Tile) (count : ℕ) → IsEntryCount P count
    → IsTouched (heads_of x) tiles → IsEntryCount (P ++ x ∷ []) (count + length tiles)
entry_more [] x tiles count is touched = (tiles, 0, (touched, refl, omega (arith, is)))
entry_more (p ∷ P) x tiles count (front, rest, facts) touched =
    (front, rest + length tiles, (facts.0, entry_more P x tiles rest (facts.1) touched, omega (arith, facts.2)))

single : {A : Type 0} (Such : A → Type 0) (y : A) → Such y → All Such (y ∷ [])
single Such y such zero d l = such
single Such y such (suc k) d l = absurd (omega (arith, l))

pub one_publication : (kept : List Record) (P : List (List Source)) (x : List Source) → ArePublications P
    → AreRecords kept P → IsAccepted kept (heads_of x) → 1 ≤ length x → length x ≤ 64
    → ArePublications (P ++ x ∷ [])
one_publication kept P x list are accepted some few = record {
  each = All-append IsPublication P
      (x ∷ [])
      list.each
      (single IsPublication x
      (record {
        some = some;
        few = few;
        load = accepted.0.load;
        load_is = accepted.0.load_is;
        fits = accepted.0.fits;
      }));
  few = omega (arith, length-append P (x ∷ []), are.count, accepted.2);
  entries = entries_in kept + length (accepted.1.1).tiles;
  entries_are = entry_more P x (accepted.1.1).tiles (entries_in kept) (entry_count kept P are.count are.tiles)
      (accepted.1.1).touched;
  entries_fit = omega (arith, (accepted.1.1).count_is, accepted.1.2);
}
