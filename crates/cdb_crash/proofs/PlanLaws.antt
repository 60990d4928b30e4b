-- The steps of a publication lead from a clean disk to where its head alone is left.
use Rattle.std.proofs.Common.{◌≡◌, ◌≢◌, ℕ, zero, suc, ◌+◌, ◌<◌, Bool, true, false, ◌⊎◌, inl, inr, List, [], ◌∷◌, ◌++◌, length, length-append, get_or, take, drop, map, None, Some, IsTrue, refl, sym, ap, ◌∙◌, subst, arith}
use Rattle.std.specs.Prelude.{slice_get, codes, ◌==◌}
use Rattle.std.proofs.lemmas.Bool.{cond-true, or_left, or_right}
use Rattle.std.proofs.lemmas.List.{take-append-drop, take_all, length-map}
use Rattle.std.proofs.lemmas.List.Sums.{fold_push}
use Rattle.std.proofs.lemmas.Option.{same_Some, none-some}
use Rattle.cdb_grid.specs.declared.tile.Tile.{Tile}
use Rattle.cdb_source.specs.Reached.{IsTouched}
use Rattle.cdb_source.specs.declared.source.Source.{Source}
use Rattle.cdb_model.specs.Maps.{Text, FileMap, IsThere, put, has_slash, folder_above}
use Rattle.cdb_model.specs.Publications.{heads_of, sources_of, each_once, source_paths, file_paths, folders_above}
use Rattle.cdb_model.specs.Names.{version_folder, record_path, source_path, path, sources_folder, metadata_folder, spell, fields_of_path, four}
use Rattle.cdb_model.specs.Records.{head_file_text}
use Rattle.cdb_model.specs.Stands.{ArePublications, IsVersionFile, Stands}
use Rattle.cdb_files.specs.Disk.{State, IsImage}
use Rattle.cdb_crash.specs.Leftovers.{IsOfVersion, HasAtMost, HasNext}
use Rattle.cdb_crash.specs.Crash.{HasRoom, IsMid}
use Rattle.cdb_crash.specs.Laws.{PlanKeeps}
use Rattle.cdb_crash.specs.Plan.{File, FileAction, source_files, tile_file, files_of, record_of, folders_of, steps_of, after_step, with_files, with_synced, files_after, synced_after, WritesTo, IsMidAfter}
use Rattle.cdb_crash.proofs.CallLaws.{begins_clean, path_calls, write-here}
use Rattle.cdb_crash.proofs.Law.{stands_but}
use Rattle.cdb_crash.proofs.Steps.{mid_room, write_step, folder_step, ready_step}
use Rattle.cdb_crash.proofs.StoreLaws.{store_layout, file_under, next_local}
use Rattle.cdb_crash.proofs.PlanFiles.{same_file, files_good, file_of_plan, few_files, source_files-length}
use Rattle.cdb_crash.proofs.PlanLists.{Each, each-append, each-front, each-back, each-map, each-wider, each-all, each-once, Some_of, some-left, some-right, some-map, some-once, split_two, Writes_bytes, there_written, written, Syncs, Leaves, not_synced, are_synced}

-- ---- how many steps
pub files-count : (P : List (List Source)) (x : List Source) (tiles : List Tile) → length (files_of P x tiles)
    ≡ length x + length tiles
files-count P x tiles = omega (
  arith,
  length-append (source_files (length P + 1) 1 x) (map (tile_file (length P + 1) (sources_of (P ++ x ∷ []))) tiles),
  source_files-length (length P + 1) 1 x,
  length-map tiles (tile_file (length P + 1) (sources_of (P ++ x ∷ []))),
)

plan_count : (P : List (List Source)) (x : List Source) (tiles : List Tile)
    → length (steps_of P x tiles) + 1 ≡ length x + length tiles + length (folders_of (files_of P x tiles)) + 2
plan_count P x tiles =
    let a = length-append (map FileAction.write (files_of P x tiles))
    (map FileAction.sync (folders_of (files_of P x tiles)) ++ FileAction.write_and_sync (record_of P x tiles) ∷ [])
    in
    let b = length-map (files_of P x tiles) FileAction.write in
    let c = files-count P x tiles in
    let f = length-append (map FileAction.sync (folders_of (files_of P x tiles)))
    (FileAction.write_and_sync (record_of P x tiles) ∷ []) in
    let g = length-map (folders_of (files_of P x tiles)) FileAction.sync in
    omega (arith, a, b, c, f, g)

-- The folders of the files are those of their paths.
pub source_files-paths : (v number : ℕ) (sources : List Source)
    → map (λ (file : File). folder_above file.path) (source_files v number sources)
    ≡ map folder_above (source_paths v number sources)
source_files-paths v number [] = refl
source_files-paths v number (s ∷ sources) = ap (λ t. folder_above (source_path v number) ∷ t)
    (source_files-paths v (number + 1) sources)

pub tile_files-paths : (v : ℕ) (all : List Source) (tiles : List Tile)
    → map (λ (file : File). folder_above file.path) (map (tile_file v all) tiles)
    ≡ map folder_above (map (path v) tiles)
tile_files-paths v all [] = refl
tile_files-paths v all (t ∷ tiles) = ap (λ r. folder_above (path v t) ∷ r) (tile_files-paths v all tiles)

map-both : {A B : Type 0} (f : A → B) (xs ys : List A) → map f (xs ++ ys) ≡ map f xs ++ map f ys
map-both f [] ys = refl
map-both f (x ∷ xs) ys = ap (λ t. f x ∷ t) (map-both f xs ys)

pub folders_by_paths : (P : List (List Source)) (x : List Source) (tiles : List Tile) → folders_of (files_of P x tiles)
    ≡ folders_above (file_paths P x tiles)
folders_by_paths P x tiles =
    let v : ℕ = length P + 1 in
    let all : List Source = sources_of (P ++ x ∷ []) in
    ap each_once (map-both (λ (file : File). folder_above file.path) (source_files v 1 x) (map (tile_file v all) tiles)
    ∙ ap (λ t. t ++ map (λ (file : File). folder_above file.path) (map (tile_file v all) tiles))
    (source_files-paths v 1 x)
    ∙ ap (λ t. map folder_above (source_paths v 1 x) ++ t) (tile_files-paths v all tiles)
    ∙ sym (map-both folder_above (source_paths v 1 x) (map (path v) tiles)))

-- ---- a step by its number
record At {A : Type 0} (xs : List A) (j : ℕ) (y : A) : Type 0 where
  pub rest : List A
  pub split : xs ≡ take j xs ++ y ∷ rest
  pub more : take (suc j) xs ≡ take j xs ++ y ∷ []

at_number : {A : Type 0} (xs : List A) (j : ℕ) (y : A) → slice_get xs j ≡ Some y → At xs j y
at_number [] j y e = absurd (none-some y e)
at_number (x ∷ xs) zero y e =
    record { rest = xs; split = ap (λ z. z ∷ xs) (same_Some x y e); more = ap (λ z. z ∷ []) (same_Some x y e) }
at_number {A = A} (x ∷ xs) (suc j) y e = up (at_number xs j y e)
  where
    up : At xs j y → At (x ∷ xs) (suc j) y
    up a = record { rest = a.rest; split = ap (λ z. x ∷ z) a.split; more = ap (λ z. x ∷ z) a.more }

-- ---- the record's folder is no folder of the other files
has_slash_in : (a b : Text) → has_slash (a ++ 47 ∷ b) ≡ true
has_slash_in [] b = or_left (47 == 47) (has_slash b) refl
has_slash_in (c ∷ a) b = or_right (c == 47) (has_slash (a ++ 47 ∷ b)) (has_slash_in a b)

keeps : (a b : Text) → (rest : Text) × (folder_above (a ++ 47 ∷ b) ≡ a ++ rest)
unfolding folder_above
keeps [] b = (folder_above (47 ∷ b), refl)
keeps (c ∷ a) b =
    let k = keeps a b in (
      k.0,
      cond-true (has_slash (a ++ 47 ∷ b)) (c ∷ folder_above (a ++ 47 ∷ b)) [] (has_slash_in a b)
          ∙ ap (λ t. c ∷ t) k.1,
    )

tenth : Text → ℕ
tenth t = get_or t 10 0

record_tenth : (v : ℕ) → tenth (folder_above (record_path v)) ≡ 77
unfolding tenth
record_tenth v = ap tenth ((keeps (metadata_folder v) (codes "record")).1)

source_tenth : (v n : ℕ) → tenth (folder_above (source_path v n)) ≡ 83
unfolding tenth
source_tenth v n = ap tenth ((keeps (sources_folder v) (83 ∷ four n)).1)

tile_tenth : (v : ℕ) (t : Tile) → tenth (folder_above (path v t)) ≡ 84
unfolding tenth
tile_tenth v t = ap tenth ((keeps (version_folder v ++ codes "/Tiles") (spell (drop 2 (fields_of_path v t)) [])).1)

apart_source : (v n : ℕ) → folder_above (record_path v) ≢ folder_above (source_path v n)
apart_source v n e = let k = sym (record_tenth v) ∙ ap tenth e ∙ source_tenth v n in omega (arith, k)

apart_tile : (v : ℕ) (t : Tile) → folder_above (record_path v) ≢ folder_above (path v t)
apart_tile v t e = let k = sym (record_tenth v) ∙ ap tenth e ∙ tile_tenth v t in omega (arith, k)

abbrev Apart : ℕ → File → Type 0
Apart v file = folder_above (record_path v) ≢ folder_above file.path

sources_apart : (v number : ℕ) (sources : List Source) → Each (Apart v) (source_files v number sources)
sources_apart v number [] = tt
sources_apart v number (s ∷ sources) = (apart_source v number, sources_apart v (number + 1) sources)

files_apart : (P : List (List Source)) (x : List Source) (tiles : List Tile)
    → Each (Apart (length P + 1)) (files_of P x tiles)
files_apart P x tiles = each-append (Apart (length P + 1)) (source_files (length P + 1) 1 x)
    (map (tile_file (length P + 1) (sources_of (P ++ x ∷ []))) tiles)
    (sources_apart (length P + 1) 1 x)
    (each-map (tile_file (length P + 1) (sources_of (P ++ x ∷ []))) (Apart (length P + 1)) tiles
    (each-all (λ t. Apart (length P + 1) (tile_file (length P + 1) (sources_of (P ++ x ∷ [])) t))
    (λ t. apart_tile (length P + 1) t) tiles))

-- ---- kinds of steps
abbrev IsWrite : FileAction → Type 0
IsWrite (FileAction.write file) = Unit {0}
IsWrite (FileAction.sync folder) = ⊥
IsWrite (FileAction.write_and_sync file) = ⊥

abbrev IsSync : FileAction → Type 0
IsSync (FileAction.write file) = ⊥
IsSync (FileAction.sync folder) = Unit {0}
IsSync (FileAction.write_and_sync file) = ⊥

write_leaves : (f : Text) (step : FileAction) → IsWrite step → Leaves f step
write_leaves f (FileAction.write file) h = tt
write_leaves f (FileAction.sync folder) h = absurd h
write_leaves f (FileAction.write_and_sync file) h = absurd h

-- No folder in which the step writes is synced by earlier steps.
abbrev Fresh : List FileAction → FileAction → Type 0
Fresh done (FileAction.write file) = synced_after done (folder_above file.path) ≡ false
Fresh done (FileAction.sync folder) = Unit {0}
Fresh done (FileAction.write_and_sync file) = synced_after done (folder_above file.path) ≡ false

module _ (P : List (List Source)) (x : List Source) (tiles : List Tile) (list : ArePublications (P ++ x ∷ []))
    (touched : IsTouched (heads_of x) tiles) where
  abbrev writes : List FileAction
  writes = map FileAction.write (files_of P x tiles)

  abbrev syncs : List FileAction
  syncs = map FileAction.sync (folders_of (files_of P x tiles))

  abbrev last : FileAction
  last = FileAction.write_and_sync (record_of P x tiles)

  -- ---- what the steps write is files of the version
  abbrev IsGood : FileAction → Type 0
  IsGood (FileAction.write file) = IsVersionFile P x tiles file.path file.bytes
  IsGood (FileAction.sync folder) = Unit {0}
  IsGood (FileAction.write_and_sync file) = IsVersionFile P x tiles file.path file.bytes

  plan_good : Each IsGood (steps_of P x tiles)
  plan_good = each-append IsGood writes (syncs ++ last ∷ [])
      (each-map FileAction.write IsGood (files_of P x tiles) (files_good P x tiles touched))
      (each-append IsGood syncs (last ∷ [])
      (each-map FileAction.sync IsGood (folders_of (files_of P x tiles))
      (each-all (λ folder. Unit {0}) (λ folder. tt) (folders_of (files_of P x tiles))))
      (IsVersionFile.of_record, tt))

  good_written : (steps : List FileAction) (q : Text) → Each IsGood steps → Some_of (WritesTo q) steps
      → (bytes : List ℕ) × IsVersionFile P x tiles q bytes
  good_written [] q good some = absurd some
  good_written (FileAction.write file ∷ steps) q good (inl e) = let F : Text
      → Type 0 = λ p. IsVersionFile P x tiles p file.bytes in (file.bytes, subst F (sym e) (good.0))
  good_written (FileAction.write file ∷ steps) q good (inr some) = good_written steps q (good.1) some
  good_written (FileAction.sync folder ∷ steps) q good (inl e) = absurd e
  good_written (FileAction.sync folder ∷ steps) q good (inr some) = good_written steps q (good.1) some
  good_written (FileAction.write_and_sync file ∷ steps) q good (inl e) = let F : Text
      → Type 0 = λ p. IsVersionFile P x tiles p file.bytes in (file.bytes, subst F (sym e) (good.0))
  good_written (FileAction.write_and_sync file ∷ steps) q good (inr some) = good_written steps q (good.1) some

  front_good : (done more : List FileAction) → steps_of P x tiles ≡ done ++ more → Each IsGood done
  front_good done more e = let G : List FileAction → Type 0 = Each IsGood in
      each-front IsGood done more (subst G e plan_good)

  few : (done more : List FileAction) → steps_of P x tiles ≡ done ++ more
      → HasAtMost 65535 (length P + 1) (files_after done)
  few done more e = few_files P x tiles (files_after done) list
      (λ q there. good_written done q (front_good done more e) (there_written done q there))

  -- ---- no file is written into a synced folder
  fresh : (done : List FileAction) (y : FileAction) (rest : List FileAction) → steps_of P x tiles
      ≡ done ++ y ∷ rest → Fresh done y
  fresh done y rest e = in_two (split_two writes (syncs ++ last ∷ []) done y rest e)
    where
      writes_only : Each IsWrite writes
      writes_only = each-map FileAction.write IsWrite (files_of P x tiles)
          (each-all (λ file. Unit {0}) (λ file. tt) (files_of P x tiles))

      syncs_only : Each IsSync syncs
      syncs_only = each-map FileAction.sync IsSync (folders_of (files_of P x tiles))
          (each-all (λ folder. Unit {0}) (λ folder. tt) (folders_of (files_of P x tiles)))

      not_yet : (done : List FileAction) (y : FileAction) → ((f : Text) → synced_after done f ≡ false) → Fresh done y
      not_yet done (FileAction.write file) none = none (folder_above file.path)
      not_yet done (FileAction.sync folder) none = tt
      not_yet done (FileAction.write_and_sync file) none = none (folder_above file.path)

      of_sync : (done : List FileAction) (y : FileAction) → IsSync y → Fresh done y
      of_sync done (FileAction.write file) h = absurd h
      of_sync done (FileAction.sync folder) h = tt
      of_sync done (FileAction.write_and_sync file) h = absurd h

      at_last : (done more : List FileAction) (y : FileAction) (rest : List FileAction)
          → done ≡ writes ++ (syncs ++ more) → last ∷ [] ≡ more ++ y ∷ rest → Fresh done y
      at_last done [] y rest a b =
          let Y : FileAction → Type 0 = λ z. Fresh done z in
          let D : List FileAction → Type 0 = λ ds. synced_after ds (folder_above (record_path (length P + 1)))
          ≡ false in
          subst Y (first last y [] rest b)
          (subst D (sym a) (not_synced (writes ++ (syncs ++ [])) (folder_above (record_path (length P + 1)))
          (each-append (Leaves (folder_above (record_path (length P + 1)))) writes (syncs ++ [])
          (each-wider IsWrite (Leaves (folder_above (record_path (length P + 1))))
          (write_leaves (folder_above (record_path (length P + 1)))) writes writes_only)
          (each-append (Leaves (folder_above (record_path (length P + 1)))) syncs [] syncs_apart tt))))
        where
          first : (a b : FileAction) (xs ys : List FileAction) → a ∷ xs ≡ b ∷ ys → a ≡ b
          first a b xs ys e = ap head e
            where
              head : List FileAction → FileAction
              head [] = a
              head (z ∷ zs) = z

          syncs_apart : Each (Leaves (folder_above (record_path (length P + 1)))) syncs
          syncs_apart = each-map FileAction.sync (Leaves (folder_above (record_path (length P + 1))))
              (folders_of (files_of P x tiles))
              (each-once (λ folder. folder_above (record_path (length P + 1)) ≢ folder)
              (map (λ (file : File). folder_above file.path) (files_of P x tiles))
              (each-map (λ (file : File). folder_above file.path)
              (λ folder. folder_above (record_path (length P + 1)) ≢ folder) (files_of P x tiles)
              (files_apart P x tiles)))
      at_last done (z ∷ more) y rest a b =
          absurd (let n = ap length b in omega (arith, n, length-append more (y ∷ rest)))

      in_tail : (more : List FileAction) → done ≡ writes ++ more → ((k : List FileAction) × (syncs ≡ more ++ y ∷ k))
          ⊎ ((k : List FileAction) × (more ≡ syncs ++ k) × (last ∷ [] ≡ k ++ y ∷ rest)) → Fresh done y
      in_tail more a (inl (k, is)) =
          let S : List FileAction → Type 0 = Each IsSync in
          of_sync done y ((each-back IsSync more (y ∷ k) (subst S is syncs_only)).0)
      in_tail more a (inr (k, is, left)) = at_last done k y rest (a ∙ ap (λ t. writes ++ t) is) left

      in_two : ((more : List FileAction) × (writes ≡ done ++ y ∷ more))
          ⊎ ((more : List FileAction) × (done ≡ writes ++ more) × (syncs ++ last ∷ [] ≡ more ++ y ∷ rest))
          → Fresh done y
      in_two (inl (more, is)) = let W : List FileAction → Type 0 = Each IsWrite in
          not_yet done y
          (λ f. not_synced done f
          (each-wider IsWrite (Leaves f) (write_leaves f) done
          (each-front IsWrite done (y ∷ more) (subst W is writes_only))))
      in_two (inr (more, is, left)) = in_tail more is (split_two syncs (last ∷ []) more y rest left)

  -- ---- one step more
  one_more : (done : List FileAction) (y : FileAction) (s : State) → IsImage s s.present → IsGood y → Fresh done y
      → HasAtMost 65535 (length P + 1) (files_after done)
      → IsMid Stands P (files_after done) (synced_after done) s → IsMid Stands P (with_files (files_after done) y)
      (with_synced (synced_after done) y) (after_step y s)
  one_more done (FileAction.write file) s here good fresh few mid =
      write_step Stands HasNext head_file_text store_layout P (files_after done) (synced_after done) s
      (folder_above file.path) file.path file.bytes here mid few
      (file_under P x tiles file.path file.bytes good) fresh
  one_more done (FileAction.sync folder) s here good fresh few mid =
      folder_step Stands HasNext head_file_text store_layout P (files_after done) (synced_after done) s folder here mid
  one_more done (FileAction.write_and_sync file) s here good fresh few mid =
      folder_step Stands HasNext head_file_text store_layout P (put (files_after done) file.path (Some file.bytes))
      (synced_after done) _ (folder_above file.path)
      (write-here (folder_above file.path) file.path file.bytes s here)
      (write_step Stands HasNext head_file_text store_layout P (files_after done) (synced_after done) s
      (folder_above file.path) file.path file.bytes here mid few
      (file_under P x tiles file.path file.bytes good) fresh)

  pub lead : (done : List FileAction) (y : FileAction) (rest : List FileAction) (s : State) → steps_of P x tiles
      ≡ done ++ y ∷ rest → IsImage s s.present
      → IsMid Stands P (files_after done) (synced_after done) s
      → IsMid Stands P (files_after (done ++ y ∷ [])) (synced_after (done ++ y ∷ [])) (after_step y s)
  lead done y rest s e here mid =
      let F : FileMap → Type 0 = λ m. IsMid Stands P m (synced_after (done ++ y ∷ [])) (after_step y s) in
      let S : (Text → Bool) → Type 0 = λ f. IsMid Stands P (with_files (files_after done) y) f (after_step y s) in
      let G : List FileAction → Type 0 = Each IsGood in
      subst F (sym (fold_push with_files (λ path. None) done y))
      (subst S (sym (fold_push with_synced (λ folder. false) done y))
      (one_more done y s here ((each-back IsGood done (y ∷ rest) (subst G e plan_good)).0) (fresh done y rest e)
      (few done (y ∷ rest) e) mid))

  -- ---- all steps
  writes_it : (q : Text) (bytes : List ℕ) → IsVersionFile P x tiles q bytes → Some_of (WritesTo q) (steps_of P x tiles)
  writes_it q bytes file = of (file_of_plan P x tiles touched q bytes file)
    where
      of : (q ≡ record_path (length P + 1)) ⊎ Some_of (λ file. q ≡ file.path) (files_of P x tiles)
          → Some_of (WritesTo q) (steps_of P x tiles)
      of (inl e) = some-right (WritesTo q) writes (syncs ++ last ∷ [])
          (some-right (WritesTo q) syncs (last ∷ []) (inl e))
      of (inr some) = some-left (WritesTo q) writes (syncs ++ last ∷ [])
          (some-map FileAction.write (WritesTo q) (files_of P x tiles) some)

  syncs_it : (q : Text) (bytes : List ℕ) → IsVersionFile P x tiles q bytes
      → Some_of (Syncs (folder_above q)) (steps_of P x tiles)
  syncs_it q bytes file = of (file_of_plan P x tiles touched q bytes file)
    where
      folders : (files : List File) → Some_of (λ file. q ≡ file.path) files
          → Some_of (λ file. folder_above q ≡ folder_above file.path) files
      folders [] some = absurd some
      folders (f ∷ files) (inl e) = inl (ap folder_above e)
      folders (f ∷ files) (inr some) = inr (folders files some)

      of : (q ≡ record_path (length P + 1)) ⊎ Some_of (λ file. q ≡ file.path) (files_of P x tiles)
          → Some_of (Syncs (folder_above q)) (steps_of P x tiles)
      of (inl e) = some-right (Syncs (folder_above q)) writes (syncs ++ last ∷ [])
          (some-right (Syncs (folder_above q)) syncs (last ∷ []) (inl (ap folder_above e)))
      of (inr some) = some-right (Syncs (folder_above q)) writes (syncs ++ last ∷ [])
          (some-left (Syncs (folder_above q)) syncs (last ∷ [])
          (some-map FileAction.sync (Syncs (folder_above q)) (folders_of (files_of P x tiles))
          (some-once (folder_above q) (map (λ (file : File). folder_above file.path) (files_of P x tiles))
          (some-map (λ (file : File). folder_above file.path) (λ folder. folder_above q ≡ folder) (files_of P x tiles)
          (folders (files_of P x tiles) some)))))

  same_bytes : (q : Text) (bytes : List ℕ) → IsVersionFile P x tiles q bytes → (step : FileAction) → IsGood step
      → Writes_bytes q bytes step
  same_bytes q bytes file (FileAction.write other) good =
      λ e. same_file P x tiles other.path q other.bytes bytes good file (sym e)
  same_bytes q bytes file (FileAction.sync folder) good = tt
  same_bytes q bytes file (FileAction.write_and_sync other) good =
      λ e. same_file P x tiles other.path q other.bytes bytes good file (sym e)

  plan_complete : HasNext P x (files_after (steps_of P x tiles))
  plan_complete = record {
    publications = list;
    files = record {
      tiles = tiles;
      touched = touched;
      there = λ q bytes file. written (steps_of P x tiles) q bytes
          (each-wider IsGood (Writes_bytes q bytes) (same_bytes q bytes file) (steps_of P x tiles) plan_good)
          (writes_it q bytes file);
      only = λ q under there. good_written (steps_of P x tiles) q plan_good
          (there_written (steps_of P x tiles) q there);
    };
  }

  all_synced : (q : Text) → IsThere (files_after (steps_of P x tiles) q)
      → IsTrue (synced_after (steps_of P x tiles) (folder_above q))
  all_synced q there = of (good_written (steps_of P x tiles) q plan_good (there_written (steps_of P x tiles) q there))
    where
      of : (bytes : List ℕ) × IsVersionFile P x tiles q bytes
          → IsTrue (synced_after (steps_of P x tiles) (folder_above q))
      of (bytes, file) = are_synced (steps_of P x tiles) (folder_above q) (syncs_it q bytes file)

  good_under : (step : FileAction) → IsGood step → (q : Text) → WritesTo q step → IsOfVersion (length P + 1) q
  good_under (FileAction.write file) good q e = let U : Text → Type 0 = IsOfVersion (length P + 1) in
      subst U (sym e) (file_under P x tiles file.path file.bytes good)
  good_under (FileAction.sync folder) good q e = absurd e
  good_under (FileAction.write_and_sync file) good q e = let U : Text → Type 0 = IsOfVersion (length P + 1) in
      subst U (sym e) (file_under P x tiles file.path file.bytes good)

  step_under : (number : ℕ) (step : FileAction) → slice_get (steps_of P x tiles) number ≡ Some step → (path : Text)
      → WritesTo path step → IsOfVersion (length P + 1) path
  step_under number step at = let G : List FileAction → Type 0 = Each IsGood in
      good_under step
      ((each-back IsGood (take number (steps_of P x tiles))
      (step ∷ (at_number (steps_of P x tiles) number step at).rest)
      (subst G (at_number (steps_of P x tiles) number step at).split plan_good)).0)

  among : (steps : List FileAction) (i n : ℕ) (file : File) → slice_get steps i ≡ Some (FileAction.write file) → i < n
      → Some_of (WritesTo file.path) (take n steps)
  among [] i n file at less = absurd (none-some (FileAction.write file) at)
  among (y ∷ steps) i zero file at less = absurd (omega (arith, less))
  among (y ∷ steps) zero (suc n) file at less = let W : FileAction → Type 0 = WritesTo file.path in
      inl (subst W (sym (same_Some y (FileAction.write file) at)) refl)
  among (y ∷ steps) (suc i) (suc n) file at less = inr (among steps i n file at (omega (arith, less)))

  -- A file that a step has written is there.
  step_there : (i n : ℕ) (s : State) (file : File) → IsMidAfter P x tiles n s → slice_get (steps_of P x tiles) i
      ≡ Some (FileAction.write file) → i < n → s.present file.path ≡ Some file.bytes
  step_there i n s file mid at less =
      let G : List FileAction → Type 0 = Each IsGood in
      let split = at_number (steps_of P x tiles) i (FileAction.write file) at in
      let good : IsVersionFile P x tiles file.path file.bytes =
      (each-back IsGood (take i (steps_of P x tiles)) (FileAction.write file ∷ split.rest)
      (subst G split.split plan_good)).0 in
      let front = front_good (take n (steps_of P x tiles)) (drop n (steps_of P x tiles))
      (sym (take-append-drop n (steps_of P x tiles))) in
      mid.present file.path (step_under i (FileAction.write file) at file.path refl)
      ∙ written (take n (steps_of P x tiles)) file.path file.bytes
      (each-wider IsGood (Writes_bytes file.path file.bytes) (same_bytes file.path file.bytes good)
      (take n (steps_of P x tiles)) front)
      (among (steps_of P x tiles) i n file at less)

  step_room : (number : ℕ) (s : State) (path : Text) → IsMidAfter P x tiles number s → HasRoom Stands P path s
  step_room number s path mid = mid_room Stands HasNext head_file_text store_layout P
      (files_after (take number (steps_of P x tiles))) (synced_after (take number (steps_of P x tiles))) s path mid
      (few (take number (steps_of P x tiles)) (drop number (steps_of P x tiles))
      (sym (take-append-drop number (steps_of P x tiles))))

  pub plan_keeps : PlanKeeps P x tiles
  plan_keeps = record {
    count = plan_count P x tiles;
    steps = plan_count P x tiles ∙ ap (λ (folders : List Text). length x + length tiles + length folders + 2)
        (folders_by_paths P x tiles);
    begins = λ s here clean. begins_clean Stands P (λ folder. false) s here clean;
    under = step_under;
    room = step_room;
    there = step_there;
    calls = λ number step s at here mid path writes. path_calls (λ m. Stands m P) path s
        (stands_but Stands HasNext head_file_text store_layout P s path here (step_room number s path mid)
        (inr (step_under number step at path writes)));
    step = λ number step s at here mid. let D : List FileAction
        → Type 0 = λ ds. IsMid Stands P (files_after ds) (synced_after ds) (after_step step s) in
        let N : ℕ → Type 0 = λ n. IsMidAfter P x tiles n (after_step step s) in
        let next : suc number ≡ number + 1 = omega arith in
        subst N next (subst D (sym (at_number (steps_of P x tiles) number step at).more)
        (lead (take number (steps_of P x tiles)) step (at_number (steps_of P x tiles) number step at).rest s
        (at_number (steps_of P x tiles) number step at).split here mid));
    ready = λ s here mid. let D : List FileAction
        → Type 0 = λ ds. IsMid Stands P (files_after ds) (synced_after ds) s in
        ready_step Stands HasNext head_file_text store_layout P x (files_after (steps_of P x tiles))
        (synced_after (steps_of P x tiles)) s here
        (subst D (take_all (length (steps_of P x tiles)) (steps_of P x tiles) (omega arith)) mid)
        (few (steps_of P x tiles) [] (sym (append_nil (steps_of P x tiles)))) (λ q under there. all_synced q there)
        (λ m same. next_local P x (files_after (steps_of P x tiles)) m plan_complete same);
  }
    where
      append_nil : (steps : List FileAction) → steps ++ [] ≡ steps
      append_nil [] = refl
      append_nil (step ∷ steps) = ap (λ t. step ∷ t) (append_nil steps)
