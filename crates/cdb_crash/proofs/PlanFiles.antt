-- The files of a plan are those of the version, each with its bytes, and they are few.
use Rattle.std.proofs.Common.{◌≡◌, ℕ, zero, suc, ◌+◌, ◌<◌, ◌⊎◌, inl, inr, ℤ, List, [], ◌∷◌, ◌++◌, length, length-append, get_or, drop, map, Option, None, Some, refl, sym, ap, ◌∙◌, subst, arith}
use Rattle.std.specs.Prelude.{slice_get}
use Rattle.std.specs.List.{Contains}
use Rattle.std.proofs.lemmas.List.Elements.{Contains-append_left, Contains-append_right}
use Rattle.std.proofs.lemmas.Option.{same_Some}
use Rattle.cdb_grid.specs.declared.tile.Tile.{Tile}
use Rattle.cdb_source.specs.Reached.{IsTouched}
use Rattle.cdb_source.proofs.LoadLaws.{LoadTiles, load_tiles}
use Rattle.cdb_source.specs.Texts.{source_text}
use Rattle.cdb_source.specs.declared.source.Source.{Source}
use Rattle.cdb_source.proofs.Lists.{contains_later}
use Rattle.cdb_model.specs.Publications.{heads_of, sources_of}
use Rattle.cdb_model.specs.Maps.{Text, FileMap, IsThere}
use Rattle.cdb_model.specs.Names.{record_path, source_path, path, name, fields_of_path, spell}
use Rattle.cdb_model.specs.Stands.{IsPublication, ArePublications, IsVersionFile}
use Rattle.cdb_model.specs.TileFile.{tile_bytes}
use Rattle.cdb_names.specs.Fields.{across}
use Rattle.cdb_names.specs.inside.Fields.{lat_folder_at, lon_folder_at, dataset_folder_at, level_folder_at, up_folder_at}
use Rattle.cdb_names.specs.Reading.{dataset_folder_of}
use Rattle.cdb_names.proofs.NameResults.{one_tile}
use Rattle.cdb_names.proofs.PathFieldLaws.{dataset_folder_again, level_for_folder}
use Rattle.cdb_names.proofs.PathLaws.{lat_reads, lon_reads, level_reads, up_reads}
use Rattle.cdb_names.proofs.Tools.{pair_is}
use Rattle.cdb_crash.specs.Leftovers.{HasAtMost}
use Rattle.cdb_crash.specs.Plan.{File, source_files, tile_file, files_of}
use Rattle.cdb_crash.proofs.FilePaths.{source_paths_tell, record_isnt_source, tile_isnt_source, tile_isnt_record}
use Rattle.cdb_crash.proofs.PlanLists.{Each, each-append, each-map, Some_of, some-left, some-right, some-map}

-- ---- the path of a tile tells the tile
next : {Y : Type 0} (read : Text → Option (Y × Text)) (t u : Text) (x y : Y) (r s : Text) → read t ≡ Some (x, r)
    → read u ≡ Some (y, s) → t ≡ u → (x ≡ y) × (r ≡ s)
next read t u x y r s p q e = pair_is x y r s (same_Some (x, r) (y, s) (sym p ∙ ap read e ∙ q))

-- What is left of a path after so many of its fields.
abbrev left : ℕ → Tile → ℕ → Text
left v t count = spell (drop count (fields_of_path v t)) []

pub tile_paths_tell : (v : ℕ) (a b : Tile) → path v a ≡ path v b → a ≡ b
tile_paths_tell v a b e =
    let e2 : left v a 2 ≡ left v b 2 = ap (drop 16) e in
    let lat = next lat_folder_at (left v a 2) (left v b 2) a.cell.lat b.cell.lat (left v a 3) (left v b 3)
    (lat_reads a (left v a 3)) (lat_reads b (left v b 3)) e2 in
    let lon = next (lon_folder_at a.cell.lat) (left v a 3) (left v b 3) a.cell.lon b.cell.lon (left v a 4) (left v b 4)
    (lon_reads a (left v a 4))
    (ap (λ (l : ℤ). lon_folder_at l (left v b 3)) lat.0 ∙ lon_reads b (left v b 4)) lat.1 in
    let dataset = next dataset_folder_at (left v a 4) (left v b 4) (dataset_folder_of a.family)
    (dataset_folder_of b.family) (left v a 5) (left v b 5)
    (dataset_folder_again a.family (left v a 5)) (dataset_folder_again b.family (left v b 5)) lon.1 in
    let level = next level_folder_at (left v a 5) (left v b 5) (level_for_folder a.level.number)
    (level_for_folder b.level.number) (left v a 6) (left v b 6)
    (level_reads a (left v a 6)) (level_reads b (left v b 6)) dataset.1 in
    let up = next (up_folder_at (across (level_for_folder a.level.number))) (left v a 6) (left v b 6) a.up b.up (name a)
    (name b) (up_reads a (name a))
    (ap (λ (l : ℤ). up_folder_at (across l) (left v b 6)) level.0 ∙ up_reads b (name b)) level.1 in
    one_tile a b up.1

-- ---- one path, one file
pub same_file : (P : List (List Source)) (x : List Source) (tiles : List Tile) (p q : Text) (b c : List ℕ)
    → IsVersionFile P x tiles p b → IsVersionFile P x tiles q c → p ≡ q → b ≡ c
same_file P x tiles p q b c (IsVersionFile.of_record) (IsVersionFile.of_record) e = refl
same_file P x tiles p q b c (IsVersionFile.of_record) (IsVersionFile.of_source i s at) e =
    absurd (record_isnt_source (length P + 1) (i + 1) e)
same_file P x tiles p q b c (IsVersionFile.of_record) (IsVersionFile.of_tile t reached) e =
    absurd (tile_isnt_record (length P + 1) t (sym e))
same_file P x tiles p q b c (IsVersionFile.of_source i s at) (IsVersionFile.of_record) e =
    absurd (record_isnt_source (length P + 1) (i + 1) (sym e))
same_file P x tiles p q b c (IsVersionFile.of_source i s at) (IsVersionFile.of_source j t at_j) e =
    let same = source_paths_tell (length P + 1) (i + 1) (j + 1) e in
    let at_i : slice_get x j ≡ Some s = subst (λ (k : ℕ). slice_get x k ≡ Some s) (omega (arith, same)) at in
    ap source_text (same_Some s t (sym at_i ∙ at_j))
same_file P x tiles p q b c (IsVersionFile.of_source i s at) (IsVersionFile.of_tile t reached) e =
    absurd (tile_isnt_source (length P + 1) (i + 1) t (sym e))
same_file P x tiles p q b c (IsVersionFile.of_tile t reached) (IsVersionFile.of_record) e =
    absurd (tile_isnt_record (length P + 1) t e)
same_file P x tiles p q b c (IsVersionFile.of_tile t reached) (IsVersionFile.of_source i s at) e =
    absurd (tile_isnt_source (length P + 1) (i + 1) t e)
same_file P x tiles p q b c (IsVersionFile.of_tile t reached) (IsVersionFile.of_tile u other) e =
    ap (tile_bytes (sources_of (P ++ x ∷ []))) (tile_paths_tell (length P + 1) t u e)

-- ---- the files of the plan are files of the version
each_contained : {A : Type 0} (Such : A → Type 0) (xs : List A) → ((y : A) → Contains xs y → Such y) → Each Such xs
each_contained Such [] such = tt
each_contained Such (x ∷ xs) such =
    (such x ((0, omega arith, refl)), each_contained Such xs (λ y c. such y (contains_later x xs y c)))

pub some_contained : {A : Type 0} (xs : List A) (y : A) → Contains xs y → Some_of (λ z. y ≡ z) xs
some_contained {A = A} xs y (k, l, e) = walk xs k l e
  where
    walk : (xs : List A) (k : ℕ) → k < length xs → get_or xs k y ≡ y → Some_of (λ z. y ≡ z) xs
    walk [] k l e = absurd (omega arith)
    walk (x ∷ xs) zero l e = inl (sym e)
    walk (x ∷ xs) (suc k) l e = inr (walk xs k (omega arith) e)

contains_some : (xs : List Text) (q : Text) → Some_of (λ z. q ≡ z) xs → Contains xs q
contains_some [] q a = absurd a
contains_some (x ∷ xs) q (inl e) = (0, omega arith, sym e)
contains_some (x ∷ xs) q (inr a) = contains_later x xs q (contains_some xs q a)

some_wider : {A : Type 0} (Such Wider : A → Type 0) → ((y : A) → Such y → Wider y) → (xs : List A) → Some_of Such xs
    → Some_of Wider xs
some_wider Such Wider wide [] a = absurd a
some_wider Such Wider wide (x ∷ xs) (inl a) = inl (wide x a)
some_wider Such Wider wide (x ∷ xs) (inr a) = inr (some_wider Such Wider wide xs a)

module _ (P : List (List Source)) (x : List Source) (tiles : List Tile) where
  abbrev pub IsFile : File → Type 0
  IsFile file = IsVersionFile P x tiles file.path file.bytes

  sources_good : (k : ℕ) (sources : List Source)
      → ((i : ℕ) (s : Source) → slice_get sources i ≡ Some s → slice_get x (k + i) ≡ Some s)
      → Each IsFile (source_files (length P + 1) (k + 1) sources)
  sources_good k [] at = tt
  sources_good k (s ∷ sources) at =
      let here : slice_get x k ≡ Some s = subst (λ (n : ℕ). slice_get x n ≡ Some s) (omega arith) (at 0 s refl) in (
        IsVersionFile.of_source k s here,
        sources_good (k + 1) sources
            (λ i t e. subst (λ (n : ℕ). slice_get x n ≡ Some t) (omega arith) (at (suc i) t e)),
      )

  pub files_good : IsTouched (heads_of x) tiles → Each IsFile (files_of P x tiles)
  files_good touched = each-append IsFile (source_files (length P + 1) 1 x)
      (map (tile_file (length P + 1) (sources_of (P ++ x ∷ []))) tiles)
      (sources_good 0 x (λ i s e. subst (λ (n : ℕ). slice_get x n ≡ Some s) (omega arith) e))
      (each-map (tile_file (length P + 1) (sources_of (P ++ x ∷ []))) IsFile tiles
      (each_contained (λ t. IsFile (tile_file (length P + 1) (sources_of (P ++ x ∷ [])) t)) tiles
      (λ t c. IsVersionFile.of_tile t ((touched.exact t).0 c))))

  -- Each file of the version is the record's, or one of the others.
  some_source_file : (v number : ℕ) (sources : List Source) (i n : ℕ) (s : Source) → n ≡ number + i
      → slice_get sources i ≡ Some s
      → Some_of (λ file. source_path v n ≡ file.path) (source_files v number sources)
  some_source_file v number [] i n s is e = absurd (none_some e)
    where
      none_some : None ≡ Some s → ⊥
      none_some e = let Gone : Option Source → Type 0 = IsGone in subst Gone e tt
        where
          IsGone : Option Source → Type 0
          IsGone None = Unit {0}
          IsGone (Some t) = ⊥
  some_source_file v number (t ∷ sources) zero n s is e = inl (ap (source_path v) (omega (arith, is)))
  some_source_file v number (t ∷ sources) (suc i) n s is e =
      inr (some_source_file v (number + 1) sources i n s (omega (arith, is)) e)

  pub file_of_plan : IsTouched (heads_of x) tiles → (q : Text) (bytes : List ℕ) → IsVersionFile P x tiles q bytes
      → (q ≡ record_path (length P + 1)) ⊎ Some_of (λ file. q ≡ file.path) (files_of P x tiles)
  file_of_plan touched q bytes (IsVersionFile.of_record) = inl refl
  file_of_plan touched q bytes (IsVersionFile.of_source i s at) =
      inr (some-left (λ file. source_path (length P + 1) (i + 1) ≡ file.path)
      (source_files (length P + 1) 1 x) (map (tile_file (length P + 1) (sources_of (P ++ x ∷ []))) tiles)
      (some_source_file (length P + 1) 1 x i (i + 1) s (omega arith) at))
  file_of_plan touched q bytes (IsVersionFile.of_tile t reached) =
      inr (some-right (λ file. path (length P + 1) t ≡ file.path)
      (source_files (length P + 1) 1 x) (map (tile_file (length P + 1) (sources_of (P ++ x ∷ []))) tiles)
      (some-map (tile_file (length P + 1) (sources_of (P ++ x ∷ []))) (λ file. path (length P + 1) t ≡ file.path) tiles
      (some_wider (λ u. t ≡ u) (λ u. path (length P + 1) t ≡ path (length P + 1) u) (λ u e. ap (path (length P + 1)) e)
      tiles (some_contained tiles t ((touched.exact t).1 reached)))))

-- ---- they are few
last_is : (P : List (List Source)) (x d : List Source) → get_or (P ++ x ∷ []) (length P) d ≡ x
last_is [] x d = refl
last_is (p ∷ P) x d = last_is P x d

pub last_publication : (P : List (List Source)) (x : List Source) → ArePublications (P ++ x ∷ []) → IsPublication x
last_publication P x list =
    subst IsPublication (last_is P x x) (list.each (length P) x (omega (arith, length-append P (x ∷ []))))

paths_of-length : (files : List File) → length (map (λ (file : File). file.path) files) ≡ length files
paths_of-length [] = refl
paths_of-length (file ∷ files) = ap suc (paths_of-length files)

tile_paths-length : (v : ℕ) (tiles : List Tile) → length (map (path v) tiles) ≡ length tiles
tile_paths-length v [] = refl
tile_paths-length v (t ∷ tiles) = ap suc (tile_paths-length v tiles)

pub source_files-length : (v number : ℕ) (sources : List Source) → length (source_files v number sources)
    ≡ length sources
source_files-length v number [] = refl
source_files-length v number (s ∷ sources) = ap suc (source_files-length v (number + 1) sources)

-- Files of a publication are at most 1 + 64 + 16,384.
pub few_files : (P : List (List Source)) (x : List Source) (tiles : List Tile) (m : FileMap)
    → ArePublications (P ++ x ∷ [])
    → ((q : Text) → IsThere (m q) → (bytes : List ℕ) × IsVersionFile P x tiles q bytes)
    → HasAtMost 65535 (length P + 1) m
few_files P x tiles m list files = of (last_publication P x list)
  where
    of : IsPublication x → HasAtMost 65535 (length P + 1) m
    of publication = with_load (load_tiles (heads_of x) publication.load publication.load_is)
      where
        with_load : LoadTiles (heads_of x) publication.load → HasAtMost 65535 (length P + 1) m
        with_load load = record {
          paths = record_path (length P + 1)
              ∷ (map (λ file. file.path) (source_files (length P + 1) 1 x) ++ map (path (length P + 1)) load.tiles);
          few = omega (
            arith,
            publication.few,
            publication.fits,
            load.count,
            length-append (map (λ file. file.path) (source_files (length P + 1) 1 x))
                (map (path (length P + 1)) load.tiles),
            paths_of-length (source_files (length P + 1) 1 x),
            tile_paths-length (length P + 1) load.tiles,
            source_files-length (length P + 1) 1 x,
          );
          all = λ q such. at q (files q (such.1));
        }
          where
            in_list : (q : Text) (bytes : List ℕ) → IsVersionFile P x tiles q bytes
                → Contains (record_path (length P + 1)
                ∷ (map (λ file. file.path) (source_files (length P + 1) 1 x)
                ++ map (path (length P + 1)) load.tiles)) q
            in_list q bytes (IsVersionFile.of_record) = (0, omega arith, refl)
            in_list q bytes (IsVersionFile.of_source i s at) =
                contains_later _ _ _
                (Contains-append_left (map (λ file. file.path) (source_files (length P + 1) 1 x))
                (map (path (length P + 1)) load.tiles) _
                (contains_some _ _ (some-map (λ (file : File). file.path) (λ p. source_path (length P + 1) (i + 1) ≡ p)
                (source_files (length P + 1) 1 x)
                (some_source_file P x tiles (length P + 1) 1 x i (i + 1) s (omega arith) at))))
            in_list q bytes (IsVersionFile.of_tile t reached) =
                contains_later _ _ _
                (Contains-append_right (map (λ file. file.path) (source_files (length P + 1) 1 x))
                (map (path (length P + 1)) load.tiles) _
                (contains_some _ _ (some-map (path (length P + 1)) (λ p. path (length P + 1) t ≡ p) load.tiles
                (some_wider (λ u. t ≡ u) (λ u. path (length P + 1) t ≡ path (length P + 1) u)
                (λ u e. ap (path (length P + 1)) e)
                load.tiles (some_contained load.tiles t (load.all t reached))))))

            at : (q : Text) → (bytes : List ℕ) × IsVersionFile P x tiles q bytes
                → Contains (record_path (length P + 1)
                ∷ (map (λ file. file.path) (source_files (length P + 1) 1 x)
                ++ map (path (length P + 1)) load.tiles)) q
            at q (bytes, file) = in_list q bytes file
