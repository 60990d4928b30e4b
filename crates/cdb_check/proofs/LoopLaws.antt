-- Loops over files.
use Rattle.std.proofs.Common.{◌≡◌, ℕ, zero, suc, ◌+◌, ◌<◌, ◌≤◌, List, [], ◌∷◌, ◌++◌, length, take, drop, map, get_or, Some, None, Err, refl, sym, ◌∙◌, ap, subst, arith}
use Rattle.std.specs.Prelude.{slice_get, option_map}
use Rattle.std.proofs.lemmas.Option.{slice_get_read, slice_get-map}
use Rattle.std.proofs.lemmas.List.{take_all, append_assoc, append-nil, length-append}
use Rattle.cdb_grid.specs.declared.tile.Tile.{Tile}
use Rattle.cdb_source.specs.declared.head.SourceHead.{SourceHead}
use Rattle.cdb_source.specs.declared.source.Source.{Source}
use Rattle.cdb_model.specs.Maps.{FileMap}
use Rattle.cdb_model.specs.Names.{source_path, path}
use Rattle.cdb_files.specs.Disk.{State}
use Rattle.cdb_manifest.specs.declared.record_.Record.{Record}
use Rattle.cdb_check.specs.Expected.{SourceFile, Expected, source_files_from, source_files_of, a_source, a_tile, expected_of, expected_after, expected_files, Spells, SpellAll, IsAsExpected, AllAsExpected}
use Rattle.cdb_check.specs.inside.Expected.{source_file}
use Rattle.cdb_check.specs.Outcome.{FirstDiffering, OnlyReads}
use Rattle.cdb_check.specs.inside.Outcome.{Judges, GivesFile, IsAt}
use Rattle.cdb_check.specs.declared.outcome.CheckError.{CheckError}
use Rattle.cdb_check.specs.declared.outcome.CheckError.TheVariants.{Memory, Fault, Differs}
use Rattle.cdb_files.proofs.MomentLaws.{rests_then}
use Rattle.cdb_check.proofs.ExpectedLaws.{met_next, stopped_at, file_at, spell_more, early, onward, all_source_files}

pub looks_on : {D : Type 0} (clock : D → ℕ) (since : D → ℕ → FileMap → Type 0) (holds : D → State) (faults : D → ℕ)
    (a b c : D)
    → OnlyReads clock since holds faults a b → OnlyReads clock since holds faults b c
    → OnlyReads clock since holds faults a c
looks_on clock since holds faults a b c x y = record {
  state = y.state ∙ x.state;
  time = rests_then (clock a) (clock b) (clock c) (since a) (since b) (since c) x.time y.time;
  later = omega (arith, x.later, y.later);
}

-- ---- tiles

tile_there : (files : List SourceFile) (version : ℕ) (tiles : List Tile) (k : ℕ) (t : Tile) → k < length tiles
    → t ≡ get_or tiles k t → slice_get (map (a_tile files version) tiles) k ≡ Some (a_tile files version t)
tile_there files version tiles k t lt is = slice_get-map (a_tile files version) tiles k
    ∙ ap (option_map (a_tile files version)) (slice_get_read tiles (length tiles) k t refl lt is)

pub tile_met : (s now : State) → now ≡ s
    → (files : List SourceFile) (version : ℕ) (tiles : List Tile) (k : ℕ) (t : Tile) → k < length tiles
    → t ≡ get_or tiles k t
    → AllAsExpected s.present (take k (map (a_tile files version) tiles))
    → IsAsExpected now.present (a_tile files version t)
    → AllAsExpected s.present (take (k + 1) (map (a_tile files version) tiles))
tile_met s now same files version tiles k t lt is met one =
    met_next s.present (map (a_tile files version) tiles) k (k + 1) (a_tile files version t) refl
    (tile_there files version tiles k t lt is) met
    (subst (λ (z : State). IsAsExpected z.present (a_tile files version t)) same one)

pub tile_stopped : (T U : Type 0) (s now : State) → now ≡ s
    → (files : List SourceFile) (version : ℕ) (tiles : List Tile) (k : ℕ) (t : Tile) (e : CheckError) → k < length tiles
    → t ≡ get_or tiles k t
    → AllAsExpected s.present (take k (map (a_tile files version) tiles))
    → Judges {T = T} (IsAsExpected now.present (a_tile files version t)) (path version t) (Err e)
    → FirstDiffering {T = U} s.present (map (a_tile files version) tiles) (Err e)
tile_stopped T U s now same files version tiles k t e lt is met judged =
    stopped_at T U s.present (map (a_tile files version) tiles) k (a_tile files version t) (path version t) e
    (tile_there files version tiles k t lt is) refl met
    (subst (λ (z : State). Judges {T = T} (IsAsExpected z.present (a_tile files version t)) (path version t) (Err e))
    same judged)

-- ---- sources

pub file_there : (version : ℕ) (heads : List SourceHead) (k : ℕ) (head : SourceHead) → k < length heads
    → head ≡ get_or heads k head
    → slice_get (source_files_from version 1 heads) k ≡ Some (source_file version (k + 1) head)
file_there version heads k head lt is =
    let number : 1 + k ≡ k + 1 = omega arith in
    file_at version 1 heads k head (slice_get_read heads (length heads) k head refl lt is)
    ∙ ap (λ n. Some (source_file version n head)) number

source_there : (version : ℕ) (heads : List SourceHead) (k : ℕ) (head : SourceHead) → k < length heads
    → head ≡ get_or heads k head
    → slice_get (map a_source (source_files_from version 1 heads)) k ≡ Some
    (a_source (source_file version (k + 1) head))
source_there version heads k head lt is = slice_get-map a_source (source_files_from version 1 heads) k
    ∙ ap (option_map a_source) (file_there version heads k head lt is)

pub source_met : (s now : State) → now ≡ s
    → (version : ℕ) (heads : List SourceHead) (k : ℕ) (head : SourceHead) (source : Source) → k < length heads
    → head ≡ get_or heads k head
    → AllAsExpected s.present (take k (map a_source (source_files_from version 1 heads)))
    → Spells now.present (source_file version (k + 1) head) source
    → AllAsExpected s.present (take (k + 1) (map a_source (source_files_from version 1 heads)))
source_met s now same version heads k head source lt is met one =
    met_next s.present (map a_source (source_files_from version 1 heads)) k (k + 1)
    (a_source (source_file version (k + 1) head)) refl (source_there version heads k head lt is) met
    (source, subst (λ (z : State). Spells z.present (source_file version (k + 1) head) source) same one)

given_judges : (m : FileMap) (file : SourceFile) (T : Type 0) (e : CheckError) → GivesFile m file (Err e)
    → IsAt (source_path file.version file.number) e
    → Judges {T = T} (IsAsExpected m (a_source file)) (source_path file.version file.number) (Err e)
given_judges m file T Memory g at = tt
given_judges m file T Fault g at = tt
given_judges m file T (Differs told) g at = ((λ met. g met.0 met.1), at)

pub source_stopped : (U : Type 0) (s now : State) → now ≡ s
    → (version : ℕ) (heads : List SourceHead) (k : ℕ) (head : SourceHead) (e : CheckError) → k < length heads
    → head ≡ get_or heads k head
    → AllAsExpected s.present (take k (map a_source (source_files_from version 1 heads)))
    → GivesFile now.present (source_file version (k + 1) head) (Err e) → IsAt (source_path version (k + 1)) e
    → FirstDiffering {T = U} s.present (map a_source (source_files_from version 1 heads)) (Err e)
source_stopped U s now same version heads k head e lt is met gives at =
    stopped_at U U s.present (map a_source (source_files_from version 1 heads)) k
    (a_source (source_file version (k + 1) head)) (source_path version (k + 1)) e
    (source_there version heads k head lt is) refl met
    (given_judges s.present (source_file version (k + 1) head) U e
    (subst (λ (z : State). GivesFile z.present (source_file version (k + 1) head) (Err e)) same gives) at)

take_next : {A : Type 0} (xs : List A) (k : ℕ) (x : A) → slice_get xs k ≡ Some x → take (suc k) xs ≡ take k xs ++ x ∷ []
take_next [] k x e = absurd (let f : None ≡ Some x = e in cc)
take_next (y ∷ ys) zero x e = let g : Some y ≡ Some x = e in let same : y ≡ x = cc in ap (λ z. z ∷ []) same
take_next (y ∷ ys) (suc k) x e = ap (λ zs. y ∷ zs) (take_next ys k x e)

pub spell_next : (s now : State) → now ≡ s
    → (version : ℕ) (heads : List SourceHead) (k : ℕ) (head : SourceHead) (source : Source) (earlier : List SourceFile)
    (ss : List Source) → k < length heads → head ≡ get_or heads k head
    → SpellAll s.present (earlier ++ take k (source_files_from version 1 heads)) ss
    → Spells now.present (source_file version (k + 1) head) source
    → SpellAll s.present (earlier ++ take (k + 1) (source_files_from version 1 heads)) (ss ++ source ∷ [])
spell_next s now same version heads k head source earlier ss lt is all one =
    let files = source_files_from version 1 heads in
    let more = spell_more s.present (earlier ++ take k files) ss (source_file version (k + 1) head) source all
    (subst (λ (z : State). Spells z.present (source_file version (k + 1) head) source) same one) in
    let number : suc k ≡ k + 1 = omega arith in
    let lists : (earlier ++ take k files) ++ source_file version (k + 1) head ∷ [] ≡ earlier ++ take (k + 1) files =
    append_assoc earlier (take k files) (source_file version (k + 1) head ∷ [])
    ∙ ap (λ zs. earlier ++ zs) (sym (take_next files k (source_file version (k + 1) head)
    (file_there version heads k head lt is)) ∙ ap (λ n. take n files) number) in
    subst (λ zs. SpellAll s.present zs (ss ++ source ∷ [])) lists more

pub files_length : (version number : ℕ) (heads : List SourceHead)
    → length (source_files_from version number heads) ≡ length heads
files_length version number [] = refl
files_length version number (h ∷ hs) = ap suc (files_length version (number + 1) hs)

source_files_length : (files : List SourceFile) → length (map a_source files) ≡ length files
source_files_length [] = refl
source_files_length (x ∷ xs) = ap suc (source_files_length xs)

pub all_files_taken : (version : ℕ) (heads : List SourceHead) (k : ℕ) → length heads ≤ k
    → take k (source_files_from version 1 heads) ≡ source_files_from version 1 heads
all_files_taken version heads k past = take_all k (source_files_from version 1 heads)
    (omega (arith, files_length version 1 heads, past))

pub all_sources_taken : (version : ℕ) (heads : List SourceHead) (k : ℕ) → length heads ≤ k
    → take k (map a_source (source_files_from version 1 heads)) ≡ map a_source (source_files_from version 1 heads)
all_sources_taken version heads k past =
    take_all k (map a_source (source_files_from version 1 heads))
    (omega (arith, source_files_length (source_files_from version 1 heads), files_length version 1 heads, past))

-- ---- versions

expected_split : (earlier : List SourceFile) (xs ys : List Record)
    → expected_after earlier (xs ++ ys) ≡ expected_after earlier xs ++ expected_after (earlier ++ all_source_files xs)
    ys
expected_split earlier [] ys = ap (λ files. expected_after files ys) (sym (append-nil earlier))
expected_split earlier (x ∷ xs) ys =
    ap (λ zs. expected_of earlier x ++ zs)
    (expected_split (earlier ++ source_files_of x) xs ys
    ∙ ap (λ files. expected_after (earlier ++ source_files_of x) xs ++ expected_after files ys)
    (append_assoc earlier (source_files_of x) (all_source_files xs)))
    ∙ sym (append_assoc (expected_of earlier x) (expected_after (earlier ++ source_files_of x) xs)
    (expected_after (earlier ++ (source_files_of x ++ all_source_files xs)) ys))

files_split : (xs ys : List Record) → all_source_files (xs ++ ys) ≡ all_source_files xs ++ all_source_files ys
files_split [] ys = refl
files_split (x ∷ xs) ys = ap (λ zs. source_files_of x ++ zs) (files_split xs ys)
    ∙ sym (append_assoc (source_files_of x) (all_source_files xs) (all_source_files ys))

pub records_next : (records : List Record) (k : ℕ) (r : Record) → slice_get records k ≡ Some r
    → take (k + 1) records ≡ take k records ++ r ∷ []
records_next records k r at = let number : k + 1 ≡ suc k = omega arith in ap (λ n. take n records) number
    ∙ take_next records k r at

pub expected_next : (records : List Record) (k : ℕ) (r : Record) → slice_get records k ≡ Some r
    → expected_files (take (k + 1) records) ≡ expected_files (take k records) ++ expected_of
    (all_source_files (take k records)) r
expected_next records k r at = ap expected_files (records_next records k r at)
    ∙ expected_split [] (take k records) (r ∷ [])
    ∙ ap (λ zs. expected_files (take k records) ++ zs) (append-nil (expected_of (all_source_files (take k records)) r))

pub files_next : (records : List Record) (k : ℕ) (r : Record) → slice_get records k ≡ Some r
    → all_source_files (take (k + 1) records) ≡ all_source_files (take k records) ++ source_files_of r
files_next records k r at = ap all_source_files (records_next records k r at) ∙ files_split (take k records) (r ∷ [])
    ∙ ap (λ zs. all_source_files (take k records) ++ zs) (append-nil (source_files_of r))

cut_at : {A : Type 0} (xs : List A) (k : ℕ) (x : A) → slice_get xs k ≡ Some x → take k xs ++ x ∷ drop (suc k) xs ≡ xs
cut_at [] k x e = absurd (let f : None ≡ Some x = e in cc)
cut_at (y ∷ ys) zero x e = let g : Some y ≡ Some x = e in let same : x ≡ y = cc in ap (λ z. z ∷ ys) same
cut_at (y ∷ ys) (suc k) x e = ap (λ zs. y ∷ zs) (cut_at ys k x e)

pub version_stopped : (T U : Type 0) (s now : State) → now ≡ s
    → (records : List Record) (k : ℕ) (r : Record) (e : CheckError) → slice_get records k ≡ Some r
    → AllAsExpected s.present (expected_files (take k records))
    → FirstDiffering {T = T} now.present (expected_of (all_source_files (take k records)) r) (Err e)
    → FirstDiffering {T = U} s.present (expected_files records) (Err e)
version_stopped T U s now same records k r e at met found =
    let rest = drop (suc k) records in
    let files = all_source_files (take k records) in
    let parts : expected_files (take k records) ++ (expected_of files r ++ expected_after (files ++ source_files_of r)
    rest) ≡ expected_files records =
    sym (expected_split [] (take k records) (r ∷ rest)) ∙ ap expected_files (cut_at records k r at) in
    let here = subst (λ (z : State). FirstDiffering {T = T} z.present (expected_of files r) (Err e)) same found in
    subst (λ (ds : List Expected). FirstDiffering {T = U} s.present ds (Err e)) parts
    (onward {T = U} s.present (expected_files (take k records))
    (expected_of files r ++ expected_after (files ++ source_files_of r) rest) (Err e) met
    (early T U s.present (expected_of files r) (expected_after (files ++ source_files_of r) rest) e here))

tiles_length : (files : List SourceFile) (version : ℕ) (tiles : List Tile)
    → length (map (a_tile files version) tiles) ≡ length tiles
tiles_length files version [] = refl
tiles_length files version (t ∷ ts) = ap suc (tiles_length files version ts)

pub version_length : (earlier : List SourceFile) (r : Record)
    → length (expected_of earlier r) ≡ 1 + length r.heads + length r.tiles
version_length earlier r =
    let tiles = map (a_tile (earlier ++ source_files_of r) r.version) r.tiles in
    let both = length-append (map a_source (source_files_of r)) tiles in
    let all : length (expected_of earlier r) ≡ suc (length (map a_source (source_files_of r) ++ tiles)) = refl in
    omega (
      arith,
      all,
      both,
      source_files_length (source_files_of r),
      files_length r.version 1 r.heads,
      tiles_length
          (earlier ++ source_files_of r) r.version r.tiles,
    )

pub length_next : (records : List Record) (k : ℕ) (r : Record) → slice_get records k ≡ Some r
    → length (expected_files (take (k + 1) records)) ≡ length
    (expected_files (take k records)) + (1 + length r.heads + length r.tiles)
length_next records k r at = ap length (expected_next records k r at)
    ∙ length-append (expected_files (take k records)) (expected_of (all_source_files (take k records)) r)
    ∙ ap (λ n. length (expected_files (take k records)) + n) (version_length (all_source_files (take k records)) r)
