-- A store that stands for publications agrees with their records, and one that agrees keeps publications.
use Rattle.std.proofs.Common.{◌≡◌, ℕ, zero, suc, ◌+◌, ◌<◌, ◌⊎◌, inl, inr, List, [], ◌∷◌, ◌++◌, length, map, slice_get, get_or, Some, refl, sym, ◌∙◌, ap, subst, arith}
use Rattle.std.specs.Prelude.{All}
use Rattle.std.specs.List.{Contains}
use Rattle.std.proofs.lemmas.List.{append_assoc, append-nil, length-append, length-map, flat_map_more}
use Rattle.std.proofs.lemmas.List.Elements.{Contains-append_left, Contains-append_right, Contains-append_cases}
use Rattle.std.proofs.lemmas.Option.{same_Some, none-some}
use Rattle.cdb_grid.specs.declared.tile.Tile.{Tile}
use Rattle.cdb_source.proofs.OnceLaws.{in_one}
use Rattle.cdb_source.specs.Reached.{IsTouched, IsLoad}
use Rattle.cdb_source.specs.Texts.{source_text}
use Rattle.cdb_source.specs.declared.head.SourceHead.{SourceHead}
use Rattle.cdb_source.specs.declared.source.Source.{Source}
use Rattle.cdb_source.proofs.Lists.{not_in_none}
use Rattle.cdb_model.specs.Maps.{Text, FileMap}
use Rattle.cdb_model.specs.Names.{record_path, source_path, path}
use Rattle.cdb_model.specs.Records.{record_text}
use Rattle.cdb_model.specs.TileFile.{tile_bytes}
use Rattle.cdb_model.specs.Publications.{Publication, sources_in, sources_of, heads_of, IsPublication}
use Rattle.cdb_model.specs.Stands.{IsVersionFile, Stands}
use Rattle.cdb_model.proofs.OneLists.{one_touched}
use Rattle.cdb_manifest.specs.Records.{record_bytes}
use Rattle.cdb_manifest.specs.declared.record_.Record.{Record}
use Rattle.cdb_check.specs.Expected.{SourceFile, Expected, a_source, a_tile, source_files_from, source_files_of, expected_of, expected_after, SpellAll, MayTouch, AllAsExpected}
use Rattle.cdb_check.specs.Laws.{HasVersionFiles, HaveTheirFiles, AreNumbered}
use Rattle.cdb_check.proofs.ExpectedLaws.{met_append}
use Rattle.cdb_check.proofs.RecordsOf.{IsOf, AreOf, to_records}
use Rattle.cdb_check.proofs.SourceLaws.{of_tile}

-- ---- source files and sources

spelled_from : (m : FileMap) (version number : ℕ) (ss : List Source)
    → ((i : ℕ) (s : Source) → slice_get ss i ≡ Some s → m (source_path version (number + i)) ≡ Some (source_text s))
    → SpellAll m (source_files_from version number (heads_of ss)) ss
spelled_from m version number [] there = tt
spelled_from m version number (s ∷ ss) there =
    let first : number ≡ number + 0 = omega arith in (
      record { head = refl; there = ap (λ k. m (source_path version k)) first ∙ there 0 s refl },
      spelled_from m version (number + 1) ss (λ i t at.
          (let e : number + 1 + i ≡ number + suc i = omega arith in ap (λ k. m (source_path version k)) e
          ∙ there (suc i) t at)),
    )

all_spelled : (m : FileMap) (files : List SourceFile) (ss : List Source) → SpellAll m files ss
    → AllAsExpected m (map a_source files)
all_spelled m [] ss a = tt
all_spelled m (file ∷ files) [] a = absurd a
all_spelled m (file ∷ files) (s ∷ ss) a = ((s, a.0), all_spelled m files ss a.1)

spell_append : (m : FileMap) (fs gs : List SourceFile) (ss ts : List Source) → SpellAll m fs ss → SpellAll m gs ts
    → SpellAll m (fs ++ gs) (ss ++ ts)
spell_append m [] gs [] ts a b = b
spell_append m [] gs (s ∷ ss) ts a b = absurd a
spell_append m (f ∷ fs) gs [] ts a b = absurd a
spell_append m (f ∷ fs) gs (s ∷ ss) ts a b = (a.0, spell_append m fs gs ss ts a.1 b)

-- the sources that source files give
given_by : (m : FileMap) (files : List SourceFile) → AllAsExpected m (map a_source files) → (ss : List Source)
    × SpellAll m files ss
given_by m [] a = ([], tt)
given_by m (file ∷ files) a = let rest = given_by m files a.1 in (a.0.0 ∷ rest.0, (a.0.1, rest.1))

heads_given : (m : FileMap) (version number : ℕ) (heads : List SourceHead) (ss : List Source)
    → SpellAll m (source_files_from version number heads) ss → heads ≡ heads_of ss
heads_given m version number [] [] a = refl
heads_given m version number [] (s ∷ ss) a = absurd a
heads_given m version number (h ∷ hs) [] a = absurd a
heads_given m version number (h ∷ hs) (s ∷ ss) a =
    let first : h ≡ s.head = sym a.0.head in
    let rest : hs ≡ heads_of ss = heads_given m version (number + 1) hs ss a.1 in
    (λ i. first i ∷ rest i)

text_given : (m : FileMap) (version number : ℕ) (heads : List SourceHead) (ss : List Source)
    → SpellAll m (source_files_from version number heads) ss
    → (i : ℕ) (s : Source) → slice_get ss i ≡ Some s → m (source_path version (number + i)) ≡ Some (source_text s)
text_given m version number heads [] a i s at = absurd (none-some s at)
text_given m version number [] (t ∷ ts) a i s at = absurd a
text_given m version number (h ∷ hs) (t ∷ ts) a zero s at =
    let first : number + 0 ≡ number = omega arith in
    ap (λ k. m (source_path version k)) first ∙ a.0.there ∙ ap (λ (u : Source). Some (source_text u)) (same_Some t s at)
text_given m version number (h ∷ hs) (t ∷ ts) a (suc i) s at =
    let next : number + suc i ≡ number + 1 + i = omega arith in
    ap (λ k. m (source_path version k)) next ∙ text_given m version (number + 1) hs ts a.1 i s at

-- ---- tiles

all_tiles : (m : FileMap) (files : List SourceFile) (version : ℕ) (ss : List Source) (tiles : List Tile)
    → SpellAll m files ss
    → ((t : Tile) → Contains tiles t → m (path version t) ≡ Some (tile_bytes ss t))
    → AllAsExpected m (map (a_tile files version) tiles)
all_tiles m files version ss [] spelled there = tt
all_tiles m files version ss (t ∷ ts) spelled there = (
  (ss, spelled, there t (Contains-append_left (t ∷ []) ts t (0, (let z : 0 < 1 = omega arith in z), refl))),
  all_tiles m files version ss ts spelled (λ u c. there u (Contains-append_right (t ∷ []) ts u c)),
)

pick : (Q : Tile → Type 0) (u : Tile) (us : List Tile) (t : Tile) → Contains (u ∷ []) t ⊎ Contains us t → Q u
    → (Contains us t → Q t) → Q t
pick Q u us t (inl one) here later = subst Q (in_one u t one) here
pick Q u us t (inr more) here later = later more

tile_given : (m : FileMap) (files : List SourceFile) (version : ℕ) (ss : List Source) (tiles : List Tile)
    → AllAsExpected m (map (a_tile files version) tiles) → SpellAll m files ss
    → (t : Tile) → Contains tiles t → m (path version t) ≡ Some (tile_bytes ss t)
tile_given m files version ss [] a spelled t c = absurd (not_in_none t c)
tile_given m files version ss (u ∷ us) a spelled t c =
    pick (λ w. m (path version w) ≡ Some (tile_bytes ss w)) u us t (Contains-append_cases (u ∷ []) us t c)
    (of_tile m files version u ss spelled a.0)
    (λ more. tile_given m files version ss us a.1 spelled t more)

met_split : (m : FileMap) (xs ys : List Expected) → AllAsExpected m (xs ++ ys) → AllAsExpected m xs × AllAsExpected m ys
met_split m [] ys a = (tt, a)
met_split m (x ∷ xs) ys a = let rest = met_split m xs ys a.1 in ((a.0, rest.0), rest.1)

-- ---- one version

more_spelled : (m : FileMap) (earlier : List Publication) (x : Publication) (files more : List SourceFile)
    → SpellAll m files (sources_of earlier) → SpellAll m more x
    → SpellAll m (files ++ more) (sources_of (earlier ++ x ∷ []))
more_spelled m earlier x files more a b =
    subst (λ (ss : List Source). SpellAll m (files ++ more) ss) (flat_map_more sources_in [] earlier x)
    (spell_append m files more (sources_of earlier) x a b)

version_agrees : (m : FileMap) (earlier : List Publication) (x : Publication) (r : Record) (files : List SourceFile)
    → IsOf (length earlier) r x → IsPublication x
    → (tiles : List Tile) → IsTouched (heads_of x) tiles
    → ((q : Text) (bytes : List ℕ) → IsVersionFile earlier x tiles q bytes → m q ≡ Some bytes)
    → SpellAll m files (sources_of earlier) → AllAsExpected m (expected_of files r)
    × SpellAll m (files ++ source_files_of r) (sources_of (earlier ++ x ∷ []))
version_agrees m earlier x r files of publication tiles touched there spelled = (
  (
    as_record,
    met_append m (map a_source (source_files_of r))
        (map (a_tile (files ++ source_files_of r) r.version) r.tiles) (all_spelled m (source_files_of r) x mine)
        tiles_are,
  ),
  all,
)
  where
    same : tiles ≡ r.tiles
    same = one_touched (heads_of x) tiles r.tiles touched of.tiles

    version : length earlier + 1 ≡ r.version
    version = sym of.version

    heads : heads_of x ≡ r.heads
    heads = sym of.heads

    as_record : (m (record_path r.version) ≡ Some (record_bytes r)) × MayTouch r.heads r.tiles
    as_record = (
      ap (λ k. m (record_path k)) of.version ∙ there _ _ IsVersionFile.of_record
          ∙ (λ i. Some (record_text (version i) (heads i) (same i))),
      record {
        load = publication.load;
        load_is = subst (λ (hs : List SourceHead). IsLoad hs publication.load) heads publication.load_is;
        fits = publication.fits;
        touched = subst (λ (hs : List SourceHead). IsTouched hs r.tiles) heads of.tiles;
      },
    )

    mine : SpellAll m (source_files_of r) x
    mine = subst (λ (fs : List SourceFile). SpellAll m fs x) (λ i. source_files_from (version i) 1 (heads i))
        (spelled_from m (length earlier + 1) 1 x (λ i s at.
        (let e : 1 + i ≡ i + 1 = omega arith in ap (λ k. m (source_path (length earlier + 1) k)) e
        ∙ there _ _ (IsVersionFile.of_source i s at))))

    all : SpellAll m (files ++ source_files_of r) (sources_of (earlier ++ x ∷ []))
    all = more_spelled m earlier x files (source_files_of r) spelled mine

    tiles_are : AllAsExpected m (map (a_tile (files ++ source_files_of r) r.version) r.tiles)
    tiles_are = all_tiles m (files ++ source_files_of r) r.version (sources_of (earlier ++ x ∷ [])) r.tiles all
        (λ t c. ap (λ k. m (path k t)) of.version ∙ there _ _ (IsVersionFile.of_tile t ((of.tiles.exact t).0 c)))

-- a version whose files are as its record expects has the files of a publication
record Given (m : FileMap) (earlier : List Publication) (r : Record) (files : List SourceFile) : Type 0 where
  pub sources : Publication
  pub of : IsOf (length earlier) r sources
  pub publication : IsPublication sources
  pub has : HasVersionFiles m earlier sources
  pub spelled : SpellAll m (files ++ source_files_of r) (sources_of (earlier ++ sources ∷ []))

version_given : (m : FileMap) (earlier : List Publication) (r : Record) (files : List SourceFile)
    → r.version ≡ length earlier + 1 → SpellAll m files (sources_of earlier)
    → AllAsExpected m (expected_of files r) → Given m earlier r files
version_given m earlier r files version spelled met = record {
  sources = x;
  of = record { version = version; heads = heads; tiles = touched };
  publication = record {
    some = omega (arith, long, r.in_range.heads_least);
    few = omega (arith, long, r.in_range.heads_most);
    load = may.load;
    load_is = subst (λ (hs : List SourceHead). IsLoad hs may.load) heads may.load_is;
    fits = may.fits;
  };
  has = record { tiles = r.tiles; touched = touched; there = there };
  spelled = all;
}
  where
    may : MayTouch r.heads r.tiles
    may = met.0.1

    parts : AllAsExpected m (map a_source (source_files_of r))
        × AllAsExpected m (map (a_tile (files ++ source_files_of r) r.version) r.tiles)
    parts = met_split m (map a_source (source_files_of r)) (map (a_tile (files ++ source_files_of r) r.version) r.tiles)
        met.1

    given : (ss : List Source) × SpellAll m (source_files_of r) ss
    given = given_by m (source_files_of r) parts.0

    x : List Source
    x = given.0

    heads : r.heads ≡ heads_of x
    heads = heads_given m r.version 1 r.heads x given.1

    touched : IsTouched (heads_of x) r.tiles
    touched = subst (λ (hs : List SourceHead). IsTouched hs r.tiles) heads may.touched

    long : length r.heads ≡ length x
    long = ap length heads ∙ length-map x (λ (s : Source). s.head)

    all : SpellAll m (files ++ source_files_of r) (sources_of (earlier ++ x ∷ []))
    all = more_spelled m earlier x files (source_files_of r) spelled given.1

    there : (q : Text) (bytes : List ℕ) → IsVersionFile earlier x r.tiles q bytes → m q ≡ Some bytes
    there q bytes (IsVersionFile.of_record) =
        ap (λ k. m (record_path k)) (sym version) ∙ met.0.0 ∙ (λ i. Some (record_text (version i) (heads i) r.tiles))
    there q bytes (IsVersionFile.of_source i s at) =
        (let e : i + 1 ≡ 1 + i = omega arith in (λ j. m (source_path (sym version j) (e j))))
        ∙ text_given m r.version 1 r.heads x given.1 i s at
    there q bytes (IsVersionFile.of_tile t reached) =
        ap (λ k. m (path k t)) (sym version) ∙ tile_given m (files ++ source_files_of r) r.version
        (sources_of (earlier ++ x ∷ [])) r.tiles parts.1 all t ((touched.exact t).1 reached)

-- ---- all versions

middle : (xs : List Publication) (x : Publication) (ys : List Publication) → get_or (xs ++ x ∷ ys) (length xs) x ≡ x
middle [] x ys = refl
middle (z ∷ zs) x ys = middle zs x ys

middle_in : (xs : List Publication) (x : Publication) (ys : List Publication) → length xs < length (xs ++ x ∷ ys)
middle_in xs x ys = let e : length (xs ++ x ∷ ys) ≡ length xs + suc (length ys) = length-append xs (x ∷ ys) in
    omega (arith, e)

one_of_all : (list earlier : List Publication) (x : Publication) (later : List Publication)
    → list ≡ earlier ++ x ∷ later → All IsPublication list → IsPublication x
one_of_all list earlier x later is all =
    let here : All IsPublication (earlier ++ x ∷ later) =
    subst (λ (l : List Publication). All IsPublication l) is all in
    subst IsPublication (middle earlier x later) (here (length earlier) x (middle_in earlier x later))

pub agrees_after : (m : FileMap) (list : List Publication) → Stands m list → (earlier later : List Publication)
    → list ≡ earlier ++ later → (records : List Record) (files : List SourceFile)
    → AreOf (length earlier) records later → SpellAll m files (sources_of earlier)
    → AllAsExpected m (expected_after files records)
agrees_after m list stands earlier [] is [] files of spelled = tt
agrees_after m list stands earlier [] is (r ∷ records) files of spelled = absurd of
agrees_after m list stands earlier (x ∷ later) is [] files of spelled = absurd of
agrees_after m list stands earlier (x ∷ later) is (r ∷ records) files of spelled =
    let v = stands.versions earlier x later is in
    let one = version_agrees m earlier x r files of.0 (one_of_all list earlier x later is stands.publications.each)
    v.tiles v.touched v.there spelled in
    let next : list ≡ (earlier ++ x ∷ []) ++ later = is ∙ sym (append_assoc earlier (x ∷ []) later) in
    let long : length (earlier ++ x ∷ []) ≡ length earlier + 1 = length-append earlier (x ∷ []) in
    met_append m (expected_of files r) (expected_after (files ++ source_files_of r) records) one.0
    (agrees_after m list stands (earlier ++ x ∷ []) later next records (files ++ source_files_of r)
    (subst (λ (n : ℕ). AreOf n records later) (sym long) of.1) one.1)

-- ---- and back

KeptAfter : FileMap → List Publication → List Publication → Type 0
KeptAfter m earlier [] = Unit {0}
KeptAfter m earlier (x ∷ later) = (IsPublication x × HasVersionFiles m earlier x)
    × KeptAfter m (earlier ++ x ∷ []) later

kept_at : (m : FileMap) (before earlier : List Publication) (x : Publication) (later : List Publication)
    → KeptAfter m before (earlier ++ x ∷ later) → IsPublication x × HasVersionFiles m (before ++ earlier) x
unfolding KeptAfter
kept_at m before [] x later a = subst (λ (l : List Publication). IsPublication x × HasVersionFiles m l x)
    (sym (append-nil before)) a.0
kept_at m before (z ∷ zs) x later a = subst (λ (l : List Publication). IsPublication x × HasVersionFiles m l x)
    (append_assoc before (z ∷ []) zs) (kept_at m (before ++ z ∷ []) zs x later a.1)

record KeptList (m : FileMap) (earlier : List Publication) (records : List Record) : Type 0 where
  pub list : List Publication
  pub of : AreOf (length earlier) records list
  pub kept : KeptAfter m earlier list

kept_after : (m : FileMap) (earlier : List Publication) (records : List Record) (files : List SourceFile)
    → ((k : ℕ) (r : Record) → slice_get records k ≡ Some r → r.version ≡ length earlier + k + 1)
    → SpellAll m files (sources_of earlier) → AllAsExpected m (expected_after files records)
    → KeptList m earlier records
unfolding KeptAfter
kept_after m earlier [] files numbered spelled met = record { list = []; of = tt; kept = tt }
kept_after m earlier (r ∷ records) files numbered spelled met =
    let parts = met_split m (expected_of files r) (expected_after (files ++ source_files_of r) records) met in
    let first : length earlier + 0 + 1 ≡ length earlier + 1 = omega arith in
    let one = version_given m earlier r files (numbered 0 r refl ∙ first) spelled parts.0 in
    let long : length (earlier ++ one.sources ∷ []) ≡ length earlier + 1 = length-append earlier (one.sources ∷ []) in
    let rest = kept_after m (earlier ++ one.sources ∷ []) records (files ++ source_files_of r)
    (λ k q at. numbered (suc k) q at ∙ (let e : length earlier + suc k + 1 ≡ length
    (earlier ++ one.sources ∷ []) + k + 1 = omega (arith, long) in e))
    one.spelled parts.1 in
    record {
      list = one.sources ∷ rest.list;
      of = (one.of, subst (λ (n : ℕ). AreOf n records rest.list) long rest.of);
      kept = ((one.publication, one.has), rest.kept);
    }

pub are_kept : (m : FileMap) (records : List Record) → AreNumbered records → AllAsExpected m (expected_after [] records)
    → HaveTheirFiles m records
are_kept m records numbered met =
    let all = kept_after m [] records [] (λ k r at. numbered k r at ∙ (let e : k + 1 ≡ 0 + k + 1 = omega arith in e)) tt
    met in
    record {
      list = all.list;
      are = to_records records all.list numbered all.of;
      each = λ earlier x later is. kept_at m [] earlier x later
          (subst (λ (l : List Publication). KeptAfter m [] l) is all.kept);
    }
