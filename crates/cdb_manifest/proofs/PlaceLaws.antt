-- The first field of bytes that isn't of the form begins at one place, and the bytes of a record have no such field: of
-- two lists of fields with which the same bytes begin, the longer one goes on with a next field of the shorter one.
use Rattle.std.proofs.Common.{◌≡◌, ℕ, ◌+◌, ◌*◌, ◌<◌, ◌≤◌, List, [], ◌∷◌, ◌++◌, length, take, drop, inl, inr, refl, sym, ap, subst, ◌∙◌, append_assoc, arith}
use Rattle.std.specs.Int.{w32, from_be_bytes}
use Rattle.std.proofs.lemmas.Bool.{cases_lt, cases_order}
use Rattle.std.proofs.lemmas.List.{length-append, append-nil, nil_from_length}
use Rattle.std.proofs.lemmas.Nat.{from_be_bytes-to_be_bytes_4}
use Rattle.cdb_grid.specs.declared.tile.Tile.{Tile}
use Rattle.cdb_source.specs.declared.head.SourceHead.{SourceHead}
use Rattle.cdb_source.specs.Texts.{count_bytes, head_text}
use Rattle.cdb_model.specs.Records.{record_first_bytes, record_text, heads_text, entries_text, entry_text}
use Rattle.cdb_manifest.specs.Entries.{Ascending, IsRecord}
use Rattle.cdb_manifest.specs.Decoding.{Fields, no_field, to_first, to_version, to_sources, to_head, to_entry, fields_text, AreOfForm, IsNumberField, IsNextField, IsWholeRecord}
use Rattle.cdb_manifest.specs.Places.{OneBadField, RecordsHaveNoBadPlace}
use Rattle.cdb_manifest.proofs.ListLaws.{items_begin}
use Rattle.cdb_manifest.proofs.EntryLaws.{length-entry_text, entry_cancel}
use Rattle.cdb_manifest.proofs.FieldLaws.{length-head_text, head_cancel, ascending_front}

pub length-heads_text : (heads : List SourceHead) → length (heads_text heads) ≡ 44 * length heads
length-heads_text [] = refl
length-heads_text (h ∷ hs) =
    omega (arith, length-append (head_text h) (heads_text hs), length-head_text h, length-heads_text hs)

pub length-entries_text : (tiles : List Tile) → length (entries_text tiles) ≡ 16 * length tiles
length-entries_text [] = refl
length-entries_text (t ∷ ts) =
    omega (arith, length-append (entry_text t) (entries_text ts), length-entry_text t, length-entries_text ts)

-- the length of the fields after the three numbers
length-fields : (heads : List SourceHead) (tiles : List Tile) → length (heads_text heads ++ entries_text tiles)
    ≡ 44 * length heads + 16 * length tiles
length-fields heads tiles =
    omega (
      arith,
      length-append (heads_text heads) (entries_text tiles),
      length-heads_text heads,
      length-entries_text tiles,
    )

-- ---- lists of fields with which the same bytes begin

pub same_number : (a b : ℕ) → a ≤ 16384 → b ≤ 16384 → count_bytes a ≡ count_bytes b → a ≡ b
same_number a b small few e = sym (from_be_bytes-to_be_bytes_4 a (omega arith)) ∙ ap (from_be_bytes w32) e
    ∙ from_be_bytes-to_be_bytes_4 b (omega arith)

no_more : {X : Type 0} (xs zs : List X) → length (xs ++ zs) ≡ length xs → zs ≡ []
no_more xs zs e = nil_from_length zs (omega (arith, length-append xs zs))

-- after some heads of a longer list comes the next one
next_head : (heads hs : List SourceHead) (rest tail : List ℕ) → length hs < length heads → heads_text hs ++ rest
    ≡ heads_text heads ++ tail → (head : SourceHead) × ((after : List ℕ) × (rest ≡ head_text head ++ after))
next_head heads hs rest tail few e =
    from heads hs rest tail few (items_begin head_text head_cancel hs heads rest tail (omega arith) e)
  where
    from : (heads hs : List SourceHead) (rest tail : List ℕ) → length hs < length heads → (zs : List SourceHead)
        × ((heads ≡ hs ++ zs) × (rest ≡ heads_text zs ++ tail)) → (head : SourceHead)
        × ((after : List ℕ) × (rest ≡ head_text head ++ after))
    from heads hs rest tail few ([], (is, e)) = absurd (omega (arith, ap length is, length-append hs []))
    from heads hs rest tail few (z ∷ zs, (is, e)) =
        (z, (heads_text zs ++ tail, e ∙ append_assoc (head_text z) (heads_text zs) tail))

-- what follows all heads of a record
pub all_heads : (heads hs : List SourceHead) (rest tail : List ℕ) → length hs ≡ length heads → heads_text hs ++ rest
    ≡ heads_text heads ++ tail → (hs ≡ heads) × (rest ≡ tail)
all_heads heads hs rest tail same e =
    let b = items_begin head_text head_cancel hs heads rest tail (omega arith) e in
    let nothing : b.0 ≡ [] = no_more hs b.0 (ap length (sym b.1.0) ∙ sym same) in (
      sym (b.1.0 ∙ ap (λ (zs : List SourceHead). hs ++ zs) nothing ∙ append-nil hs),
      b.1.1
          ∙ ap (λ (zs : List SourceHead). heads_text zs ++ tail) nothing,
    )

pub all_entries : (tiles ts : List Tile) → length ts ≡ length tiles → entries_text ts ≡ entries_text tiles → ts ≡ tiles
all_entries tiles ts same e =
    let b = items_begin entry_text entry_cancel ts tiles [] [] (omega arith)
    (append-nil (entries_text ts) ∙ e ∙ sym (append-nil (entries_text tiles))) in
    let nothing : b.0 ≡ [] = no_more ts b.0 (ap length (sym b.1.0) ∙ sym same) in
    sym (b.1.0 ∙ ap (λ (zs : List Tile). ts ++ zs) nothing ∙ append-nil ts)

-- after some tiles of a longer list comes the next one
next_entry : (tiles ts : List Tile) (rest tail : List ℕ) → Ascending tiles → length ts < length tiles
    → entries_text ts ++ rest ≡ entries_text tiles ++ tail
    → (tile : Tile) × ((after : List ℕ) × (Ascending (ts ++ tile ∷ []) × (rest ≡ entry_text tile ++ after)))
next_entry tiles ts rest tail asc few e =
    from tiles ts rest tail asc few (items_begin entry_text entry_cancel ts tiles rest tail (omega arith) e)
  where
    from : (tiles ts : List Tile) (rest tail : List ℕ) → Ascending tiles → length ts < length tiles → (zs : List Tile)
        × ((tiles ≡ ts ++ zs) × (rest ≡ entries_text zs ++ tail))
        → (tile : Tile) × ((after : List ℕ) × (Ascending (ts ++ tile ∷ []) × (rest ≡ entry_text tile ++ after)))
    from tiles ts rest tail asc few ([], (is, e)) = absurd (omega (arith, ap length is, length-append ts []))
    from tiles ts rest tail asc few (z ∷ zs, (is, e)) =
        let split : tiles ≡ (ts ++ z ∷ []) ++ zs = is ∙ sym (append_assoc ts (z ∷ []) zs) in
        let front : Ascending (ts ++ z ∷ []) =
        ascending_front (ts ++ z ∷ []) zs (subst (λ (xs : List Tile). Ascending xs) split asc) in
        (z, (entries_text zs ++ tail, (front, e ∙ append_assoc (entry_text z) (entries_text zs) tail)))

-- the bytes go on with a next field
abbrev Follows : Fields → List ℕ → Type 0
Follows fields rest = (next : List ℕ) × ((after : List ℕ) × (IsNextField fields next × (rest ≡ next ++ after)))

-- a number of the form is a next field of four bytes
number : (least most n : ℕ) (rest after : List ℕ) → least ≤ n → n ≤ most → rest ≡ count_bytes n ++ after
    → (next : List ℕ) × ((after : List ℕ) × (IsNumberField least most next × (rest ≡ next ++ after)))
number least most n rest after enough few e = (count_bytes n, (after, ((n, (enough, few, refl)), e)))

-- of two lists of fields with which the same bytes begin, the longer one goes on with a next field of the shorter one
next_field : (shorter longer : Fields) (rest tail : List ℕ) → AreOfForm shorter → AreOfForm longer
    → fields_text shorter ++ rest ≡ fields_text longer ++ tail
    → length (fields_text shorter) < length (fields_text longer) → Follows shorter rest
next_field no_field no_field rest tail f g e lt = absurd (omega arith)
next_field no_field longer rest tail f g e lt = (record_first_bytes, (drop 8 (fields_text longer ++ tail), (refl, e)))
next_field to_first (to_version version) rest tail f g e lt = number 1 4096 version rest _ g.0 g.1 (ap (drop 8) e)
next_field to_first (to_sources version sources) rest tail f g e lt =
    number 1 4096 version rest _ g.0.0 g.0.1 (ap (drop 8) e)
next_field to_first (to_head version sources tiles heads) rest tail f g e lt =
    number 1 4096 version rest _ g.0.0 g.0.1 (ap (drop 8) e)
next_field to_first (to_entry version tiles heads entries) rest tail f g e lt =
    number 1 4096 version rest _ g.0.0 g.0.1 (ap (drop 8) e)
next_field to_first _ rest tail f g e lt = absurd (omega arith)
next_field (to_version v) (to_sources version sources) rest tail f g e lt =
    number 1 64 sources rest _ g.1.0 g.1.1 (ap (drop 12) e)
next_field (to_version v) (to_head version sources tiles heads) rest tail f g e lt =
    number 1 64 sources rest _ g.1.0 g.1.1 (ap (drop 12) e)
next_field (to_version v) (to_entry version tiles heads entries) rest tail f g e lt =
    number 1 64 (length heads) rest _ g.1.0 g.1.1 (ap (drop 12) e)
next_field (to_version v) _ rest tail f g e lt = absurd (omega arith)
next_field (to_sources v s) (to_head version sources tiles heads) rest tail f g e lt =
    number 0 16384 tiles rest _ (omega arith) g.2 (ap (drop 16) e)
next_field (to_sources v s) (to_entry version tiles heads entries) rest tail f g e lt =
    number 0 16384 tiles rest _ (omega arith) g.2 (ap (drop 16) e)
next_field (to_sources v s) _ rest tail f g e lt = absurd (omega arith)
next_field (to_head v s t hs) (to_head version sources tiles heads) rest tail f g e lt =
    let next = next_head heads hs rest tail (omega (arith, lt, length-heads_text hs, length-heads_text heads))
    (ap (drop 20) e) in
    (head_text next.0, (next.1.0, ((next.0, refl), next.1.1)))
next_field (to_head v s t hs) (to_entry version tiles heads entries) rest tail f g e lt =
    let count : s ≡ length heads = same_number s (length heads) (omega (arith, f.1.1)) (omega (arith, g.1.1))
    (ap (λ (bytes : List ℕ). take 4 (drop 12 bytes)) e) in
    let next = next_head heads hs rest (entries_text entries ++ tail) (omega (arith, f.3))
    (ap (drop 20) e ∙ append_assoc (heads_text heads) (entries_text entries) tail) in
    (head_text next.0, (next.1.0, ((next.0, refl), next.1.1)))
next_field (to_head v s t hs) _ rest tail f g e lt = absurd (omega arith)
next_field (to_entry v t hs es) (to_head version sources tiles heads) rest tail f g e lt =
    let count : length hs ≡ sources = same_number (length hs) sources (omega (arith, f.1.1)) (omega (arith, g.1.1))
    (ap (λ (bytes : List ℕ). take 4 (drop 12 bytes)) e) in
    absurd (omega (arith, lt, g.3, length-fields hs es, length-heads_text heads))
next_field (to_entry v t hs es) (to_entry version tiles heads entries) rest tail f g e lt =
    let count : length hs ≡ length heads = same_number (length hs) (length heads) (omega (arith, f.1.1))
    (omega (arith, g.1.1)) (ap (λ (bytes : List ℕ). take 4 (drop 12 bytes)) e) in
    let tile_count : t ≡ tiles = same_number t tiles f.2 g.2 (ap (λ (bytes : List ℕ). take 4 (drop 16 bytes)) e) in
    let few : length es < length entries = omega (arith, lt, length-fields hs es, length-fields heads entries) in
    let regrouped : heads_text hs ++ (entries_text es ++ rest) ≡ heads_text heads ++ (entries_text entries ++ tail) =
    sym (append_assoc (heads_text hs) (entries_text es) rest) ∙ ap (drop 20) e
    ∙ append_assoc (heads_text heads) (entries_text entries) tail in
    let next = next_entry entries es rest tail g.4 few
    (all_heads heads hs (entries_text es ++ rest) (entries_text entries ++ tail) count regrouped).1 in
    (entry_text next.0, (next.1.0, ((omega (arith, g.3), (next.0, (next.1.1.0, refl))), next.1.1.1)))
next_field (to_entry v t hs es) _ rest tail f g e lt = absurd (omega arith)

-- fields with which the bytes of a record begin and that are at least as long are all of them
at_end : (version : ℕ) (heads : List SourceHead) (tiles : List Tile) (fields : Fields) (rest : List ℕ)
    → IsRecord version heads tiles → AreOfForm fields → fields_text fields ++ rest ≡ record_text version heads tiles
    → length (record_text version heads tiles) ≤ length (fields_text fields) → IsWholeRecord fields rest
at_end version heads tiles (to_head v s t hs) rest r f e le =
    let most = r.heads_most in
    let count : s ≡ length heads = same_number s (length heads) (omega (arith, f.1.1)) (omega arith)
    (ap (λ (bytes : List ℕ). take 4 (drop 12 bytes)) e) in
    absurd (omega (arith, le, f.3, length-heads_text hs, length-fields heads tiles))
at_end version heads tiles (to_entry v t hs es) rest r f e le =
    let most = r.heads_most in
    let tiles_most = r.tiles_most in
    let count : length hs ≡ length heads = same_number (length hs) (length heads) (omega (arith, f.1.1)) (omega arith)
    (ap (λ (bytes : List ℕ). take 4 (drop 12 bytes)) e) in
    let tile_count : t ≡ length tiles = same_number t (length tiles) f.2 tiles_most
    (ap (λ (bytes : List ℕ). take 4 (drop 16 bytes)) e) in (
      omega (arith, le, f.3, length-fields hs es, length-fields heads tiles),
      nil_from_length rest (omega (arith, le, ap length e, length-append (fields_text (to_entry v t hs es)) rest)),
    )
at_end version heads tiles _ rest r f e le = absurd (omega arith)

pub no_bad : RecordsHaveNoBadPlace
no_bad version heads tiles place r bad =
    elim (cases_lt (length (fields_text bad.fields)) (length (record_text version heads tiles))) [
      | inl lt ↦
          let all = to_entry version (length tiles) heads tiles in
          let form : AreOfForm all =
          ((r.version_least, r.version_most), (r.heads_least, r.heads_most), r.tiles_most, omega arith, r.ordered) in
          let n = next_field bad.fields all bad.rest [] bad.of_form form
          (sym bad.begins ∙ sym (append-nil (record_text version heads tiles))) lt in
          bad.never n.0 n.1.0 n.1.1.0 n.1.1.1
      | inr le ↦ bad.unfinished (at_end version heads tiles bad.fields bad.rest r bad.of_form (sym bad.begins) le)
    ]

pub one_place : OneBadField
one_place bytes p q a b = elim (cases_order (length (fields_text a.fields)) (length (fields_text b.fields))) [
  | inl same ↦ a.place_is ∙ same ∙ sym b.place_is
  | inr (inl lt) ↦ let n = next_field a.fields b.fields a.rest b.rest a.of_form b.of_form (sym a.begins ∙ b.begins)
      lt in absurd (a.never n.0 n.1.0 n.1.1.0 n.1.1.1)
  | inr (inr lt) ↦ let n = next_field b.fields a.fields b.rest a.rest b.of_form a.of_form (sym b.begins ∙ a.begins)
      lt in absurd (b.never n.0 n.1.0 n.1.1.0 n.1.1.1)
]
