-- Which field of the bytes of a record is the first bad one.
use Rattle.std.proofs.Common.{◌≡◌, ℕ, ◌+◌, ◌*◌, ◌<◌, pos, negsuc, List, [], ◌∷◌, ◌++◌, length, take, drop, Result, Ok, Err, refl, sym, ap, subst, ◌∙◌, append_assoc, arith}
use Rattle.std.specs.Prelude.{IfOk, IfErr}
use Rattle.std.proofs.Props.{props}
use Rattle.std.proofs.lemmas.List.{length-append, append-nil}
use Rattle.std.proofs.lemmas.Grind.{flat_map-append}
use Rattle.cdb_grid.specs.declared.family.Family.TheVariants.{Elev, Low, High}
use Rattle.cdb_grid.specs.declared.tile.Tile.{Tile}
use Rattle.cdb_source.specs.declared.head.SourceHead.{SourceHead}
use Rattle.cdb_manifest.specs.declared.record_.Record.{Record}
use Rattle.cdb_manifest.specs.declared.record_error.RecordError.{RecordError}
use Rattle.cdb_manifest.specs.declared.record_error.RecordError.TheVariants.{Memory, Bad}
use Rattle.cdb_model.specs.Records.{record_text, record_front_text, heads_text, entries_text, entry_text}
use Rattle.cdb_manifest.specs.Records.{record_bytes}
use Rattle.cdb_manifest.specs.Entries.{Ascending, IsRecord}
use Rattle.cdb_manifest.specs.Decoding.{to_head, to_entry, FirstBadField, RecordCause, GivesRecord}
use Rattle.cdb_manifest.specs.inside.Decoding.{IsFront, TellsHead, TellsEntry}
use Rattle.cdb_manifest.proofs.PlaceLaws.{length-heads_text, length-entries_text, same_number, all_heads, all_entries, no_bad}

-- the tile of N46E007 at level -10
pub record IsWorked (t : Tile) : Type 0 where
  pub level : t.level.number ≡ negsuc 9
  pub lat : t.cell.lat ≡ pos 46
  pub lon : t.cell.lon ≡ pos 7
  pub up : t.up ≡ 0
  pub right : t.right ≡ 0

pub read_more : (bytes rest after : List ℕ) (tiles : List Tile) (tile : Tile) → bytes ≡ entries_text tiles ++ rest
    → rest ≡ entry_text tile ++ after → bytes ≡ entries_text (tiles ++ tile ∷ []) ++ after
read_more bytes rest after tiles tile so_far here =
    let whole : entries_text (tiles ++ tile ∷ []) ≡ entries_text tiles ++ entries_text (tile ∷ []) =
    flat_map-append entry_text tiles (tile ∷ []) in
    let one : entries_text (tile ∷ []) ≡ entry_text tile = append-nil (entry_text tile) in
    so_far ∙ ap (λ (r : List ℕ). entries_text tiles ++ r) here
    ∙ sym (append_assoc (entries_text tiles) (entry_text tile) after) ∙ rw (whole, one) refl

pub told_head : (bytes rest : List ℕ) (v s t : ℕ) → IsFront v s t → bytes ≡ record_front_text v s t ++ rest
    → (e : RecordError) → TellsHead rest s e → RecordCause bytes e
told_head bytes rest v s t form begins Memory told = tt
told_head bytes rest v s t form begins (Bad place) told = record {
  fields = to_head v s t told.heads;
  rest = told.rest;
  of_form = (form.a_version, form.a_count, form.tiles_most, told.few);
  begins = begins ∙ ap (λ (r : List ℕ). record_front_text v s t ++ r) told.begins
      ∙ sym (append_assoc (record_front_text v s t) (heads_text told.heads) told.rest);
  never = λ next after is e. told.never is.0 after (e ∙ ap (λ (text : List ℕ). text ++ after) is.1);
  unfinished = λ whole. whole;
  place_is = told.place_is ∙ omega (arith, length-heads_text told.heads);
}

pub to_entries : (bytes rest after : List ℕ) (v s t : ℕ) (heads : List SourceHead)
    → bytes ≡ record_front_text v s t ++ rest → rest ≡ heads_text heads ++ after → length heads ≡ s
    → bytes ≡ (record_front_text v (length heads) t ++ heads_text heads) ++ after
to_entries bytes rest after v s t heads begins read count =
    let whole : bytes ≡ (record_front_text v s t ++ heads_text heads) ++ after = begins
    ∙ ap (λ (r : List ℕ). record_front_text v s t ++ r) read
    ∙ sym (append_assoc (record_front_text v s t) (heads_text heads) after) in
    subst (λ (n : ℕ). bytes ≡ (record_front_text v n t ++ heads_text heads) ++ after) (sym count) whole

pub told_entry : (bytes rest : List ℕ) (v s t : ℕ) (heads : List SourceHead) → IsFront v s t
    → bytes ≡ (record_front_text v (length heads) t ++ heads_text heads) ++ rest → length heads ≡ s → (e : RecordError)
    → TellsEntry rest t (20 + 44 * s) e → RecordCause bytes e
told_entry bytes rest v s t heads form begins count Memory told = tt
told_entry bytes rest v s t heads form begins count (Bad place) told = record {
  fields = to_entry v t heads told.tiles;
  rest = told.rest;
  of_form = (
    form.a_version,
    (omega (arith, form.a_count.0), omega (arith, form.a_count.1)),
    form.tiles_most,
    omega (arith, told.few),
    told.ordered,
  );
  begins = begins ∙ ap (λ (r : List ℕ). (record_front_text v (length heads) t ++ heads_text heads) ++ r) told.begins
      ∙ sym (append_assoc (record_front_text v (length heads) t ++ heads_text heads)
      (entries_text told.tiles) told.rest);
  never = λ next after is e. told.never is.1.0 after is.1.1.0 (e ∙ ap (λ (text : List ℕ). text ++ after) is.1.1.1);
  unfinished = λ whole. let few = told.few in omega (arith, whole.0);
  place_is = told.place_is
      ∙ omega (
        arith,
        count,
        length-append (heads_text heads) (entries_text told.tiles),
        length-heads_text heads,
        length-entries_text told.tiles,
      );
}

pub left_over : (bytes rest after : List ℕ) (v s t : ℕ) (heads : List SourceHead) (tiles : List Tile) → IsFront v s t
    → bytes ≡ (record_front_text v (length heads) t ++ heads_text heads) ++ rest → length heads ≡ s
    → rest ≡ entries_text tiles ++ after → Ascending tiles → length tiles ≡ t → 0 < length after
    → FirstBadField bytes (20 + 44 * s + 16 * t)
left_over bytes rest after v s t heads tiles form begins count read ordered tile_count some = record {
  fields = to_entry v t heads tiles;
  rest = after;
  of_form = (
    form.a_version,
    (omega (arith, form.a_count.0), omega (arith, form.a_count.1)),
    form.tiles_most,
    omega arith,
    ordered,
  );
  begins = begins ∙ ap (λ (r : List ℕ). (record_front_text v (length heads) t ++ heads_text heads) ++ r) read
      ∙ sym (append_assoc (record_front_text v (length heads) t ++ heads_text heads) (entries_text tiles) after);
  never = λ next more is e. absurd (omega (arith, is.0));
  unfinished = λ whole. let empty : length after ≡ 0 = ap length whole.1 in omega arith;
  place_is =
      omega (
        arith,
        count,
        tile_count,
        length-append (heads_text heads) (entries_text tiles),
        length-heads_text heads,
        length-entries_text tiles,
      );
}

-- ---- records by their plain contents

record_from : (v : ℕ) (hs : List SourceHead) (ts : List Tile) → IsRecord v hs ts → Record
record_from v hs ts f = record { version = v; heads = hs; tiles = ts; in_range = f }

record_facts : (v : ℕ) (hs : List SourceHead) (ts : List Tile) → IsProp (IsRecord v hs ts)
record_facts v hs ts = hlevel props

same_record : (a b : Record) → a.version ≡ b.version → a.heads ≡ b.heads → a.tiles ≡ b.tiles → a ≡ b
unfolding record_from
same_record a b ev eh et =
    let P : ℕ → List SourceHead → List Tile → Type 0 = λ v hs ts. (f : IsRecord v hs ts) → a ≡ record_from v hs ts f in
    let p0 : P a.version a.heads a.tiles = λ f. ap (record_from a.version a.heads a.tiles)
    (record_facts a.version a.heads a.tiles a.in_range f) in
    let p1 : P b.version a.heads a.tiles = subst (λ v. P v a.heads a.tiles) ev p0 in
    let p2 : P b.version b.heads a.tiles = subst (λ hs. P b.version hs a.tiles) eh p1 in
    subst (λ ts. P b.version b.heads ts) et p2 b.in_range

pub one_record : (a b : Record) → record_bytes a ≡ record_bytes b → a ≡ b
one_record a b e =
    let av = a.in_range.version_most in
    let bv = b.in_range.version_most in
    let ah = a.in_range.heads_most in
    let bh = b.in_range.heads_most in
    let version : a.version ≡ b.version = same_number a.version b.version (omega arith) (omega arith)
    (ap (λ (bs : List ℕ). take 4 (drop 8 bs)) e) in
    let heads : length a.heads ≡ length b.heads = same_number (length a.heads) (length b.heads) (omega arith)
    (omega arith) (ap (λ (bs : List ℕ). take 4 (drop 12 bs)) e) in
    let tiles : length a.tiles ≡ length b.tiles =
    same_number (length a.tiles) (length b.tiles)
    a.in_range.tiles_most b.in_range.tiles_most (ap (λ (bs : List ℕ). take 4 (drop 16 bs)) e) in
    let both = all_heads b.heads a.heads (entries_text a.tiles) (entries_text b.tiles) heads (ap (drop 20) e) in
    same_record a b version both.0 (all_entries b.tiles a.tiles tiles both.1)

pub gives : (bytes : List ℕ) (r : Result Record RecordError) → IfOk r (λ item. bytes ≡ record_bytes item)
    → IfErr r (RecordCause bytes) → (item : Record) → bytes ≡ record_bytes item → GivesRecord item r
gives bytes (Ok given) spelled told item e = one_record given item (sym spelled ∙ e)
gives bytes (Err Memory) spelled told item e = tt
gives bytes (Err (Bad place)) spelled told item e =
    no_bad item.version item.heads item.tiles place
    item.in_range (subst (λ (bs : List ℕ). FirstBadField bs place) e told)

-- ---- the record of a publication

pub published : (version : ℕ) (heads : List SourceHead) (tiles : List Tile) → IsRecord version heads tiles
    → (item : Record) × (record_bytes item ≡ record_text version heads tiles)
unfolding record_from
published version heads tiles is = (record_from version heads tiles is, refl)

-- the record of version 1 with one head, of one post at N46E007, and its three tiles, after the head
pub worked_entries : (a b c : Tile) → a.family ≡ Elev → b.family ≡ Low → c.family ≡ High → IsWorked a
    → IsWorked b → IsWorked c
    → entries_text (a ∷ b ∷ c ∷ []) ≡
    0x01 ∷ 0xF6 ∷ 0x2E ∷ 0x00 ∷ 0x00 ∷ 0x07 ∷ 0x00 ∷ 0x00 ∷ 0x00 ∷ 0x00 ∷ 0x00 ∷ 0x00 ∷ 0x00 ∷ 0x00 ∷ 0x00 ∷ 0x00 ∷
    0x02 ∷ 0xF6 ∷ 0x2E ∷ 0x00 ∷ 0x00 ∷ 0x07 ∷ 0x00 ∷ 0x00 ∷ 0x00 ∷ 0x00 ∷ 0x00 ∷ 0x00 ∷ 0x00 ∷ 0x00 ∷ 0x00 ∷ 0x00 ∷
    0x03 ∷ 0xF6 ∷ 0x2E ∷ 0x00 ∷ 0x00 ∷ 0x07 ∷ 0x00 ∷ 0x00 ∷ 0x00 ∷ 0x00 ∷ 0x00 ∷ 0x00 ∷ 0x00 ∷ 0x00 ∷ 0x00 ∷ 0x00 ∷ []
unfolding entry_text
worked_entries a b c fa fb fc wa wb wc =
    simp (
      fa,
      fb,
      fc,
      wa.level,
      wa.lat,
      wa.lon,
      wa.up,
      wa.right,
      wb.level,
      wb.lat,
      wb.lon,
      wb.up,
      wb.right,
      wc.level,
      wc.lat,
      wc.lon,
      wc.up,
      wc.right,
    ) refl

pub worked_front : record_front_text 1 1 3 ≡
    0x43 ∷ 0x44 ∷ 0x42 ∷ 0x52 ∷ 0x45 ∷ 0x43 ∷ 0x31 ∷ 0x0A ∷
    0x00 ∷ 0x00 ∷ 0x00 ∷ 0x01 ∷ 0x00 ∷ 0x00 ∷ 0x00 ∷ 0x01 ∷ 0x00 ∷ 0x00 ∷ 0x00 ∷ 0x03 ∷ []
worked_front = refl
