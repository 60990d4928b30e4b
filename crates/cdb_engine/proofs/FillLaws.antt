-- Publications that are drawn, one after another.
use Rattle.std.proofs.Common.{◌≡◌, ℕ, suc, ◌+◌, ◌*◌, ◌<◌, ℤ, pos, negsuc, ◌+ℤ◌, ◌≤ℤ◌, List, [], ◌∷◌, ◌++◌, length}
use Rattle.std.proofs.Common.{Ok, Err, refl, sym, ◌∙◌, ap, subst, arith}
use Rattle.std.proofs.lemmas.Int.{ints}
use Rattle.cdb_grid.specs.declared.tile.Tile.{Tile}
use Rattle.cdb_source.specs.declared.source.Source.{Source}
use Rattle.cdb_model.specs.Publications.{Publication, sources_of, publication_of, IsEntryCount, Touches}
use Rattle.cdb_model.specs.Stores.{Which, known, any, store_kind, any_store, known_store}
use Rattle.cdb_model.specs.Transitions.{StateIn}
use Rattle.cdb_files.specs.Disk as disk
use Rattle.cdb_model.specs.Maps.{FileMap}
use Rattle.cdb_engine.specs.Held.{Held}
use Rattle.cdb_engine.specs.Stays.{Stays, bare_of}
use Rattle.cdb_engine.specs.Tracks.{Origin, Leads}
use Rattle.cdb_generate.specs.Generator.{passed, state_next, PublicationDrawn}
use Rattle.cdb_generate.specs.Generated.{GeneratedSoFar}
use Rattle.cdb_generate.specs.Sums.{tiles_sum, IsSum}
use Rattle.cdb_generate.proofs.ListLaws.{in_order, passed_more as passed_suc}
use Rattle.cdb_engine.specs.Filling.{IsDrawnFileCount, ComeAfter, AreMade, StopsAfter}
use Rattle.cdb_engine.specs.Populating.{IsAtRest, IsDrawnNext, IsWholePublication, PublishesIn}
use Rattle.cdb_engine.specs.declared.errors.PopulateError.{PopulateError}
use Rattle.cdb_engine.specs.declared.drawn_publication.Published.{Published}

pub passed_more : (n x : ℕ) → passed (n + 1) x ≡ state_next (passed n x)
passed_more n x = let e : n + 1 ≡ suc n = omega arith in ap (λ (m : ℕ). passed m x) e ∙ passed_suc n x

-- before the first
pub none_made : (w : Which) (s : StateIn (store_kind w)) (start : ℕ) (New : StateIn (store_kind w) → Type 0)
    → IsAtRest (store_kind w) s → New s → Leads (AreMade w s start 0 0 (pos 0)) New
none_made w s start New rest now =
    record { next = s; step = record { follow = none w s; at_rest = rest }; now = now }
  where
    none : (w : Which) (s : StateIn (store_kind w)) → ComeAfter w s.list start 0 0 (pos 0) s.list
    none known s = in_order.begins s.list start
    none any s = (omega arith, omega arith, record { drawn = []; are_drawn = tt; number = refl; files_are = refl })

-- the next one, of a store that is known
pub next_sofar : (from : List Publication) (start done files : ℕ) (sum : ℤ) (mid : StateIn known_store)
    → GeneratedSoFar from start (passed done start) done files sum mid.list
    → (next : IsDrawnNext known mid (passed done start))
    → GeneratedSoFar from start (passed (done + 1) start) (done + 1) (files + length next.tiles)
    (sum +ℤ tiles_sum (sources_of (mid.list ++ next.planned ∷ [])) next.tiles) (mid.list ++ next.planned ∷ [])
next_sofar from start done files sum mid sofar next =
    let drawn : PublicationDrawn (passed done start) next.planned =
    subst (λ (p : Publication). PublicationDrawn (passed done start) p) (sym next.starts.0) next.drawn in
    let touched = subst (λ (p : Publication). Touches p next.tiles) (sym next.starts.0) next.touched in
    subst (λ (state : ℕ). GeneratedSoFar from start state (done + 1) (files + length next.tiles)
    (sum +ℤ tiles_sum (sources_of (mid.list ++ next.planned ∷ [])) next.tiles) (mid.list ++ next.planned ∷ []))
    (sym (passed_more done start))
    (in_order.more from start (passed done start) done files sum mid.list next.planned next.tiles sofar drawn touched)

-- the tiles of publications have a sum after any list
some_sum : (earlier list : List Publication) (files : ℕ) → IsEntryCount list files → (sum : ℤ) × IsSum earlier list sum
some_sum earlier [] files count = (pos 0, refl)
some_sum earlier (p ∷ list) files count =
    let rest = some_sum (earlier ++ p ∷ []) list count.1 count.2.1 in (
      tiles_sum (sources_of (earlier ++ p ∷ [])) count.0 +ℤ rest.0,
      (count.0, rest.0, (count.2.0, rest.1, refl)),
    )

-- the tiles of one more that is drawn are counted too
one_more_drawn : (start done files more : ℕ) (sources : List Source) (tiles : List Tile)
    → IsDrawnFileCount start done files → PublicationDrawn (passed done start) sources
    → Touches (publication_of sources) tiles → more ≡ length tiles
    → IsDrawnFileCount start (done + 1) (files + more)
one_more_drawn start done files more sources tiles count drawn touched is =
    let sum = some_sum [] count.drawn files count.files_are in
    let sofar : GeneratedSoFar [] start (passed done start) done files sum.0 count.drawn = record {
      made = count.drawn;
      list_is = refl;
      counted = count.number;
      state_is = refl;
      drawn = count.are_drawn;
      files_are = count.files_are;
      sum_is = sum.1;
    } in
    let next = in_order.more [] start (passed done start) done files sum.0 count.drawn (publication_of sources) tiles
    sofar drawn touched in
    record {
      drawn = next.made;
      are_drawn = next.drawn;
      number = next.counted;
      files_are = subst (λ (n : ℕ). IsEntryCount next.made (files + n)) (sym is) next.files_are;
    }

-- one more is complete
follow_more : (w : Which) (from : (store_kind w).Listed) (start done files : ℕ) (sum : ℤ)
    (mid new : StateIn (store_kind w))
    (published : Published) → ComeAfter w from start done files sum mid.list
    → IsWholePublication w mid (passed done start) published new
    → ComeAfter w from start (done + 1) (files + published.files) (sum +ℤ published.sum) new.list
follow_more known from start done files sum mid new published follow c =
    let sum_is : published.sum ≡ tiles_sum (sources_of (mid.list ++ c.next.planned ∷ [])) c.next.tiles =
    c.sum_is ∙ ap (λ (l : List Publication). tiles_sum (sources_of l) c.next.tiles) c.list_is in
    subst (λ (l : List Publication). GeneratedSoFar from start (passed (done + 1) start) (done + 1)
    (files + published.files)
    (sum +ℤ published.sum) l) (sym c.list_is)
    (subst (λ (z : ℤ). GeneratedSoFar from start (passed (done + 1) start) (done + 1) (files + published.files)
    (sum +ℤ z) (mid.list ++ c.next.planned ∷ [])) (sym sum_is)
    (subst (λ (n : ℕ). GeneratedSoFar from start (passed (done + 1) start) (done + 1) (files + n)
    (sum +ℤ tiles_sum (sources_of (mid.list ++ c.next.planned ∷ [])) c.next.tiles) (mid.list ++ c.next.planned ∷ []))
    (sym c.files_are) (next_sofar from start done files sum mid follow c.next)))
follow_more any from start done files sum mid new published follow c =
    let list_is : new.list ≡ any_store.add mid.list c.next.planned = c.list_is in
    let versions : new.list.versions ≡ mid.list.versions + 1 = ap (λ (l : any_store.Listed). l.versions) list_is in
    let entries : new.list.entries ≡ mid.list.entries + c.next.planned =
    ap (λ (l : any_store.Listed). l.entries) list_is in
    let planned : c.next.planned ≡ length c.next.tiles = c.next.starts.0 in
    let files_are : published.files ≡ length c.next.tiles = c.files_are in
    let before : mid.list.versions ≡ from.versions + done = follow.0 in
    let counted : mid.list.entries ≡ from.entries + files = follow.1 in (
      omega (arith, versions, before),
      omega (arith, entries, planned, files_are, counted),
      one_more_drawn start done files published.files c.next.sources c.next.tiles follow.2 c.next.drawn c.next.touched
          files_are,
    )

module _ (w : Which) (s : StateIn (store_kind w)) (start done files : ℕ) (sum : ℤ)
    (Old New : StateIn (store_kind w) → Type 0) (made : Leads (AreMade w s start done files sum) Old) where
  pub one_more_made : (published : Published)
      → Leads (PublishesIn w made.next (passed done start) (Ok published)) New
      → Leads (AreMade w s start (done + 1) (files + published.files) (sum +ℤ published.sum)) New
  one_more_made published led = record {
    next = led.next;
    step = record {
      follow = follow_more w s.list start done files sum made.next led.next published made.step.follow led.step;
      at_rest = led.step.at_rest;
    };
    now = led.now;
  }

  pub stopped_after : (count : ℕ) (error : PopulateError) → done < count
      → Leads (PublishesIn w made.next (passed done start) (Err error)) New
      → Leads (StopsAfter w s start count error) New
  stopped_after count error fewer led = record {
    next = led.next;
    step = record {
      done = done;
      fewer = fewer;
      files = files;
      sum = sum;
      mid = made.next;
      made = made.step;
      stops = led.step;
    };
    now = led.now;
  }

-- so an engine that made them has nothing pending, going or open
pub rests_by : {D : Type 0} (tells : Type 0) (clock count : D → ℕ) (since : D → ℕ → FileMap → Type 0)
    (state : D → disk.State) (origin : Origin) (d : D) (held : Held) (s : StateIn any_store) (start done files : ℕ)
    (sum : ℤ)
    → Leads (AreMade any s start done files sum) (Stays tells clock count since state origin d held any)
    → IsAtRest any_store (bare_of held)
rests_by tells clock count since state origin d held s start done files sum made =
    subst (λ (t : StateIn any_store). IsAtRest any_store t) made.now.is made.step.at_rest

pub least_more : (sum more : ℤ) (i : ℕ) → pos 0 ≤ℤ (sum +ℤ pos (562949953421312 * i))
    → negsuc 562949953421311 ≤ℤ more → pos 0 ≤ℤ ((sum +ℤ more) +ℤ pos (562949953421312 * (i + 1)))
least_more sum more i a b = omega (arith, ints)

pub most_more : (sum more : ℤ) (i : ℕ) → sum ≤ℤ pos (562949953421312 * i) → more ≤ℤ pos 562949953421312
    → (sum +ℤ more) ≤ℤ pos (562949953421312 * (i + 1))
most_more sum more i a b = omega (arith, ints)
