-- One publication that is drawn, from its draws to its sum.
use Rattle.std.proofs.Common.{◌≡◌, ℕ, suc, ℤ, List, [], ◌∷◌, ◌++◌, length, get_or, None, Some, Ok, Err, refl}
use Rattle.std.proofs.Common.{sym, ◌∙◌, ap, subst}
use Rattle.std.specs.Prelude.{All}
use Rattle.std.proofs.lemmas.Grind.{flat_map-append}
use Rattle.std.proofs.lemmas.List.{append-nil}
use Rattle.std.proofs.lemmas.List.Elements.{Contains-get_or}
use Rattle.cdb_grid.specs.declared.tile.Tile.{Tile}
use Rattle.cdb_source.specs.Reached.{Reached, IsTouched}
use Rattle.cdb_source.specs.declared.source.Source.{Source}
use Rattle.cdb_model.specs.KnownStore.{KnownState}
use Rattle.cdb_model.specs.Publications.{Publication, sources_in, sources_of, heads_of}
use Rattle.cdb_model.specs.Stores.{Which, known, any, store_kind}
use Rattle.cdb_model.specs.Transitions.{StateIn}
use Rattle.cdb_engine.specs.Held.{Held}
use Rattle.cdb_model.specs.Maps.{FileMap}
use Rattle.cdb_files.specs.Disk as disk
use Rattle.cdb_engine.specs.Stays.{Stays, Shows, ChangesAlike}
use Rattle.cdb_engine.specs.Tracks.{Origin, Leads}
use Rattle.cdb_engine.proofs.StayLaws.{stays_shows, stays_alike}
use Rattle.cdb_generate.specs.Generator.{PublicationDrawn}
use Rattle.cdb_generate.specs.Sums.{tiles_sum}
use Rattle.cdb_engine.specs.Populating.{IsAtRest, IsDrawnNext, IsSumAt, CameTo, not_begun, given_up, complete}
use Rattle.cdb_engine.specs.Populating.{PublishesIn}
use Rattle.cdb_engine.specs.inside.Populating.{IsGoingOf, BeginsDrawn, FinishesSteps, LeadsAfter, Sums}
use Rattle.cdb_engine.specs.declared.errors.PopulateError.{PopulateError}
use Rattle.cdb_engine.specs.declared.errors.PopulateError.TheVariants.{Memory, Fault, Entries, Versions, Damaged}
use Rattle.cdb_engine.specs.declared.drawn_publication.Published.{Published}

-- sources that were handed to an engine changed nothing but what is pending
pub pending_only : (old new : Held) (w : Which) (s : StateIn (store_kind w)) → Shows old w s
    → new ≡ record old { pending = new.pending }
    → ChangesAlike old new w s (record s { pending = new.pending })
pending_only old new w s shows e = record {
  engine = e ∙ ap (λ (h : Held). record old {
    pending = new.pending;
    sessions = h.sessions;
    opened =
        h.opened;
  }) (sym e);
  state = (λ i. record s { pending = new.pending; sessions = sym shows.sessions i; opened = sym shows.opened i })
      ∙ ap (λ (h : Held). record s { pending = new.pending; sessions = h.sessions; opened = h.opened }) (sym e);
}

pub all_pending : (old new : Held) (w : Which) (s : StateIn (store_kind w)) (sources : List Source) → Shows old w s
    → s.pending ≡ []
    → new ≡ record old { pending = old.pending ++ sources }
    → record s { pending = new.pending } ≡ record s { pending = sources }
all_pending old new w s sources shows none e =
    ap (λ (p : List Source). record s { pending = p })
    (ap (λ (h : Held). h.pending) e ∙ ap (λ (p : List Source). p ++ sources) (shows.pending ∙ none))

-- so an engine stays with a state that has them pending
pub pending_here : {D : Type 0} (tells : Type 0) (clock count : D → ℕ) (since : D → ℕ → FileMap
    → Type 0) (state : D → disk.State) (origin : Origin) (d : D)
    (old new : Held) (w : Which) (s : StateIn (store_kind w)) (sources : List Source)
    → Stays tells clock count since state origin d old w s → s.pending ≡ [] → new ≡ record old { pending = new.pending }
    → new ≡ record old { pending = old.pending ++ sources }
    → Stays tells clock count since state origin d new w (record s { pending = sources })
pending_here tells clock count since state origin d old new w s sources stays none same next =
    let shows = stays_shows tells clock count since state origin d old w s stays in
    subst (λ (t : StateIn (store_kind w)). Stays tells clock count since state origin d new w t)
    (all_pending old new w s sources shows none next)
    (stays_alike tells clock count since state origin d old new w s (record s {
      pending =
          new.pending;
    }) stays (pending_only old new w s shows same))

-- ---- a tile that the newest publication touches is reached by all sources

later_reached : (before sources : List Source) (t : Tile) → Reached (heads_of sources) t
    → Reached (heads_of (before ++ sources)) t
later_reached [] sources t r = r
later_reached (x ∷ before) sources t r =
    let s = later_reached before sources t r in record {
      number = suc s.number;
      head = s.head;
      there =
          s.there;
      reaches = s.reaches;
    }

newest_sources : (list : List Publication) (p : Publication)
    → sources_of (list ++ p ∷ []) ≡ sources_of list ++ sources_in p
newest_sources list p = flat_map-append sources_in list (p ∷ [])
    ∙ ap (λ (l : List Source). sources_of list ++ l) (append-nil (sources_in p))

abbrev pub ReachedAt : (w : Which) → (store_kind w).Listed → List Tile → Type 0
ReachedAt known list tiles = All (λ t. Reached (heads_of (sources_of list)) t) tiles
ReachedAt any list tiles = Unit {0}

pub reached_at : (w : Which) (list : (store_kind w).Listed) (sources : List Source) (given tiles : List Tile)
    (planned : (store_kind w).Planned) (left : ℕ)
    → (store_kind w).Starts list sources given planned left → IsTouched (heads_of sources) tiles
    → ReachedAt w ((store_kind w).add list planned) tiles
reached_at known list sources given tiles planned left starts touched = λ i d lt.
    let r : Reached (heads_of sources) (get_or tiles i d) =
    (touched.exact (get_or tiles i d)).0 (Contains-get_or tiles i d lt) in
    subst (λ (x : Publication). Reached (heads_of (sources_of (list ++ x ∷ []))) (get_or tiles i d)) (sym starts.0)
    (subst (λ (ss : List Source). Reached (heads_of ss) (get_or tiles i d)) (sym (newest_sources list sources))
    (later_reached (sources_of list) sources (get_or tiles i d) r))
reached_at any list sources given tiles planned left starts touched = tt

pub sum_at : (w : Which) (s : StateIn (store_kind w)) (tiles : List Tile) (sum : ℤ) (Now : (v : Which)
    → StateIn (store_kind v) → Type 0)
    → Now w s → IsAtRest (store_kind w) s → ReachedAt w s.list tiles
    → ((t : KnownState) → Now known t → IsAtRest (store_kind known) t
    → All (λ u. Reached (heads_of (sources_of t.list)) u) tiles → sum ≡ tiles_sum (sources_of t.list) tiles)
    → IsSumAt w s.list tiles sum
sum_at known s tiles sum Now now rest reached f = f s now rest reached
sum_at any s tiles sum Now now rest reached f = tt

-- ---- what a damaged file leads to

maybe_leads : (w : Which) (s next : StateIn (store_kind w)) (x : ℕ) (New : StateIn (store_kind w) → Type 0)
    → CameTo w s x next
    → (store_kind w).Maybe (New next) → Leads (λ n. (store_kind w).Maybe (CameTo w s x n)) New
maybe_leads known s next x New came never = absurd never
maybe_leads any s next x New came now = record { next = next; step = came; now = now }

maybe_after : (w : Which) (s : StateIn (store_kind w)) (list : (store_kind w).Listed) (x : ℕ) (New : StateIn
    (store_kind w) → Type 0)
    → (LeadsAfter (store_kind w) list New → Leads (CameTo w s x) New)
    → (store_kind w).Maybe (LeadsAfter (store_kind w) list New)
    → Leads (λ n. (store_kind w).Maybe (CameTo w s x n)) New
maybe_after known s list x New f never = absurd never
maybe_after any s list x New f led = let l = f led in record { next = l.next; step = l.step; now = l.now }

-- ---- the exits

module _ (w : Which) (s : StateIn (store_kind w)) (x : ℕ) (at : IsAtRest (store_kind w) s) where
  pub not_yet : (e : PopulateError) (next : StateIn (store_kind w)) (New : StateIn (store_kind w) → Type 0)
      → e ≡ Memory → next.list ≡ s.list
      → next.going ≡ None → next.halted ≡ None → New next → Leads (PublishesIn w s x (Err e)) New
  not_yet e next New is a b c now =
      subst (λ (z : PopulateError). Leads (PublishesIn w s x (Err z)) New) (sym is) (record {
        next = next;
        step =
            not_begun a b c;
        now = now;
      })

  module _ (sources : List Source) (drawn : PublicationDrawn x sources) where
    abbrev pub submitted : StateIn (store_kind w)
    submitted = record s { pending = sources }

    pub refused_begin : (e : PopulateError) (New : StateIn (store_kind w) → Type 0)
        → BeginsDrawn w submitted (Err e) New
        → Leads (PublishesIn w s x (Err e)) New
    refused_begin Memory New now = record { next = submitted; step = not_begun refl at.going at.halted; now = now }
    refused_begin Fault New never = absurd never
    refused_begin (Entries count) New both =
        record {
          next = submitted;
          step = (
            record {
              sources = sources;
              drawn = drawn;
              state =
                  refl;
            },
            both.1,
          );
          now = both.0;
        }
    refused_begin Versions New both =
        record {
          next = submitted;
          step = (
            record {
              sources = sources;
              drawn = drawn;
              state =
                  refl;
            },
            both.1,
          );
          now = both.0;
        }
    refused_begin (Damaged expected found) New never = absurd never

    module _ (Mid : StateIn (store_kind w) → Type 0) (g : IsGoingOf w submitted Mid) where
      abbrev pub next_one : IsDrawnNext w s x
      next_one = record {
        sources = sources;
        drawn = drawn;
        tiles = g.tiles;
        touched = g.touched;
        planned = g.planned;
        left = g.left;
        starts = g.starts;
      }

      abbrev pub begun : StateIn (store_kind w)
      begun = record submitted { pending = []; going = Some record { publication = g.planned; left = g.left } }

      abbrev pub published : StateIn (store_kind w)
      published = record begun { list = (store_kind w).add s.list g.planned; going = None }

      pub rests : IsAtRest (store_kind w) published
      rests = record { pending = refl; going = refl; halted = at.halted; sessions = at.sessions }

      pub failed_finish : (e : PopulateError) (New : StateIn (store_kind w) → Type 0)
          → FinishesSteps w begun g.planned (Err e) New
          → Leads (PublishesIn w s x (Err e)) New
      failed_finish Memory New never = absurd never
      failed_finish Fault New now =
          record {
            next = record begun { going = None; halted = Some ((store_kind w).drop g.planned) };
            step =
                given_up next_one refl refl refl;
            now = now;
          }
      failed_finish (Entries count) New never = absurd never
      failed_finish Versions New never = absurd never
      failed_finish (Damaged expected found) New maybe =
          maybe_leads w s (record begun {
            going = None;
            halted =
                Some ((store_kind w).drop g.planned);
          }) x New (given_up next_one refl refl refl) maybe

      came : (New : StateIn (store_kind w) → Type 0) → LeadsAfter (store_kind w) published.list New
          → Leads (CameTo w s x) New
      came New led = record {
        next = led.next;
        step =
            complete next_one led.after.list_is led.after.going led.after.halted;
        now = led.now;
      }

      pub failed_sum : (e : PopulateError) (New : StateIn (store_kind w) → Type 0) → Sums w published.list (Err e) New
          → Leads (PublishesIn w s x (Err e)) New
      failed_sum Memory New led = came New led
      failed_sum Fault New led = came New led
      failed_sum (Entries count) New never = absurd never
      failed_sum Versions New never = absurd never
      failed_sum (Damaged expected found) New maybe = maybe_after w s published.list x New (came New) maybe

      pub all_done : (made : Published) (New : StateIn (store_kind w) → Type 0)
          → Sums w published.list (Ok made.sum) New
          → made.files ≡ length g.tiles → IsSumAt w published.list g.tiles made.sum
          → Leads (PublishesIn w s x (Ok made)) New
      all_done made New led files sum = record {
        next = led.next;
        step = record {
          next = next_one;
          list_is = led.list_is;
          at_rest = led.at_rest;
          files_are = files;
          sum_is = subst (λ (l : (store_kind w).Listed). IsSumAt w l g.tiles made.sum) (sym led.list_is) sum;
        };
        now = led.now;
      }
