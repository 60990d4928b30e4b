-- Any number of runs, each over what a stop of the one before left, or on the very disk.
use Rattle.std.proofs.Common.{◌≡◌, ℕ, ◌⊎◌, inl, inr, List, [], ◌∷◌, ◌++◌, Option, None, Some, Contains, refl, ap, sym}
use Rattle.std.proofs.Common.{◌∙◌, subst, append_assoc, append-nil}
use Rattle.std.specs.List.{AllByRecursion}
use Rattle.std.proofs.lemmas.List.{append_cancel_left}
use Rattle.std.proofs.lemmas.List.Elements.{Contains-append_left, Contains-append_right}
use Rattle.cdb_model.specs.AnswerTexts.{tally}
use Rattle.cdb_model.specs.Begun.{HasBegun, acknowledged, completes, unfinished, whole_answers}
use Rattle.cdb_model.specs.Events.{Answer}
use Rattle.cdb_model.specs.Images.{Base, IsNext, StandsFrom, StandsKept, StandsForOne, StandsSince}
use Rattle.cdb_model.specs.KnownStore.{KnownState, Going, start_at}
use Rattle.cdb_model.specs.Maps.{Content, FileMap}
use Rattle.cdb_model.specs.Publications.{Publication}
use Rattle.cdb_model.specs.Runs.{Item, Run, items_of}
use Rattle.cdb_model.specs.Stands.{Stands}
use Rattle.cdb_model.specs.Text.{Text}
use Rattle.cdb_crash.specs.Crash.{IsClear, IsFaulted, IsEither}
use Rattle.cdb_files.specs.Disk as disk
use Rattle.cdb_files.specs.Disk.{IsImage}
use Rattle.cdb_engine.specs.Store.{IsStore}
use Rattle.cdb_front.specs.Continued.{Succeeds, stopped, unstopped, base_for, acked_at, acked_by, IsAmong, MayLeave}
use Rattle.cdb_front.specs.Continued.{Succession, HasAcked, Carried, Continues}
use Rattle.cdb_front.specs.Headline.{Devices, Life, Task, script, check, fill, Knows, ReadsScript, GoesBy, Goes, Meets}
use Rattle.cdb_front.specs.Headline.{StopLeaves, amid, at_end, steps_behind, begun_in, acked_in, where_done}
use Rattle.cdb_engine.specs.Filling.{StandsButLast, with_all, but_last}
use Rattle.cdb_engine.proofs.StepTracks.{all_map}
use Rattle.cdb_front.specs.Checking.{ChecksStore}
use Rattle.cdb_front.specs.Generating.{FillsStore, StandsMade}
use Rattle.cdb_front.specs.OverStore.{EndsOver, in_opening, behind_opening}
use Rattle.cdb_front.specs.RunOutcome.{Hears, IsOfStore, WasOpened, HasNoStore, IsLeftAtRest, RestsAt}
use Rattle.cdb_front.specs.RunOutcome.{StandsAtExit}
use Rattle.cdb_front.specs.RunProgress.{Holds}
use Rattle.cdb_front.specs.declared.exit_status.Status.{Status}
use Rattle.cdb_front.specs.declared.exit_status.Status.TheVariants.{Done, Memory, Usage, InputFault, OutputFault}
use Rattle.cdb_front.specs.declared.exit_status.Status.TheVariants.{StoreFault, NotAStore, TooLong, Differs, Refused}
use Rattle.cdb_front.specs.declared.exit_status.Status.TheVariants.{Damaged}
use Rattle.cdb_front.proofs.Exits.{IsAcknowledged, kept_first, take-none}
use Rattle.cdb_front.proofs.Checking.{ends_as}
use Rattle.cdb_front.proofs.Many.{only_whole, done_none}
use Rattle.cdb_source.proofs.Lists.{not_in_none}

-- ---- lists

extended : (begun kept : List Publication) (base : Base) (m : FileMap) → StandsKept base.list begun kept m
    → (list : List Publication) × MayLeave base begun kept list × Stands m list
extended begun kept base m s = (
  base.list ++ s.first,
  inl record { first = s.first; later = s.later; more = s.more; joined = s.joined; holds = s.holds; list_is = refl },
  s.stands,
)

one_of : (early : List (List Publication)) (m : FileMap) → StandsForOne early m
    → (list : List Publication) × IsAmong early list × Stands m list
one_of [] m s = absurd s
one_of (other ∷ others) m (inl s) = (other, inl refl, s)
one_of (other ∷ others) m (inr s) = let r = one_of others m s in (r.0, inr r.1, r.2)

each_of : (P : List Publication → Type 0) (lists : List (List Publication)) (list : List Publication)
    → AllByRecursion P lists → IsAmong lists list → P list
each_of P [] list all one = absurd one
each_of P (other ∷ others) list all (inl e) = subst P (sym e) all.0
each_of P (other ∷ others) list all (inr one) = each_of P others list all.1 one

-- what is to be kept is in what a run may leave, and so is what was in each list that it might open
holds_kept : (base : Base) (begun kept list : List Publication) (x : Publication) → MayLeave base begun kept list
    → Contains kept x
    → Contains list x
holds_kept base begun kept list x (inl e) c =
    subst (λ (l : List Publication). Contains l x) (sym e.list_is) (Contains-append_right base.list e.first x
    (subst (λ (l : List Publication). Contains l x) (sym e.holds) (Contains-append_left kept e.more x c)))
holds_kept base begun kept list x (inr e) c =
    absurd (not_in_none x (subst (λ (l : List Publication). Contains l x) e.0 c))

holds_before : (base : Base) (begun kept list : List Publication) (x : Publication) → MayLeave base begun kept list
    → AllByRecursion (λ l. Contains l x) (base.list ∷ base.early) → Contains list x
holds_before base begun kept list x (inl e) all =
    subst (λ (l : List Publication). Contains l x) (sym e.list_is) (Contains-append_left base.list e.first x all.0)
holds_before base begun kept list x (inr e) all = each_of (λ l. Contains l x) base.early list all.1 e.1

-- ---- a run that ended in opening

opened_or_closed : (status : Status) → IsOfStore status → WasOpened status ⊎ HasNoStore status
opened_or_closed Done o = inl tt
opened_or_closed Memory o = inr tt
opened_or_closed Usage o = inr tt
opened_or_closed InputFault o = inl tt
opened_or_closed OutputFault o = inl tt
opened_or_closed StoreFault o = inr tt
opened_or_closed (NotAStore version place) o = absurd o
opened_or_closed TooLong o = inl tt
opened_or_closed (Differs path) o = absurd o
opened_or_closed (Refused limit) o = absurd o
opened_or_closed (Damaged expected found) o = absurd o

heard_nothing : (status : Status) (lines heard : List Text) (rest : Text) → HasNoStore status
    → Hears status lines rest heard → heard ≡ []
heard_nothing Done lines heard rest c h = absurd c
heard_nothing Memory lines heard rest c h = h
heard_nothing Usage lines heard rest c h = h
heard_nothing InputFault lines heard rest c h = absurd c
heard_nothing OutputFault lines heard rest c h = absurd c
heard_nothing StoreFault lines heard rest c h = h
heard_nothing (NotAStore version place) lines heard rest c h = h
heard_nothing TooLong lines heard rest c h = absurd c
heard_nothing (Differs path) lines heard rest c h = absurd c
heard_nothing (Refused limit) lines heard rest c h = absurd c
heard_nothing (Damaged expected found) lines heard rest c h = absurd c

no_items : (items unmade : List Item) → [] ≡ items ++ unmade → items ≡ []
no_items [] unmade e = refl
no_items (i ∷ items) unmade e = cc

-- a run over no items begins nothing
begins_none : (Has : Text → Content → Type 0) (list : List Publication) (items : List Item)
    (answers : List Answer) (s : KnownState)
    (begun : List Publication) → items ≡ [] → Run Has (start_at list) items answers s
    → HasBegun list s begun → begun ≡ []
begins_none Has list items answers s begun none run has =
    let r = subst (λ (i : List Item). Run Has (start_at list) i answers s) none run in
    let same : list ++ has.complete ≡ list ++ [] =
    sym has.list_is ∙ ap (λ (t : KnownState). t.list) r.1 ∙ sym (append-nil list) in
    has.begun_is ∙ ap (λ (c : List Publication). c ++ unfinished s.going s.halted)
    (append_cancel_left list has.complete [] same)
    ∙ ap (λ (t : KnownState). unfinished t.going t.halted) r.1

-- a clear disk of which a crash leaves what stands for the lists of a store has that store again, though the lists may
-- have changed places
record Again (list : List Publication) (early : List (List Publication)) (d : disk.State) : Type 0 where
  pub now : List Publication
  pub others : List (List Publication)
  pub store : IsStore now others d
  pub each : AllByRecursion (λ l. (l ≡ list) ⊎ IsAmong early l) (now ∷ others)

either_of : (shorter list other : List Publication) (x : Publication) (m : FileMap) → IsNext shorter x list other
    → Stands m list ⊎ StandsForOne (other ∷ []) m → IsEither Stands shorter x m
either_of shorter list other x m (inl e) (inl s) = inl (subst (Stands m) e.0 s)
either_of shorter list other x m (inl e) (inr (inl s)) = inr (subst (Stands m) e.1 s)
either_of shorter list other x m (inr e) (inl s) = inr (subst (Stands m) e.0 s)
either_of shorter list other x m (inr e) (inr (inl s)) = inl (subst (Stands m) e.1 s)
either_of shorter list other x m n (inr (inr s)) = absurd s

flipped : (shorter list other : List Publication) (x : Publication) → IsNext shorter x list other
    → IsNext shorter x other list
flipped shorter list other x (inl e) = inr (e.1, e.0)
flipped shorter list other x (inr e) = inl (e.1, e.0)

again : (list : List Publication) (early : List (List Publication)) (entry d : disk.State)
    → IsStore list early entry → IsClear d
    → ((m : FileMap) → IsImage d m → Stands m list ⊎ StandsForOne early m) → IsImage d d.present → Again list early d
again list [] entry d store clear maps image =
    record {
      now = list;
      others = [];
      store = record { clear = clear; stands = λ m possible. here m (maps m possible) };
      each = (inl refl, tt);
    }
  where
    here : (m : FileMap) → Stands m list ⊎ ⊥ → Stands m list
    here m (inl s) = s
    here m (inr e) = absurd e
again list (other ∷ []) entry d store clear maps image = by (maps d.present image)
  where
    faulted : IsFaulted Stands store.shorter store.x d
    faulted = record {
      clear = clear;
      either = λ m possible. either_of store.shorter list other store.x m store.next (maps m possible);
    }

    by : Stands d.present list ⊎ StandsForOne (other ∷ []) d.present → Again list (other ∷ []) d
    by (inl s) = record {
      now = list;
      others = other ∷ [];
      store = record { shorter = store.shorter; x = store.x; next = store.next; faulted = faulted; present = s };
      each = (inl refl, (inr (inl refl), tt));
    }
    by (inr (inl s)) = record {
      now = other;
      others = list ∷ [];
      store = record {
        shorter = store.shorter;
        x = store.x;
        next = flipped store.shorter list other store.x store.next;
        faulted = faulted;
        present = s;
      };
      each = (inr (inl refl), (inl refl, tt));
    }
    by (inr (inr s)) = absurd s
again list (a ∷ b ∷ early) entry d store clear maps image = absurd store

-- ---- what a run may leave, of any mode

opened_list : (base : Base) (begun keep : List Publication) → keep ≡ [] → MayLeave base begun keep base.list
opened_list base begun keep none = inl record {
  first = [];
  later = begun;
  more = [];
  joined = refl;
  holds = sym (append-nil keep ∙ none);
  list_is = sym (append-nil base.list);
}

from_entry : (base : Base) (begun keep : List Publication) → keep ≡ [] → (m : FileMap)
    → StandsForOne (base.list ∷ base.early) m
    → (list : List Publication) × MayLeave base begun keep list × Stands m list
from_entry base begun keep none m (inl s) = (base.list, opened_list base begun keep none, s)
from_entry base begun keep none m (inr e) = let r = one_of base.early m e in (r.0, inr (none, r.1), r.2)

from_since : (base : Base) (begun : List Publication) (m : FileMap) → StandsSince base begun m
    → (list : List Publication) × MayLeave base begun [] list × Stands m list
from_since base begun m (inl s) = (
  base.list ++ s.first,
  inl record {
    first = s.first;
    later = s.later;
    more = s.first;
    joined = s.joined;
    holds = refl;
    list_is = refl;
  },
  s.stands,
)
from_since base begun m (inr s) = let r = one_of base.early m s in (r.0, inr (refl, r.1), r.2)

-- a store again, each list of which may be left
record Found (base : Base) (begun keep : List Publication) (d : disk.State) : Type 0 where
  pub now : List Publication
  pub others : List (List Publication)
  pub store : IsStore now others d
  pub each : AllByRecursion (MayLeave base begun keep) (now ∷ others)

again_found : (base : Base) (begun keep : List Publication) (d : disk.State) → keep ≡ []
    → Again base.list base.early d → Found base begun keep d
again_found base begun keep d none a =
    record {
      now = a.now;
      others = a.others;
      store = a.store;
      each = all_map (λ l. (l ≡ base.list) ⊎ IsAmong base.early l) (MayLeave base begun keep) (a.now ∷ a.others)
          may a.each;
    }
  where
    may : (l : List Publication) → (l ≡ base.list) ⊎ IsAmong base.early l → MayLeave base begun keep l
    may l (inl e) = subst (MayLeave base begun keep) (sym e) (opened_list base begun keep none)
    may l (inr one) = inr (none, one)

-- what a run of any mode over a store leaves: amid it, at its end, and for a next run on the same disk
record MayBeLeft (v : Devices) (life : Life v) (base : Base) (begun keep : List Publication) : Type 0 where
  pub amid_left : (m : FileMap) → v.since life.new (v.clock life.old) m
      → (list : List Publication) × MayLeave base begun [] list × Stands m list
  pub end_left : (m : FileMap) → IsImage (v.state life.new) m
      → (list : List Publication) × MayLeave base begun keep list × Stands m list
  pub found : IsStore base.list base.early (v.state life.old) → IsClear (v.state life.new)
      → IsImage (v.state life.new) (v.state life.new).present → Found base begun keep (v.state life.new)

-- ---- a run of a script

module _ (v : Devices) (life : Life v) (base : Base) (now_is : base.moment ≡ v.clock life.old)
    (goes : ReadsScript v life (Some base)) where
  abbrev kept : List Publication
  kept = acknowledged goes.outcome.run.begun goes.outcome.transcript.answers goes.outcome.transcript.wrote

  begun_none : HasNoStore goes.outcome.status → goes.outcome.run.begun ≡ []
  begun_none closed =
      let t = goes.outcome.transcript in
      let none = heard_nothing goes.outcome.status t.lines t.heard t.rest closed t.hears in
      let items = no_items t.items t.unmade (ap (items_of (steps_behind life.task)) (sym none) ∙ t.items_are) in
      begins_none (Holds v.shelf_tells (v.files life.shelf)) base.list t.items t.answers goes.outcome.run.state
      goes.outcome.run.begun items
      goes.outcome.run.run goes.outcome.run.has_begun

  kept_none : HasNoStore goes.outcome.status → kept ≡ []
  kept_none closed =
      take-none
      (tally completes (whole_answers goes.outcome.transcript.answers goes.outcome.transcript.wrote))
      goes.outcome.run.begun (begun_none closed)

  -- ---- what a stop left

  exit_left : (status : Status) (keep : List Publication) (m : FileMap) → (HasNoStore status → keep ≡ [])
      → StandsAtExit status base goes.outcome.run.begun keep m
      → (list : List Publication) × MayLeave base goes.outcome.run.begun keep list × Stands m list
  exit_left Done keep m none s = extended goes.outcome.run.begun keep base m s
  exit_left InputFault keep m none s = extended goes.outcome.run.begun keep base m s
  exit_left OutputFault keep m none s = extended goes.outcome.run.begun keep base m s
  exit_left TooLong keep m none s = extended goes.outcome.run.begun keep base m s
  exit_left (Differs path) keep m none s = extended goes.outcome.run.begun keep base m s
  exit_left (Refused limit) keep m none s = extended goes.outcome.run.begun keep base m s
  exit_left (Damaged expected found) keep m none s = extended goes.outcome.run.begun keep base m s
  exit_left Memory keep m none (inl s) = extended goes.outcome.run.begun keep base m s
  exit_left Memory keep m none (inr s) = let r = one_of base.early m s in (r.0, inr (none tt, r.1), r.2)
  exit_left Usage keep m none (inl s) = extended goes.outcome.run.begun keep base m s
  exit_left Usage keep m none (inr s) = let r = one_of base.early m s in (r.0, inr (none tt, r.1), r.2)
  exit_left StoreFault keep m none (inl s) = extended goes.outcome.run.begun keep base m s
  exit_left StoreFault keep m none (inr s) = let r = one_of base.early m s in (r.0, inr (none tt, r.1), r.2)
  exit_left (NotAStore version place) keep m none (inl s) = extended goes.outcome.run.begun keep base m s
  exit_left (NotAStore version place) keep m none (inr s) = let r = one_of base.early m s in
      (r.0, inr (none tt, r.1), r.2)

  -- the store was opened
  rested : (status : Status) (s : KnownState) (d : disk.State) → WasOpened status → RestsAt status s d
      → IsLeftAtRest s d
  rested Done s d o r = r
  rested Memory s d o r = absurd o
  rested Usage s d o r = absurd o
  rested InputFault s d o r = r
  rested OutputFault s d o r = r
  rested StoreFault s d o r = absurd o
  rested (NotAStore version place) s d o r = absurd o
  rested TooLong s d o r = r
  rested (Differs path) s d o r = absurd o
  rested (Refused limit) s d o r = absurd o
  rested (Damaged expected found) s d o r = absurd o

  first : IsAcknowledged goes.outcome.run.has_begun.complete kept
  first = kept_first (Holds v.shelf_tells (v.files life.shelf)) base.list goes.outcome.run.state
      goes.outcome.transcript.items goes.outcome.transcript.answers goes.outcome.run.begun goes.outcome.transcript.wrote
      goes.outcome.run.run goes.outcome.run.has_begun

  leaves_old : MayLeave base goes.outcome.run.begun kept goes.outcome.run.state.list
  leaves_old = inl record {
    first = goes.outcome.run.has_begun.complete;
    later = unfinished goes.outcome.run.state.going goes.outcome.run.state.halted;
    more = first.rest;
    joined = goes.outcome.run.has_begun.begun_is;
    holds = first.joined;
    list_is = goes.outcome.run.has_begun.list_is;
  }

  leaves_new : (x : Publication) → goes.outcome.run.state.going ≡ None → goes.outcome.run.state.halted ≡ Some x
      → MayLeave base goes.outcome.run.begun kept (goes.outcome.run.state.list ++ x ∷ [])
  leaves_new x idle halted = inl record {
    first = goes.outcome.run.has_begun.complete ++ x ∷ [];
    later = [];
    more = first.rest ++ x ∷ [];
    joined = goes.outcome.run.has_begun.begun_is
        ∙ ap (λ (going : Option Going). goes.outcome.run.has_begun.complete
        ++ unfinished going goes.outcome.run.state.halted) idle
        ∙ ap (λ (given_up : Option Publication). goes.outcome.run.has_begun.complete ++ unfinished None given_up) halted
        ∙ sym (append-nil (goes.outcome.run.has_begun.complete ++ x ∷ []));
    holds = ap (λ (l : List Publication). l ++ x ∷ []) first.joined ∙ append_assoc kept first.rest (x ∷ []);
    list_is = ap (λ (l : List Publication). l ++ x ∷ []) goes.outcome.run.has_begun.list_is
        ∙ append_assoc base.list goes.outcome.run.has_begun.complete (x ∷ []);
  }

  given_up : (d : disk.State) (x : Publication) → goes.outcome.run.state.going ≡ None
      → goes.outcome.run.state.halted ≡ Some x
      → IsFaulted Stands goes.outcome.run.state.list x d → IsImage d d.present
      → Found base goes.outcome.run.begun kept d
  given_up d x idle halted faulted image = by (faulted.either d.present image)
    where
      by : IsEither Stands goes.outcome.run.state.list x d.present → Found base goes.outcome.run.begun kept d
      by (inl stands) = record {
        now = goes.outcome.run.state.list;
        others = (goes.outcome.run.state.list ++ x ∷ []) ∷ [];
        store = record {
          shorter = goes.outcome.run.state.list;
          x = x;
          next = inl (refl, refl);
          faulted = faulted;
          present = stands;
        };
        each = (leaves_old, (leaves_new x idle halted, tt));
      }
      by (inr stands) = record {
        now = goes.outcome.run.state.list ++ x ∷ [];
        others = goes.outcome.run.state.list ∷ [];
        store = record {
          shorter = goes.outcome.run.state.list;
          x = x;
          next = inr (refl, refl);
          faulted = faulted;
          present = stands;
        };
        each = (leaves_new x idle halted, (leaves_old, tt));
      }

  opened_found : (d : disk.State) (given : Option Publication) → goes.outcome.run.state.halted ≡ given
      → IsLeftAtRest goes.outcome.run.state d
      → IsClear d → IsImage d d.present → Found base goes.outcome.run.begun kept d
  opened_found d None is rest clear image =
      record { now = goes.outcome.run.state.list; others = []; store = rest.whole is; each = (leaves_old, tt) }
  opened_found d (Some x) is rest clear image = given_up d x (rest.idle x is) is (rest.faulted x is clear) image

  -- it wasn't
  closed_maps : (status : Status) (m : FileMap) → HasNoStore status → goes.outcome.run.begun ≡ []
      → StandsAtExit status base goes.outcome.run.begun kept m
      → Stands m base.list ⊎ StandsForOne base.early m
  closed_maps status m closed none s = by status closed s
    where
      nothing : (first later : List Publication) → [] ≡ first ++ later → first ≡ []
      nothing [] later e = refl
      nothing (x ∷ first) later e = cc

      one : StandsKept base.list goes.outcome.run.begun kept m → Stands m base.list
      one k = subst (Stands m) (ap (λ (l : List Publication). base.list ++ l)
          (nothing k.first k.later (sym none ∙ k.joined))
          ∙ append-nil base.list) k.stands

      of : StandsKept base.list goes.outcome.run.begun kept m ⊎ StandsForOne base.early m → Stands m base.list
          ⊎ StandsForOne base.early m
      of (inl k) = inl (one k)
      of (inr e) = inr e

      by : (status : Status) → HasNoStore status → StandsAtExit status base goes.outcome.run.begun kept m
          → Stands m base.list ⊎ StandsForOne base.early m
      by Done c k = absurd c
      by Memory c k = of k
      by Usage c k = of k
      by InputFault c k = absurd c
      by OutputFault c k = absurd c
      by StoreFault c k = of k
      by (NotAStore version place) c k = of k
      by TooLong c k = absurd c
      by (Differs path) c k = absurd c
      by (Refused limit) c k = absurd c
      by (Damaged expected found) c k = absurd c

  stay_found : IsStore base.list base.early (v.state life.old) → IsClear (v.state life.new)
      → IsImage (v.state life.new) (v.state life.new).present
      → Found base goes.outcome.run.begun kept (v.state life.new)
  stay_found entry clear image = by (opened_or_closed goes.outcome.status goes.outcome.run.of_store)
    where
      by : WasOpened goes.outcome.status ⊎ HasNoStore goes.outcome.status
          → Found base goes.outcome.run.begun kept (v.state life.new)
      by (inl o) = opened_found (v.state life.new) goes.outcome.run.state.halted refl
          (rested goes.outcome.status goes.outcome.run.state (v.state life.new) o goes.outcome.run.rests) clear image
      by (inr c) = again_found base goes.outcome.run.begun kept (v.state life.new) (kept_none c)
          (again base.list base.early (v.state life.old) (v.state life.new) entry clear
          (λ m possible. closed_maps goes.outcome.status m c (begun_none c) (goes.outcome.run.at_exit m possible))
          image)

  script_leaves : MayBeLeft v life base goes.outcome.run.begun kept
  script_leaves = record {
    amid_left = λ m since. from_since base goes.outcome.run.begun m (goes.outcome.run.since m
        (subst (λ (t : ℕ). v.since life.new t m) (sym now_is) since));
    end_left = λ m image. exit_left goes.outcome.status kept m kept_none (goes.outcome.run.at_exit m image);
    found = stay_found;
  }

-- ---- a check

module _ (v : Devices) (life : Life v) (base : Base) (knows : Knows v life (Some base))
    (goes : GoesBy v life (Some base) check) where
  abbrev checked : ChecksStore v.state v.clock v.since base life.old life.new (v.written life.output) goes.mid
      goes.status
  checked = goes.store base knows

  check_end : (m : FileMap) → IsImage (v.state life.new) m
      → EndsOver v.clock v.since base life.old life.new [] (λ m. Stands m base.list) (λ m. Stands m base.list)
      (IsImage (v.state life.new)) goes.status → StandsForOne (base.list ∷ base.early) m
  check_end m image (in_opening closed none left) = left m image
  check_end m image (behind_opening within left) = inl (left m image)

  check_leaves : MayBeLeft v life base [] []
  check_leaves = record {
    amid_left = λ m since. from_entry base [] [] refl m (checked.since_entry m since);
    end_left = λ m image. from_entry base [] [] refl m (check_end m image checked.over);
    found = λ entry clear present. again_found base [] [] (v.state life.new) refl
        (again base.list base.early (v.state life.old) (v.state life.new) entry clear
        (λ m image. check_end m image checked.over) present);
  }

-- ---- publications of the generator

snoc : (l : List Publication)
    → (l ≡ []) ⊎ ((first : List Publication) × ((last : Publication) × (l ≡ first ++ last ∷ [])))
snoc [] = inl refl
snoc (x ∷ l) = by (snoc l)
  where
    by : (l ≡ []) ⊎ ((first : List Publication) × ((last : Publication) × (l ≡ first ++ last ∷ [])))
        → ((x ∷ l) ≡ [])
        ⊎ ((first : List Publication) × ((last : Publication) × ((x ∷ l) ≡ first ++ last ∷ [])))
    by (inl e) = inr ([], (x, ap (λ (k : List Publication). x ∷ k) e))
    by (inr s) = inr (x ∷ s.0, (s.1.0, ap (λ (k : List Publication). x ∷ k) s.1.1))

nil_snoc : (first : List Publication) (last : Publication) → [] ≡ first ++ last ∷ [] → ⊥
nil_snoc [] last e = cc
nil_snoc (y ∷ first) last e = cc

snoc_same : (f first : List Publication) (l last : Publication) → f ++ l ∷ [] ≡ first ++ last ∷ [] → f ≡ first
snoc_same [] [] l last e = refl
snoc_same [] (y ∷ first) l last e =
    let t : [] ≡ first ++ last ∷ [] = cc in absurd (nil_snoc first last t)
snoc_same (x ∷ f) [] l last e =
    let t : [] ≡ f ++ l ∷ [] = cc in absurd (nil_snoc f l t)
snoc_same (x ∷ f) (y ∷ first) l last e =
    let t : f ++ l ∷ [] ≡ first ++ last ∷ [] = cc in
    let r : f ≡ first = snoc_same f first l last t in
    let h : x ≡ y = cc in
    cc

-- all were made, and a crash leaves them all
settle_all : (base : Base) (begun keep more : List Publication) (d : disk.State) → begun ≡ keep ++ more
    → ((m : FileMap) → IsImage d m → Stands m (base.list ++ begun)) → IsClear d → Found base begun keep d
settle_all base begun keep more d holds all clear = record {
  now = base.list ++ begun;
  others = [];
  store = record { clear = clear; stands = all };
  each = (
    inl record {
      first = begun;
      later = [];
      more = more;
      joined = sym (append-nil begun);
      holds = holds;
      list_is = refl;
    },
    tt,
  );
}

-- a crash leaves all but at most the last, of which none is to be kept
module _ (base : Base) (begun keep : List Publication) (d : disk.State) (none : keep ≡ [])
    (left : (m : FileMap) → IsImage d m → StandsButLast base.list begun m) (clear : IsClear d)
    (present : IsImage d d.present) where
  keeps_none : (first : List Publication) → first ≡ keep ++ first
  keeps_none first = sym (ap (λ (k : List Publication). k ++ first) none)

  settle_none : begun ≡ [] → Found base begun keep d
  settle_none e = record {
    now = base.list;
    others = [];
    store = record { clear = clear; stands = λ m image. here m (left m image) };
    each = (opened_list base begun keep none, tt);
  }
    where
      here : (m : FileMap) → StandsButLast base.list begun m → Stands m base.list
      here m (with_all s) = subst (Stands m) (ap (λ (k : List Publication). base.list ++ k) e ∙ append-nil base.list) s
      here m (but_last first last joined s) = absurd (nil_snoc first last (sym e ∙ joined))

  settle_last : (first : List Publication) (last : Publication) → begun ≡ first ++ last ∷ [] → Found base begun keep d
  settle_last first last e = by (faulted.either d.present present)
    where
      either : (m : FileMap) → StandsButLast base.list begun m → IsEither Stands (base.list ++ first) last m
      either m (with_all s) = inr (subst (Stands m) (ap (λ (k : List Publication). base.list ++ k) e
          ∙ sym (append_assoc base.list first (last ∷ []))) s)
      either m (but_last f l joined s) = inl (subst (Stands m) (ap (λ (k : List Publication). base.list ++ k)
          (snoc_same f first l last (sym joined ∙ e))) s)

      faulted : IsFaulted Stands (base.list ++ first) last d
      faulted = record { clear = clear; either = λ m image. either m (left m image) }

      leaves_first : MayLeave base begun keep (base.list ++ first)
      leaves_first = inl record {
        first = first;
        later = last ∷ [];
        more = first;
        joined = e;
        holds = keeps_none first;
        list_is = refl;
      }

      leaves_all : MayLeave base begun keep ((base.list ++ first) ++ last ∷ [])
      leaves_all = inl record {
        first = first ++ last ∷ [];
        later = [];
        more = first ++ last ∷ [];
        joined = e ∙ sym (append-nil (first ++ last ∷ []));
        holds = keeps_none (first ++ last ∷ []);
        list_is = append_assoc base.list first (last ∷ []);
      }

      by : IsEither Stands (base.list ++ first) last d.present → Found base begun keep d
      by (inl stands) = record {
        now = base.list ++ first;
        others = ((base.list ++ first) ++ last ∷ []) ∷ [];
        store = record {
          shorter = base.list ++ first;
          x = last;
          next = inl (refl, refl);
          faulted = faulted;
          present = stands;
        };
        each = (leaves_first, (leaves_all, tt));
      }
      by (inr stands) = record {
        now = (base.list ++ first) ++ last ∷ [];
        others = (base.list ++ first) ∷ [];
        store = record {
          shorter = base.list ++ first;
          x = last;
          next = inr (refl, refl);
          faulted = faulted;
          present = stands;
        };
        each = (leaves_all, (leaves_first, tt));
      }

  settle : Found base begun keep d
  settle = by (snoc begun)
    where
      by : (begun ≡ []) ⊎ ((first : List Publication) × ((last : Publication) × (begun ≡ first ++ last ∷ [])))
          → Found base begun keep d
      by (inl e) = settle_none e
      by (inr s) = settle_last s.0 s.1.0 s.1.1

-- what may be left of a map that stands for all that were begun, or for all but the last
from_all : (base : Base) (begun keep more : List Publication) (m : FileMap) → begun ≡ keep ++ more
    → Stands m (base.list ++ begun) → (list : List Publication) × MayLeave base begun keep list × Stands m list
from_all base begun keep more m holds stands = (
  base.list ++ begun,
  inl record {
    first = begun;
    later = [];
    more = more;
    joined = sym (append-nil begun);
    holds = holds;
    list_is = refl;
  },
  stands,
)

from_but_last : (base : Base) (begun keep : List Publication) → keep ≡ [] → (m : FileMap)
    → StandsButLast base.list begun m → (list : List Publication) × MayLeave base begun keep list × Stands m list
from_but_last base begun keep none m (with_all stands) =
    from_all base begun keep begun m (sym (ap (λ (k : List Publication). k ++ begun) none)) stands
from_but_last base begun keep none m (but_last first last joined stands) = (
  base.list ++ first,
  inl record {
    first = first;
    later = last ∷ [];
    more = first;
    joined = joined;
    holds = sym (ap (λ (k : List Publication). k ++ first) none);
    list_is = refl;
  },
  stands,
)

-- by how it ended: all were made, with what is to be kept among them; or nothing is to be kept
record MadeAll (list begun keep : List Publication) (Left : FileMap → Type 0) : Type 0 where
  pub more : List Publication
  pub holds : begun ≡ keep ++ more
  pub all : (m : FileMap) → Left m → Stands m (list ++ begun)

record MadeSome (list begun keep : List Publication) (Left : FileMap → Type 0) : Type 0 where
  pub none : keep ≡ []
  pub left : (m : FileMap) → Left m → StandsButLast list begun m

module _ (list begun : List Publication) (Left : FileMap → Type 0) where
  all_then : (result : Status) → (result ≡ Done) ⊎ (result ≡ OutputFault)
      → ((m : FileMap) → Left m → Stands m (list ++ begun)) → MadeAll list begun (where_done result begun) Left
  all_then result (inl e) all = subst (λ (s : Status). MadeAll list begun (where_done s begun) Left) (sym e)
      record { more = []; holds = sym (append-nil begun); all = all }
  all_then result (inr e) all = subst (λ (s : Status). MadeAll list begun (where_done s begun) Left) (sym e)
      record { more = begun; holds = refl; all = all }

  some_then : (inner result : Status) → where_done inner begun ≡ [] → (result ≡ inner) ⊎ (result ≡ OutputFault)
      → ((m : FileMap) → Left m → StandsButLast list begun m) → MadeSome list begun (where_done result begun) Left
  some_then inner result none (inl e) left =
      record { none = ap (λ (s : Status). where_done s begun) e ∙ none; left = left }
  some_then inner result none (inr e) left = record { none = ap (λ (s : Status). where_done s begun) e; left = left }

  by_end : (inner result : Status) → (result ≡ inner) ⊎ (result ≡ OutputFault)
      → ((m : FileMap) → Left m → StandsMade inner list begun m)
      → MadeAll list begun (where_done result begun) Left ⊎ MadeSome list begun (where_done result begun) Left
  by_end Done result ended left = inl (all_then result ended left)
  by_end OutputFault result ended left = inl (all_then result (inr (cut ended)) left)
    where
      cut : (result ≡ OutputFault) ⊎ (result ≡ OutputFault) → result ≡ OutputFault
      cut (inl e) = e
      cut (inr e) = e
  by_end Memory result ended left = inr (some_then Memory result refl ended left)
  by_end Usage result ended left = inr (some_then Usage result refl ended left)
  by_end InputFault result ended left = inr (some_then InputFault result refl ended left)
  by_end StoreFault result ended left = inr (some_then StoreFault result refl ended left)
  by_end (NotAStore version place) result ended left = inr (some_then (NotAStore version place) result refl ended left)
  by_end TooLong result ended left = inr (some_then TooLong result refl ended left)
  by_end (Differs path) result ended left = inr (some_then (Differs path) result refl ended left)
  by_end (Refused limit) result ended left = inr (some_then (Refused limit) result refl ended left)
  by_end (Damaged expected found) result ended left = inr (some_then (Damaged expected found) result refl ended left)

module _ (v : Devices) (life : Life v) (base : Base) (start count : ℕ) (knows : Knows v life (Some base))
    (goes : GoesBy v life (Some base) (fill start count)) where
  abbrev filled : FillsStore v.state v.clock v.since base start count life.old life.new (v.written life.output) goes.mid
      goes.status
  filled = goes.store base knows

  abbrev made : List Publication
  made = (goes.store base knows).begun

  abbrev done : List Publication
  done = where_done life.status (goes.store base knows).begun

  left_behind : ((m : FileMap) → IsImage (v.state life.new) m → StandsMade goes.status base.list made m)
      → MadeAll base.list made done (IsImage (v.state life.new))
      ⊎ MadeSome base.list made done (IsImage (v.state life.new))
  left_behind left = by_end base.list made (IsImage (v.state life.new)) goes.status life.status
      (ends_as goes.status life.status goes.mid (v.written life.output') goes.ends) left

  fill_end : (m : FileMap) → IsImage (v.state life.new) m
      → EndsOver v.clock v.since base life.old life.new made (StandsFrom base.list made)
      (StandsMade goes.status base.list made) (IsImage (v.state life.new)) goes.status
      → (list : List Publication) × MayLeave base made done list × Stands m list
  fill_end m image (in_opening closed none left) =
      from_entry base made done (done_none life.status made none) m (left m image)
  fill_end m image (behind_opening within left) = by (left_behind left)
    where
      by : MadeAll base.list made done (IsImage (v.state life.new))
          ⊎ MadeSome base.list made done (IsImage (v.state life.new))
          → (list : List Publication) × MayLeave base made done list × Stands m list
      by (inl a) = from_all base made done a.more m a.holds (a.all m image)
      by (inr s) = from_but_last base made done s.none m (s.left m image)

  fill_found : IsStore base.list base.early (v.state life.old) → IsClear (v.state life.new)
      → IsImage (v.state life.new) (v.state life.new).present
      → EndsOver v.clock v.since base life.old life.new made (StandsFrom base.list made)
      (StandsMade goes.status base.list made) (IsImage (v.state life.new)) goes.status
      → Found base made done (v.state life.new)
  fill_found entry clear present (in_opening closed none left) =
      again_found base made done (v.state life.new) (done_none life.status made none)
      (again base.list base.early (v.state life.old) (v.state life.new) entry clear left present)
  fill_found entry clear present (behind_opening within left) = by (left_behind left)
    where
      by : MadeAll base.list made done (IsImage (v.state life.new))
          ⊎ MadeSome base.list made done (IsImage (v.state life.new)) → Found base made done (v.state life.new)
      by (inl a) = settle_all base made done a.more (v.state life.new) a.holds a.all clear
      by (inr s) = settle base made done (v.state life.new) s.none s.left clear present

  fill_leaves : MayBeLeft v life base made done
  fill_leaves = record {
    amid_left = λ m since. from_since base made m (filled.generates.since m
        (subst (λ (t : ℕ). v.since life.new t m) (sym knows.now) since));
    end_left = λ m image. fill_end m image filled.over;
    found = λ entry clear present. fill_found entry clear present filled.over;
  }

-- ---- any number of runs

leaves_by : (v : Devices) (life : Life v) (base : Base) (task : Task) (knows : Knows v life (Some base))
    (goes : GoesBy v life (Some base) task)
    → MayBeLeft v life base (begun_in v life base task knows goes) (acked_in v life base task knows goes)
leaves_by v life base (script most) knows goes = script_leaves v life base knows.now goes
leaves_by v life base check knows goes = check_leaves v life base knows goes
leaves_by v life base (fill start count) knows goes = fill_leaves v life base start count knows goes

module _ (v : Devices) (life : Life v) (base : Base) (knows : Knows v life (Some base))
    (goes : Goes v life (Some base)) where
  abbrev began : List Publication
  began = begun_in v life base life.task knows goes

  stop_left : (m : FileMap) (stop : StopLeaves v life m)
      → (list : List Publication) × MayLeave base began (acked_at v life m base stop knows goes) list × Stands m list
  stop_left m (at_end image) = (leaves_by v life base life.task knows goes).end_left m image
  stop_left m (amid since) = (leaves_by v life base life.task knows goes).amid_left m since

  link_found : (next : Life v) (link : Succeeds v life next) → IsStore base.list base.early (v.state life.old)
      → Found base began (acked_by v life next link base knows goes) (v.state next.old)
  link_found next (stopped r) entry =
      let left = stop_left r.m r.stop in
      record {
        now = left.0;
        others = [];
        store = only_whole left.0 r.m (v.state next.old) left.2 r.only;
        each = (left.1, tt);
      }
  link_found next (unstopped s) entry =
      subst (λ (d : disk.State). Found base began (acked_in v life base life.task knows goes) d) (sym s.same)
      ((leaves_by v life base life.task knows goes).found entry s.clear s.possible)

-- one run more
next_run : (v : Devices) (list : List Publication) (early : List (List Publication)) (last life : Life v)
    (earlier : List (Life v))
    (line : Succession v list early last (life ∷ earlier)) → v.disk_tells → Meets v last
    → (before : Carried v list early life earlier line.1)
    → (knows : Knows v life (Some (base_for v before.now before.others life)))
    → Found (base_for v before.now before.others life)
    (begun_in v life (base_for v before.now before.others life) life.task knows before.goes)
    (acked_by v life last line.0 (base_for v before.now before.others life) knows before.goes) (v.state last.old)
    → Carried v list early last (life ∷ earlier) line
next_run v list early last life earlier line told meets before knows f =
    record {
      now = f.now;
      others = f.others;
      finds = record {
        opened = before.now;
        others = before.others;
        before = before.finds;
        knows = knows;
        goes = before.goes;
        each = f.each;
      };
      every = every;
      store = f.store;
      goes = meets (Some (base_for v f.now f.others last)) record { told = told; now = refl; store = f.store };
    }
  where
    base : Base
    base = base_for v before.now before.others life

    began_before : List Publication
    began_before = begun_in v life (base_for v before.now before.others life) life.task knows before.goes

    had : List Publication
    had = acked_by v life last line.0 (base_for v before.now before.others life) knows before.goes

    every : (x : Publication)
        → Contains (acked_by v life last line.0 (base_for v before.now before.others life) knows before.goes) x
        ⊎ HasAcked v list early life earlier line.1 before.now before.others before.finds x
        → AllByRecursion (λ l. Contains l x) (f.now ∷ f.others)
    every x (inl c) = all_map (MayLeave base began_before had) (λ l. Contains l x) (f.now ∷ f.others)
        (λ l may. holds_kept base began_before had l x may c) f.each
    every x (inr w) = all_map (MayLeave base began_before had) (λ l. Contains l x) (f.now ∷ f.others)
        (λ l may. holds_before base began_before had l x may (before.every x w)) f.each

pub continues : (v : Devices) → Continues v
continues v told list early last [] line meets =
    record {
      now = list;
      others = early;
      finds = (refl, refl);
      every = λ x a. absurd a;
      store = line;
      goes = meets (Some (base_for v list early last)) record { told = told; now = refl; store = line };
    }
continues v told list early last (life ∷ earlier) line meets =
    let before = continues v told list early life earlier line.1 meets.1 in
    let knows : Knows v life (Some (base_for v before.now before.others life)) =
    record { told = told; now = refl; store = before.store } in
    next_run v list early last life earlier line told meets.0 before knows
    (link_found v life (base_for v before.now before.others life) knows before.goes last line.0 before.store)
