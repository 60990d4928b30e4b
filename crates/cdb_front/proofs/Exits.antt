-- What a crash leaves at the end of a run holds what was acknowledged.
use Rattle.std.proofs.Common.{◌≡◌, ℕ, ◌≤◌, ◌⊎◌, inl, inr, List, [], ◌∷◌, ◌++◌, take, zero, suc, Option, None, Some, refl, ap, sym, ◌∙◌, subst, append_assoc, append-nil, arith}
use Rattle.std.proofs.lemmas.List.{append_cancel_left}
use Rattle.std.proofs.KnownBytes.{Appends-nil}
use Rattle.cdb_model.specs.AnswerTexts.{tally}
use Rattle.cdb_model.specs.Begun.{completes, whole_answers, acknowledged, unfinished, HasBegun}
use Rattle.cdb_model.specs.Events.{Answer}
use Rattle.cdb_model.specs.Images.{Base, StandsKept, StandsForOne, StandsSince}
use Rattle.cdb_model.specs.KnownStore.{KnownState, Going, start_at}
use Rattle.cdb_model.specs.Maps.{Content, FileMap}
use Rattle.cdb_model.specs.Publications.{Publication}
use Rattle.cdb_model.specs.Runs.{Item, Run}
use Rattle.cdb_model.specs.Stands.{Stands}
use Rattle.cdb_model.specs.Stores.{known, any, known_store, any_store}
use Rattle.cdb_model.specs.Text.{Text}
use Rattle.cdb_model.specs.Transitions.{StateIn, IsFreshIn}
use Rattle.cdb_model.proofs.BegunLaws.{acknowledged_complete}
use Rattle.cdb_crash.specs.Crash.{IsEither}
use Rattle.cdb_files.specs.Disk as disk
use Rattle.cdb_files.specs.Disk.{IsImage}
use Rattle.cdb_files.specs.Moments.{AddsOnly}
use Rattle.cdb_engine.specs.Store.{IsStore}
use Rattle.cdb_engine.proofs.OpenStays.{early_since}
use Rattle.cdb_front.specs.Beginning.{OpensBy}
use Rattle.cdb_front.specs.EntryStore.{HasStore, IsKnown}
use Rattle.cdb_front.proofs.Followed.{IsLeftBy, IsFollowed}
use Rattle.cdb_front.specs.RunOutcome.{EndsFrom, LeavesNoEarly, StandsSinceOpening, EndsUnwritten, Unwritten, EndsWith, StopsScript, Outcome, WasOpened, HasNoStore, IsOfStore, StandsAtExit, IsLeftAtRest, RestsAt}
use Rattle.cdb_front.specs.RunProgress.{Sight, RunStart, Holds, Runs, Told, base_of}
use Rattle.cdb_front.specs.declared.exit_status.Status.{Status}
use Rattle.cdb_front.specs.declared.exit_status.Status.TheVariants.{Done, Memory, Usage, InputFault, OutputFault, StoreFault, NotAStore, TooLong, Differs, Refused, Damaged}
use Rattle.cdb_source.proofs.Lists.{not_some}

-- ---- what is acknowledged

-- the complete ones begin with those that are acknowledged
pub record IsAcknowledged (complete kept : List Publication) : Type 0 where
  pub rest : List Publication
  pub joined : complete ≡ kept ++ rest

pub kept_first : (Has : Text → Content → Type 0) (list : List Publication) (s : KnownState) (items : List Item)
    (answers : List Answer)
    (begun : List Publication) (wrote : Text) → Run Has (start_at list) items answers s → (h : HasBegun list s begun)
    → IsAcknowledged h.complete (acknowledged begun answers wrote)
kept_first Has list s items answers begun wrote run h =
    let a = acknowledged_complete Has list s items answers begun wrote run h in
    record {
      rest = a.0;
      joined = append_cancel_left list h.complete (acknowledged begun answers wrote ++ a.0) (sym h.list_is ∙ a.1);
    }

-- a map that stands for the complete ones, or for these and one that wasn't complete
kept_old : (list complete later begun kept : List Publication) (m : FileMap) → begun ≡ complete ++ later
    → IsAcknowledged complete kept
    → Stands m (list ++ complete) → StandsKept list begun kept m
kept_old list complete later begun kept m begun_is first stands =
    record {
      first = complete;
      later = later;
      more = first.rest;
      joined = begun_is;
      holds = first.joined;
      stands = stands;
    }

kept_new : (list complete begun kept : List Publication) (x : Publication) (m : FileMap) → begun ≡ complete ++ x ∷ []
    → IsAcknowledged complete kept → Stands m ((list ++ complete) ++ x ∷ []) → StandsKept list begun kept m
kept_new list complete begun kept x m begun_is first stands =
    record {
      first = complete ++ x ∷ [];
      later = [];
      more = first.rest ++ x ∷ [];
      joined = begun_is ∙ sym (append-nil (complete ++ x ∷ []));
      holds = ap (λ l. l ++ x ∷ []) first.joined ∙ append_assoc kept first.rest (x ∷ []);
      stands = subst (Stands m) (append_assoc list complete (x ∷ [])) stands;
    }

-- at the end of a run
exit_kept : (list : List Publication) (s : KnownState) (d : disk.State) (begun kept : List Publication)
    → (h : HasBegun list s begun)
    → IsLeftBy s d → IsAcknowledged h.complete kept → (m : FileMap) → IsImage d m → StandsKept list begun kept m
exit_kept list s d begun kept h left first m image = by s.halted refl h.begun_is
  where
    gave_up : (now : Option Going) (x : Publication) → s.going ≡ now → s.halted ≡ Some x
        → begun ≡ h.complete ++ unfinished now (Some x) → IsEither Stands s.list x m
        → StandsKept list begun kept m
    gave_up now x g e b (inl stands) = kept_old list h.complete (unfinished now (Some x)) begun kept m b first
        (subst (Stands m) h.list_is stands)
    gave_up None x g e b (inr stands) = kept_new list h.complete begun kept x m b first
        (subst (λ (l : List Publication). Stands m (l ++ x ∷ [])) h.list_is stands)
    gave_up (Some now) x g e b (inr stands) = absurd (left.one now x g e)

    by : (given_up : Option Publication) → s.halted ≡ given_up → begun ≡ h.complete ++ unfinished s.going given_up
        → StandsKept list begun kept m
    by None e b = kept_old list h.complete (unfinished s.going None) begun kept m b first
        (subst (Stands m) h.list_is ((left.whole e).stands m image))
    by (Some x) e b = gave_up s.going x refl e b (left.either x e m image)

at_exit : (status : Status) (base : Base) (begun kept : List Publication) (m : FileMap)
    → StandsKept base.list begun kept m → StandsAtExit status base begun kept m
at_exit Done base begun kept m s = s
at_exit Memory base begun kept m s = inl s
at_exit Usage base begun kept m s = inl s
at_exit InputFault base begun kept m s = s
at_exit OutputFault base begun kept m s = s
at_exit StoreFault base begun kept m s = inl s
at_exit (NotAStore version place) base begun kept m s = inl s
at_exit TooLong base begun kept m s = s
at_exit (Differs path) base begun kept m s = s
at_exit (Refused limit) base begun kept m s = s
at_exit (Damaged expected found) base begun kept m s = s

at_rest : (s : KnownState) (d : disk.State) → IsLeftBy s d → IsLeftAtRest s d
at_rest s d left = record {
  whole = left.whole;
  faulted = λ x e clear. record { clear = clear; either = left.either x e };
  idle = λ x e. not_some s.going (λ now g. left.one now x g e);
}

rests_at : (status : Status) (s : KnownState) (d : disk.State) → IsLeftAtRest s d → RestsAt status s d
rests_at Done s d r = r
rests_at Memory s d r = tt
rests_at Usage s d r = tt
rests_at InputFault s d r = r
rests_at OutputFault s d r = r
rests_at StoreFault s d r = tt
rests_at (NotAStore version place) s d r = tt
rests_at TooLong s d r = r
rests_at (Differs path) s d r = tt
rests_at (Refused limit) s d r = tt
rests_at (Damaged expected found) s d r = tt

opened_store : (status : Status) → WasOpened status → IsOfStore status
opened_store Done o = tt
opened_store Memory o = absurd o
opened_store Usage o = absurd o
opened_store InputFault o = tt
opened_store OutputFault o = tt
opened_store StoreFault o = absurd o
opened_store (NotAStore version place) o = absurd o
opened_store TooLong o = tt
opened_store (Differs path) o = absurd o
opened_store (Refused limit) o = absurd o
opened_store (Damaged expected found) o = absurd o

-- since opening ended no crash leaves an early list
opened_since : (status : Status) (base : Base) (begun : List Publication) (opened now : ℕ)
    (Since : ℕ → FileMap → Type 0) → LeavesNoEarly base begun opened now Since
    → StandsSinceOpening status base begun opened now Since
opened_since Done base begun opened now Since l = l
opened_since Memory base begun opened now Since l = tt
opened_since Usage base begun opened now Since l = tt
opened_since InputFault base begun opened now Since l = l
opened_since OutputFault base begun opened now Since l = l
opened_since StoreFault base begun opened now Since l = tt
opened_since (NotAStore version place) base begun opened now Since l = tt
opened_since TooLong base begun opened now Since l = l
opened_since (Differs path) base begun opened now Since l = tt
opened_since (Refused limit) base begun opened now Since l = tt
opened_since (Damaged expected found) base begun opened now Since l = tt

-- a run that is followed has ended
pub ended : (Has : Text → Content → Type 0) (from : Option Base) (status : Status) (items : List Item)
    (answers : List Answer) (wrote : Text) (opened now : ℕ) (Since : ℕ → FileMap → Type 0) (d : disk.State)
    (Now : Base → KnownState → Type 0)
    → ((base : Base) (s : KnownState) → Now base s → IsFollowed base s opened now Since d) → WasOpened status
    → Runs Has from items answers (λ s. Now (base_of from) s
    × EndsUnwritten status known_store Has (start_at (base_of from).list) items answers s)
    → EndsFrom Has from status items answers wrote opened now Since d
ended Has None status items answers wrote opened now Since d Now followed was_opened runs = tt
ended Has (Some base) status items answers wrote opened now Since d Now followed was_opened runs =
    let f = followed base runs.next runs.now.0 in
    let first = kept_first Has base.list runs.next items answers f.begun wrote runs.step f.has_begun in
    record {
      state = runs.next;
      run = runs.step;
      last = runs.now.1;
      begun = f.begun;
      has_begun = f.has_begun;
      since = f.since;
      since_opening = opened_since status base f.begun opened now Since f.opening;
      at_exit = λ m image. at_exit status base f.begun (acknowledged f.begun answers wrote) m
          (exit_kept base.list runs.next d f.begun (acknowledged f.begun answers wrote) f.has_begun f.left
          first m image);
      rests = rests_at status runs.next d (at_rest runs.next d f.left);
      of_store = opened_store status was_opened;
    }

-- ---- the beginning

-- where the store is known, the state of its list is one of now
abbrev pub Starts : Option Base → (KnownState → Type 0) → Type 0
Starts None Now = Unit {0}
Starts (Some base) Now = Now (start_at base.list)

-- nothing was answered yet
pub told_begins : {tells : Type 0} (e : RunStart) (faults : ℕ) (Now : Sight) → e.disk ≤ faults
    → Starts e.from (Now known) → Now any e.start → Told tells e [] e.written e.shelf faults Now
told_begins {tells = tells} e faults Now later begins start =
    record {
      answers = [];
      run = by e.from begins;
      order = record { next = e.start; step = (refl, refl); now = start };
      shelf_counted = λ short. omega arith;
      disk_counted = λ short. omega arith;
      other = tt;
      appended = Appends-nil e.written;
    }
  where
    by : (from : Option Base) → Starts from (Now known) → Runs (Holds tells e.files) from [] [] (Now known)
    by None b = tt
    by (Some base) b = record { next = start_at base.list; step = (refl, refl); now = b }

-- where the store is known, an engine that was opened begins with its list
pub starts : (tells : Type 0) (moment : ℕ) (entry : disk.State) (from : Option Base) (Now : Base → KnownState → Type 0)
    → IsKnown tells from moment entry → ((base : Base) → HasStore tells base moment entry
    → Now base (start_at base.list)) → Starts from (Now (base_of from))
starts tells moment entry None Now knows begins = tt
starts tells moment entry (Some base) Now knows begins = begins base knows

-- and up to the end of opening nothing is begun
pub opens_by : {D : Type 0} (tells : Type 0) (clock : D → ℕ) (since : D → ℕ → FileMap → Type 0) (state : D → disk.State)
    (old opened : D) (from : Option Base) → IsKnown tells from (clock old) (state old)
    → (tells → (list : List Publication) (early : List (List Publication)) → IsStore list early (state old)
    → AddsOnly clock since old opened (StandsForOne (list ∷ early))) → OpensBy clock since from old opened
opens_by tells clock since state old opened None knows moments = tt
opens_by tells clock since state old opened (Some base) knows moments =
    moments knows.told base.list base.early knows.store

-- ---- no store was opened

pub take-none : (n : ℕ) (l : List Publication) → l ≡ [] → take n l ≡ []
take-none zero l e = refl
take-none (suc n) [] e = refl
take-none (suc n) (x ∷ l) e = cc

-- a store of which nothing was read
abbrev pub nothing_yet : StateIn any_store
nothing_yet = record {
  list = record { versions = 0; entries = 0 };
  pending = [];
  going = None;
  halted = None;
  sessions = [];
  opened = 0;
}

pub fresh_yet : IsFreshIn any_store nothing_yet
fresh_yet = record { pending = refl; going = refl; halted = refl; sessions = refl; opened = refl }

-- of a store that wasn't opened: the state is that of its list
abbrev pub Shut : Option Base → Sight
Shut from known s = Starts from (λ t. s ≡ t)
Shut from any s = Unit {0}

starts_shut : (from : Option Base) → Starts from (Shut from known)
starts_shut None = tt
starts_shut (Some base) = refl

pub told_shut : {tells : Type 0} (e : RunStart) (faults : ℕ) → e.disk ≤ faults
    → Told tells e [] e.written e.shelf faults (Shut e.from)
told_shut e faults later = told_begins e faults (Shut e.from) later (starts_shut e.from) tt

rests_shut : (status : Status) (s : KnownState) (d : disk.State) → HasNoStore status → RestsAt status s d
rests_shut Done s d c = absurd c
rests_shut Memory s d c = tt
rests_shut Usage s d c = tt
rests_shut InputFault s d c = absurd c
rests_shut OutputFault s d c = absurd c
rests_shut StoreFault s d c = tt
rests_shut (NotAStore version place) s d c = tt
rests_shut TooLong s d c = absurd c
rests_shut (Differs path) s d c = absurd c
rests_shut (Refused limit) s d c = absurd c
rests_shut (Damaged expected found) s d c = absurd c

exit_shut : (status : Status) (base : Base) (kept : List Publication) (m : FileMap) → HasNoStore status
    → StandsKept base.list [] kept m ⊎ StandsForOne base.early m
    → StandsAtExit status base [] kept m
exit_shut Done base kept m c s = absurd c
exit_shut Memory base kept m c s = s
exit_shut Usage base kept m c s = s
exit_shut InputFault base kept m c s = absurd c
exit_shut OutputFault base kept m c s = absurd c
exit_shut StoreFault base kept m c s = s
exit_shut (NotAStore version place) base kept m c s = s
exit_shut TooLong base kept m c s = absurd c
exit_shut (Differs path) base kept m c s = absurd c
exit_shut (Refused limit) base kept m c s = absurd c
exit_shut (Damaged expected found) base kept m c s = absurd c

since_shut : (status : Status) (base : Base) (opened now : ℕ) (Since : ℕ → FileMap → Type 0) → HasNoStore status
    → StandsSinceOpening status base [] opened now Since
since_shut Done base opened now Since c = absurd c
since_shut Memory base opened now Since c = tt
since_shut Usage base opened now Since c = tt
since_shut InputFault base opened now Since c = absurd c
since_shut OutputFault base opened now Since c = absurd c
since_shut StoreFault base opened now Since c = tt
since_shut (NotAStore version place) base opened now Since c = tt
since_shut TooLong base opened now Since c = absurd c
since_shut (Differs path) base opened now Since c = absurd c
since_shut (Refused limit) base opened now Since c = absurd c
since_shut (Damaged expected found) base opened now Since c = absurd c

-- the run ended in opening: every image stands for the list, or for one of the early ones
pub closed : {D : Type 0} (tells : Type 0) (Has : Text → Content → Type 0) (clock : D → ℕ)
    (since : D → ℕ → FileMap → Type 0) (state : D → disk.State) (old new : D) (from : Option Base) (status : Status)
    (items : List Item) (answers : List Answer) (wrote : Text) → HasNoStore status
    → (tells → (list : List Publication) (early : List (List Publication)) → IsStore list early (state old)
    → IsOfStore status) → IsKnown tells from (clock old) (state old)
    → (tells → (list : List Publication) (early : List (List Publication)) → IsStore list early (state old)
    → AddsOnly clock since old new (StandsForOne (list ∷ early)))
    → ((m : FileMap) → since old (clock old) m → IsImage (state old) m)
    → ((m : FileMap) → clock old ≤ clock new → IsImage (state new) m → since new (clock old) m)
    → Runs Has from items answers (λ s. Shut from known s
    × EndsUnwritten status known_store Has (start_at (base_of from).list) items answers s)
    → EndsFrom Has from status items answers wrote (clock new) (clock new) (since new) (state new)
closed tells Has clock since state old new None status items answers wrote shut of_store knows moments only_now
    counts_now runs = tt
closed tells Has clock since state old new (Some base) status items answers wrote shut of_store knows moments only_now
    counts_now runs =
    record {
      state = runs.next;
      run = runs.step;
      last = runs.now.1;
      begun = [];
      has_begun = record {
        complete = [];
        list_is = ap (λ (s : KnownState). s.list) runs.now.0 ∙ sym (append-nil base.list);
        begun_is = ap (λ (s : KnownState). unfinished s.going s.halted) (sym runs.now.0);
      };
      since = since_entry;
      since_opening = since_shut status base (clock new) (clock new) (since new) shut;
      at_exit = λ m image. exit_shut status base kept m shut (either m (since_entry m
          (subst (λ (t : ℕ). since new t m) (sym knows.now) (counts_now m adds.later image))));
      rests = rests_shut status runs.next (state new) shut;
      of_store = of_store knows.told base.list base.early knows.store;
    }
  where
    adds : AddsOnly clock since old new (StandsForOne (base.list ∷ base.early))
    adds = moments knows.told base.list base.early knows.store

    since_entry : (m : FileMap) → since new base.moment m → StandsSince base [] m
    since_entry = early_since clock since state old new base [] knows.now knows.store adds only_now

    kept : List Publication
    kept = acknowledged [] answers wrote

    either : (m : FileMap) → StandsSince base [] m → StandsKept base.list [] kept m ⊎ StandsForOne base.early m
    either m (inl s) = inl record {
      first = s.first;
      later = s.later;
      more = s.first;
      joined = s.joined;
      holds = sym (ap (λ (l : List Publication). l ++ s.first)
          (take-none (tally completes (whole_answers answers wrote)) [] refl));
      stands = s.stands;
    }
    either m (inr e) = inr e

-- ---- the whole outcome

abbrev pub whole_outcome : {tells : Type 0} {e : RunStart} {shelf faults : ℕ}
    {left left' written written' : Option (List ℕ)} {Now : Sight} (status result : Status) (now : ℕ)
    (Since : ℕ → FileMap → Type 0) (d : disk.State)
    → ((items : List Item) (answers : List Answer) (wrote : Text)
    → Runs (Holds tells e.files) e.from items answers (Unwritten tells e status items answers Now known)
    → EndsFrom (Holds tells e.files) e.from status items answers wrote e.opened now Since d)
    → StopsScript tells e shelf faults left left' written Now status → EndsWith status written written' result
    → Outcome tells e shelf faults left left' written' now Since d result
whole_outcome {written = written} status result now Since d ends s line =
    record {
      status = status;
      written = written;
      transcript = s.transcript;
      run = ends s.transcript.items s.transcript.answers s.transcript.wrote s.run;
      order = record { next = s.order.next; step = s.order.step; now = s.order.now.1 };
      ends = line;
    }

-- nothing was opened: the disk is as it was
pub unopened : {D : Type 0} (tells : Type 0) (Has : Text → Content → Type 0) (clock : D → ℕ)
    (since : D → ℕ → FileMap → Type 0) (state : D → disk.State) (d : D) (from : Option Base) (status : Status)
    (items : List Item) (answers : List Answer) (wrote : Text) → HasNoStore status → IsOfStore status
    → IsKnown tells from (clock d) (state d)
    → ((m : FileMap) → since d (clock d) m → IsImage (state d) m)
    → ((m : FileMap) → clock d ≤ clock d → IsImage (state d) m → since d (clock d) m)
    → Runs Has from items answers (λ s. Shut from known s
    × EndsUnwritten status known_store Has (start_at (base_of from).list) items answers s)
    → EndsFrom Has from status items answers wrote (clock d) (clock d) (since d) (state d)
unopened tells Has clock since state d from status items answers wrote shut of_store knows only_now counts_now runs =
    closed tells Has clock since state d d from status items answers wrote shut
    (λ told list early store. of_store) knows
    (λ told list early store. record { later = omega arith; nothing_else = λ t m earlier was. inl was }) only_now
    counts_now runs
