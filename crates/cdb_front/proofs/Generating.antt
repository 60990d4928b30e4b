-- How a run of mode generate ends.
use Rattle.std.proofs.Common.{◌≡◌, ◌⊎◌, inl, inr, ℕ, ◌≤◌, List, [], ◌∷◌, Option, None, Result, Ok}
use Rattle.std.proofs.Common.{Err, refl, sym, ap, ◌∙◌, subst, arith}
use Rattle.std.proofs.KnownBytes.{Appends-nil}
use Rattle.std.specs.Io.KnownBytes.{Appends}
use Rattle.cdb_model.specs.Images.{Base, StandsFrom, StandsForOne}
use Rattle.cdb_model.specs.KnownStore.{KnownState, start_at}
use Rattle.cdb_model.specs.Maps.{FileMap}
use Rattle.cdb_model.specs.Publications.{Publication}
use Rattle.cdb_model.specs.Stands.{Stands}
use Rattle.cdb_model.specs.Stores.{Which, known, any, any_store, store_kind}
use Rattle.cdb_model.specs.Text.{Text}
use Rattle.cdb_model.specs.Transitions.{StateIn, IsFreshIn}
use Rattle.cdb_files.specs.Disk as disk
use Rattle.cdb_files.specs.Disk.{IsImage}
use Rattle.cdb_files.specs.Moments.{AddsOnly}
use Rattle.cdb_chain.specs.declared.open_error.OpenError.{OpenError}
use Rattle.cdb_chain.specs.declared.open_error.OpenError.TheVariants as refused
use Rattle.cdb_engine.specs.Checks.{AreOpened}
use Rattle.cdb_engine.specs.Held.{Held}
use Rattle.cdb_engine.specs.OtherSizes.{FillFindsOther}
use Rattle.cdb_engine.specs.Stays.{Stays, bare_of}
use Rattle.cdb_engine.specs.Store.{IsStore, IsStoreFound}
use Rattle.cdb_engine.specs.Tracks.{Origin, Leads}
use Rattle.cdb_generate.specs.Generated.{Generates, summary_text}
use Rattle.cdb_generate.specs.Generator.{passed}
use Rattle.cdb_engine.specs.Filling.{StandsButLast, PopulatesIn, StopsAfter, Populates, IsUndamaged}
use Rattle.cdb_engine.specs.Populating.{IsAtRest, HasPending}
use Rattle.cdb_engine.specs.declared.errors.PopulateError.{PopulateError}
use Rattle.cdb_engine.specs.declared.errors.PopulateError.TheVariants as populate
use Rattle.cdb_engine.specs.declared.filling.Made.{Made}
use Rattle.cdb_engine.proofs.OpenStays.{of_entry, early_since}
use Rattle.cdb_front.specs.Devices.{WritesPart}
use Rattle.cdb_front.specs.EntryStore.{HasStore}
use Rattle.cdb_front.specs.Generating.{BeginsFresh, MakesAll, StopsFrom, SaysMade, SumsUp, EndsMade, StandsMade}
use Rattle.cdb_front.specs.Generating.{Fills, CompletesFillOf}
use Rattle.cdb_front.specs.inside.Generating.{made_status}
use Rattle.cdb_front.specs.OverStore.{OpensWithin, in_opening, behind_opening}
use Rattle.cdb_front.specs.RunOutcome.{EndsWith, is_whole, status_of}
use Rattle.cdb_front.specs.declared.exit_status.Limit.{Limit}
use Rattle.cdb_front.specs.declared.exit_status.Limit.TheVariants.{Entries, Versions}
use Rattle.cdb_front.specs.declared.exit_status.Status.{Status}
use Rattle.cdb_front.specs.declared.exit_status.Status.TheVariants.{Done, Memory, Usage, InputFault, OutputFault}
use Rattle.cdb_front.specs.declared.exit_status.Status.TheVariants.{StoreFault, NotAStore, TooLong, Differs, Refused}
use Rattle.cdb_front.specs.declared.exit_status.Status.TheVariants.{Damaged}
use Rattle.cdb_front.proofs.Checking.{no_rise, ends_as}
use Rattle.cdb_front.proofs.OverStore.{no_store, since_entry, whole_at_rest}

-- ---- nothing was begun

module _ {D : Type 0} (tells : Type 0) (state : D → disk.State) (clock : D → ℕ) (since : D → ℕ → FileMap → Type 0)
    (old : D) (only_now : (m : FileMap) → since old (clock old) m → IsImage (state old) m) (start count : ℕ)
    (written written' : Option (List ℕ)) where
  none_begun : (new : D) (base : Base) → HasStore tells base (clock old) (state old)
      → AddsOnly clock since old new (StandsForOne (base.list ∷ base.early))
      → Generates base start count (since new base.moment) []
  none_begun new base has adds = record {
    drawn = tt;
    few = omega arith;
    since = early_since clock since state old new base [] has.now has.store adds only_now;
  }

  pub fills_nothing : (result : Status) → EndsWith Memory written written' result
      → Fills tells state clock since start count old old written written' result
  fills_nothing result ends = record {
    status = Memory;
    mid = written;
    says = refl;
    store = λ base has. record {
      begun = [];
      generates = none_begun old base has record { later = omega arith; nothing_else = λ t m earlier was. inl was };
      over = in_opening tt refl (λ m image. of_entry base.list base.early (state old) m has.store image);
      ends = tt;
    };
    ends = ends;
  }

  says_unopened : (error : OpenError) → SaysMade tells (state old).present start count written written (status_of error)
  says_unopened refused.Memory = refl
  says_unopened refused.Fault = refl
  says_unopened (refused.NotAStore version place) = refl

  ends_unopened : (error : OpenError) (list : List Publication) (Left : FileMap → Type 0) → IsStoreFound error
      → EndsMade list start count [] Left written written (status_of error)
  ends_unopened refused.Memory list Left found = tt
  ends_unopened refused.Fault list Left found = tt
  ends_unopened (refused.NotAStore version place) list Left found = absurd found

  pub fills_unopened : (new : D) → (tells → (list : List Publication) (early : List (List Publication))
      → IsStore list early (state old) → AddsOnly clock since old new (StandsForOne (list ∷ early)))
      → ((m : FileMap) → clock old ≤ clock new → IsImage (state new) m → since new (clock old) m)
      → (error : OpenError) (status result : Status) → status ≡ status_of error
      → (tells → (list : List Publication) (early : List (List Publication)) → IsStore list early (state old)
      → IsStoreFound error)
      → EndsWith status written written' result
      → Fills tells state clock since start count old new written written' result
  fills_unopened new moments counts_now error status result is found ends = record {
    status = status_of error;
    mid = written;
    says = says_unopened error;
    store = λ base has. let adds = moments has.told base.list base.early has.store in record {
      begun = [];
      generates = none_begun new base has adds;
      over = in_opening (no_store error) refl (λ m image. since_entry clock since state old new base has.store adds
          only_now m (counts_now m adds.later image));
      ends = ends_unopened error base.list (IsImage (state new)) (found has.told base.list base.early has.store);
    };
    ends = subst (λ (s : Status). EndsWith s written written' result) is ends;
  }

-- ---- a store was opened

-- what is known of the store behind the making of publications
pub record Came {D : Type 0} (state : D → disk.State) (clock : D → ℕ) (since : D → ℕ → FileMap → Type 0)
    (old mid new : D)
    (base : Base) (start count : ℕ) (result : Result Made PopulateError) : Type 0 where
  pub opening : AddsOnly clock since old mid (StandsForOne (base.list ∷ base.early))
  pub earlier : clock mid ≤ clock new
  pub next : KnownState
  pub step : PopulatesIn known (start_at base.list) start count result next
  pub rests : next.going ≡ None → next.halted ≡ None → (m : FileMap) → IsImage (state new) m → Stands m next.list
  pub populates : Populates base start count (since new base.moment) (since new (clock mid))
      (IsImage (state new)) result

abbrev pub as_made : Made → Result Made PopulateError
as_made made = Ok made

abbrev pub as_stopped : PopulateError → Result Made PopulateError
as_stopped error = Err error

-- an origin of which nothing is asked
abbrev pub no_origin : Origin
no_origin = record { store = record { list = []; early = []; moment = 0 }; opened = 0; faults = 0 }

module _ {D : Type 0} (tells : Type 0) (state : D → disk.State) (clock faults : D → ℕ)
    (since : D → ℕ → FileMap → Type 0)
    (old mid new : D) (held held' : Held) (start count : ℕ) (result : Result Made PopulateError)
    (follows : (w : Which) (origin : Origin) (s : StateIn (store_kind w))
    → Stays tells clock faults since state origin mid held w s → IsAtRest (store_kind w) s
    → Leads (PopulatesIn w s start count result) (Stays tells clock faults since state origin new held' w)) where
  pub came : (tells → (base : Base) (fewest : ℕ) → base.moment ≡ clock old → IsStore base.list base.early (state old)
      → fewest ≤ faults mid → Stays tells clock faults since state
      (record { store = base; opened = clock mid; faults = fewest }) mid held known (start_at base.list))
      → (tells → (list : List Publication) (early : List (List Publication)) → IsStore list early (state old)
      → AddsOnly clock since old mid (StandsForOne (list ∷ early)))
      → ((origin : Origin) → Stays tells clock faults since state origin mid held known (start_at origin.store.list)
      → Populates origin.store start count (since new origin.store.moment) (since new origin.opened)
      (IsImage (state new)) result)
      → (base : Base) → HasStore tells base (clock old) (state old)
      → Came state clock since old mid new base start count result
  came opened moments populates base has =
      let origin : Origin = record { store = base; opened = clock mid; faults = 0 } in
      let stays = opened has.told base 0 has.now has.store (omega arith) in
      let led = follows known origin (start_at base.list) stays
      record { pending = refl; going = refl; halted = refl; sessions = refl } in
      let f = led.now.is in
      record {
        opening = moments has.told base.list base.early has.store;
        earlier = f.earlier;
        next = led.next;
        step = led.step;
        rests = λ idle running. (whole_at_rest led.next held' (state new) f.tracks idle running).stands;
        populates = populates origin stays;
      }

  -- and of the machine, whatever the disk holds
  pub goes_any : IsFreshIn any_store (bare_of held)
      → Leads (PopulatesIn any (bare_of held) start count result)
      (Stays tells clock faults since state no_origin new held' any)
  goes_any fresh = follows any no_origin (bare_of held) record { is = refl }
      record { pending = fresh.pending; going = fresh.going; halted = fresh.halted; sessions = fresh.sessions }

pub begins_fresh : (tells : Type 0) (present mid : FileMap) (held : Held) → IsFreshIn any_store (bare_of held)
    → (tells → AreOpened present mid held.chain.records) → BeginsFresh tells present (bare_of held)
begins_fresh tells present mid held fresh read = record {
  fresh = fresh;
  read = λ told. record { left = mid; records = held.chain.records; opened = read told; list_is = refl };
}

-- ---- publications were made

-- all of them, and this much was written of the three lines
makes_all : (tells : Type 0) (present : FileMap) (entry last : StateIn any_store) (start count : ℕ) (made : Made)
    (Wrote : Text → Type 0) → BeginsFresh tells present entry → PopulatesIn any entry start count (Ok made) last
    → Wrote (summary_text made.versions made.files made.sum) → MakesAll tells present start count Wrote
makes_all tells present entry last start count made Wrote begins step wrote = record {
  entry = entry;
  begins = begins;
  files = made.files;
  sum = made.sum;
  next = last;
  made = step.0;
  wrote = subst (λ (n : ℕ). Wrote (summary_text n made.files made.sum)) step.1 wrote;
}

sums_up : (base : Base) (start count : ℕ) (Since Opened Left : FileMap → Type 0) (made : Made) (Wrote : Text → Type 0)
    (p : Populates base start count Since Opened Left (Ok made))
    → Wrote (summary_text made.versions made.files made.sum)
    → SumsUp base.list p.begun count Left Wrote
sums_up base start count Since Opened Left made Wrote p wrote = record {
  text = summary_text made.versions made.files made.sum;
  wrote = wrote;
  summary = record {
    all = p.filled.all;
    at_exit = p.filled.at_exit;
    tells = record {
      files = made.files;
      files_are = p.filled.files_are;
      sum = made.sum;
      sum_is = p.filled.sum_is;
      lines = ap (λ (n : ℕ). summary_text n made.files made.sum) p.filled.versions_are;
    };
  };
}

-- a store that can't have them all
stops_then : (error : PopulateError) → (error ≡ populate.Memory → ⊥) → (w : Which) (old new : StateIn (store_kind w))
    (start count : ℕ) → PopulatesIn w old start count (Err error) new → StopsAfter w old start count error new
stops_then error other w old new start count (inl nothing) = absurd (other nothing.0)
stops_then error other w old new start count (inr stops) = stops

module _ (tells : Type 0) (present : FileMap) (entry last : StateIn any_store) (start count : ℕ)
    (written : Option (List ℕ)) (begins : BeginsFresh tells present entry) where
  stops_from : (error : PopulateError) → (error ≡ populate.Memory → ⊥)
      → PopulatesIn any entry start count (Err error) last → StopsFrom tells present start count error
  stops_from error other step = record {
    entry = entry;
    begins = begins;
    next = last;
    stops = stops_then error other any entry last start count step;
  }

  says_stopped : (error : PopulateError) → PopulatesIn any entry start count (Err error) last → FillFindsOther error
      → SaysMade tells present start count written written (made_status error)
  says_stopped populate.Memory step other = refl
  says_stopped populate.Fault step other = refl
  says_stopped (populate.Entries n) step other = (refl, stops_from (populate.Entries n) (λ e. cc) step)
  says_stopped populate.Versions step other = (refl, stops_from populate.Versions (λ e. cc) step)
  says_stopped (populate.Damaged expected found) step other =
      (refl, (other, stops_from (populate.Damaged expected found) (λ e. cc) step))

-- sources that are pending leave the writer as it was
still : (mid next : KnownState) (x : ℕ) → mid.halted ≡ None → HasPending known mid x next → next.halted ≡ None
still mid next x running pending = ap (λ (s : KnownState). s.halted) pending.state ∙ running

idle_still : (mid next : KnownState) (x : ℕ) → mid.going ≡ None → HasPending known mid x next → next.going ≡ None
idle_still mid next x idle pending = ap (λ (s : KnownState). s.going) pending.state ∙ idle

module _ {D : Type 0} (tells : Type 0) (state : D → disk.State) (clock : D → ℕ) (since : D → ℕ → FileMap → Type 0)
    (old mid new : D) (start count : ℕ) (written written' : Option (List ℕ)) where
  opens_within : (base : Base) (result : Result Made PopulateError)
      → (c : Came state clock since old mid new base start count result)
      → OpensWithin clock since base old new (StandsFrom base.list c.populates.begun)
  opens_within base result c = record {
    mid = mid;
    opening = c.opening;
    earlier = c.earlier;
    later = c.populates.later_images;
  }

  ends_stopped : (error : PopulateError) (base : Base) (begun : List Publication)
      → Came state clock since old mid new base start count (Err error) → IsUndamaged error
      → EndsMade base.list start count begun (IsImage (state new)) written written (made_status error)
  ends_stopped populate.Memory base begun c undamaged = tt
  ends_stopped populate.Fault base begun c undamaged = tt
  ends_stopped (populate.Entries n) base begun c undamaged =
      let stops = stops_then (populate.Entries n) (λ e. cc) known (start_at base.list) c.next start count c.step in
      record {
        next = c.next;
        stops = stops;
        at_exit = c.rests
            (idle_still stops.mid c.next (passed stops.done start) stops.made.at_rest.going stops.stops.0)
            (still stops.mid c.next (passed stops.done start) stops.made.at_rest.halted stops.stops.0);
      }
  ends_stopped populate.Versions base begun c undamaged =
      let stops = stops_then populate.Versions (λ e. cc) known (start_at base.list) c.next start count c.step in
      record {
        next = c.next;
        stops = stops;
        at_exit = c.rests
            (idle_still stops.mid c.next (passed stops.done start) stops.made.at_rest.going stops.stops.0)
            (still stops.mid c.next (passed stops.done start) stops.made.at_rest.halted stops.stops.0);
      }
  ends_stopped (populate.Damaged expected found) base begun c undamaged = absurd undamaged

  stands_stopped : (error : PopulateError) (list begun : List Publication) (m : FileMap) → StandsButLast list begun m
      → StandsMade (made_status error) list begun m
  stands_stopped populate.Memory list begun m stands = stands
  stands_stopped populate.Fault list begun m stands = stands
  stands_stopped (populate.Entries n) list begun m stands = stands
  stands_stopped populate.Versions list begun m stands = stands
  stands_stopped (populate.Damaged expected found) list begun m stands = stands

  pub fills_stopped : (error : PopulateError) (status result : Status) → status ≡ made_status error
      → (entry last : StateIn any_store) → BeginsFresh tells (state old).present entry
      → PopulatesIn any entry start count (Err error) last → FillFindsOther error
      → ((base : Base) → HasStore tells base (clock old) (state old)
      → Came state clock since old mid new base start count (Err error))
      → EndsWith status written written' result
      → Fills tells state clock since start count old new written written' result
  fills_stopped error status result is entry last begins step other came ends = record {
    status = made_status error;
    mid = written;
    says = says_stopped tells (state old).present entry last start count written begins error step other;
    store = λ base has. let c = came base has in record {
      begun = c.populates.begun;
      generates = c.populates.generates;
      over = behind_opening (opens_within base (Err error) c) (λ m image. stands_stopped error base.list
          c.populates.begun m (c.populates.left m image));
      ends = ends_stopped error base c.populates.begun c c.populates.undamaged;
    };
    ends = subst (λ (s : Status). EndsWith s written written' result) is ends;
  }

  pub fills_all : (made : Made) (entry last : StateIn any_store) → BeginsFresh tells (state old).present entry
      → PopulatesIn any entry start count (Ok made) last
      → ((base : Base) → HasStore tells base (clock old) (state old)
      → Came state clock since old mid new base start count (Ok made))
      → Appends written written' (summary_text made.versions made.files made.sum)
      → Fills tells state clock since start count old new written written' Done
  fills_all made entry last begins step came appended = record {
    status = Done;
    mid = written';
    says = makes_all tells (state old).present entry last start count made (Appends written written') begins step
        appended;
    store = λ base has. let c = came base has in record {
      begun = c.populates.begun;
      generates = c.populates.generates;
      over = behind_opening (opens_within base (Ok made) c) c.populates.filled.at_exit;
      ends = sums_up base start count _ _ (IsImage (state new)) made (Appends written written') c.populates appended;
    };
    ends = is_whole (Appends-nil written');
  }

  pub fills_torn : (made : Made) (entry last : StateIn any_store) → BeginsFresh tells (state old).present entry
      → PopulatesIn any entry start count (Ok made) last
      → ((base : Base) → HasStore tells base (clock old) (state old)
      → Came state clock since old mid new base start count (Ok made))
      → WritesPart written written' (summary_text made.versions made.files made.sum)
      → Fills tells state clock since start count old new written written' OutputFault
  fills_torn made entry last begins step came part = record {
    status = OutputFault;
    mid = written';
    says = makes_all tells (state old).present entry last start count made (WritesPart written written') begins step
        part;
    store = λ base has. let c = came base has in record {
      begun = c.populates.begun;
      generates = c.populates.generates;
      over = behind_opening (opens_within base (Ok made) c) c.populates.filled.at_exit;
      ends = sums_up base start count _ _ (IsImage (state new)) made (WritesPart written written') c.populates part;
    };
    ends = is_whole (Appends-nil written');
  }

-- ---- a store was opened

pub stopped_is_one : (error : PopulateError) (status : Status) → status ≡ made_status error → (version place : ℕ)
    → status ≡ NotAStore version place → ⊥
stopped_is_one error status is version place e = by error (sym is ∙ e)
  where
    by : (error : PopulateError) → made_status error ≡ NotAStore version place → ⊥
    by populate.Memory told = let other : Memory ≡ NotAStore version place = told in cc
    by populate.Fault told = let other : StoreFault ≡ NotAStore version place = told in cc
    by (populate.Entries n) told = let other : Refused (Entries n) ≡ NotAStore version place = told in cc
    by populate.Versions told = let other : Refused Versions ≡ NotAStore version place = told in cc
    by (populate.Damaged expected found) told =
        let other : Damaged expected found ≡ NotAStore version place = told in cc

-- ---- no device fails

abbrev IsDoneOrLimit : Status → Type 0
IsDoneOrLimit s = (s ≡ Done) ⊎ ((s ≡ Memory) ⊎ ((limit : Limit) × (s ≡ Refused limit)))

pub completes_fill : {D O : Type 0} (tells : Type 0) (state : D → disk.State) (clock : D → ℕ)
    (since : D → ℕ → FileMap → Type 0) (disk_faults : D → ℕ) (written : O → Option (List ℕ)) (output_faults : O → ℕ)
    → CompletesFillOf tells state clock since disk_faults written output_faults
completes_fill tells state clock since disk_faults written output_faults start count old new output output' status base
    has fills store_failed output_failed disk_still output_still =
    by (ends_as fills.status status fills.mid (written output') fills.ends)
  where
    plain : (inner : Status)
        → SaysMade tells (state old).present start count (written output) fills.mid inner
        → EndsMade base.list start count ((fills.store base has).begun) (IsImage (state new)) (written output) fills.mid
        inner → (inner ≡ StoreFault → ⊥) → (inner ≡ OutputFault → ⊥) → IsDoneOrLimit inner
    plain Done says ends stored wrote = inl refl
    plain Memory says ends stored wrote = inr (inl refl)
    plain (Refused limit) says ends stored wrote = inr (inr (limit, refl))
    plain StoreFault says ends stored wrote = absurd (stored refl)
    plain OutputFault says ends stored wrote = absurd (wrote refl)
    plain Usage says ends stored wrote = absurd says
    plain InputFault says ends stored wrote = absurd says
    plain TooLong says ends stored wrote = absurd says
    plain (Differs path) says ends stored wrote = absurd says
    plain (NotAStore version place) says ends stored wrote = absurd ends
    plain (Damaged expected found) says ends stored wrote = absurd ends

    unwritten : status ≡ OutputFault → ⊥
    unwritten e = no_rise (output_faults output) (output_faults output') output_still (output_failed e)

    by : (status ≡ fills.status) ⊎ (status ≡ OutputFault) → IsDoneOrLimit status
    by (inr e) = absurd (unwritten e)
    by (inl e) = subst IsDoneOrLimit (sym e) (plain fills.status fills.says ((fills.store base has).ends)
        (λ s. no_rise (disk_faults old) (disk_faults new) disk_still (store_failed (e ∙ s)))
        (λ s. unwritten (e ∙ s)))
