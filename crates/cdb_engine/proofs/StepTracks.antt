-- What one step of a publication makes of what an engine tracks.
use Rattle.std.proofs.Common.{◌≡◌, ℕ, zero, suc, min, ◌+◌, ◌-◌, ◌^◌, ◌<◌, ◌≤◌, ◌⊎◌, inl, inr, List, [], ◌∷◌, ◌++◌}
use Rattle.std.proofs.Common.{length, Option, None, Some, IfSome, false, Result, Ok, Err, OnOk, OnErr, IfOk, IfErr}
use Rattle.std.proofs.Common.{refl, ap, sym, ◌∙◌, append_assoc, append-nil, length-append, subst, arith}
use Rattle.std.specs.List.{AllByRecursion}
use Rattle.std.specs.Option.{is_some}
use Rattle.cdb_model.specs.Begun.{unfinished}
use Rattle.cdb_model.specs.Causes.{Rose}
use Rattle.cdb_model.specs.Events as machine
use Rattle.cdb_model.specs.Images.{StandsFrom, StandsSince}
use Rattle.cdb_model.specs.KnownStore.{KnownState, Going}
use Rattle.cdb_model.specs.Maps.{FileMap}
use Rattle.cdb_model.specs.Publications.{Publication, step_count}
use Rattle.cdb_model.specs.Stands.{Stands}
use Rattle.cdb_model.specs.Stores.{known_store, any_store, Counted}
use Rattle.cdb_model.proofs.OneLists.{one_touched}
use Rattle.cdb_files.specs.Disk as disk
use Rattle.cdb_files.specs.Disk.{IsImage}
use Rattle.cdb_files.specs.Moments.{AddsOnly}
use Rattle.cdb_crash.specs.Crash.{IsClean, IsEither}
use Rattle.cdb_chain.specs.Publications.{AreRecords}
use Rattle.cdb_chain.specs.Versions.{Versions}
use Rattle.cdb_publish.specs.Causes.{IsCaused}
use Rattle.cdb_publish.specs.Entries.{entries_in, AddsRecord}
use Rattle.cdb_publish.specs.Going.{Underway, left_of, TellsProgress}
use Rattle.cdb_publish.specs.declared.errors.Progress.{Progress}
use Rattle.cdb_publish.specs.declared.errors.Progress.TheVariants as progress
use Rattle.cdb_publish.specs.declared.errors.StepError.{StepError}
use Rattle.cdb_publish.specs.declared.errors.StepError.TheVariants as made
use Rattle.cdb_publish.specs.declared.publication.Publication as publish
use Rattle.cdb_sessions.specs.Cache.{Kept}
use Rattle.cdb_engine.specs.Held.{Held, CanStep, IsEngine}
use Rattle.cdb_engine.specs.StoreAnswers.{TriesIn, advance_answer, advance_of, HaltsBy, AdvanceCause}
use Rattle.cdb_engine.specs.inside.StoreAnswers.{work_after, halt_after}
use Rattle.cdb_engine.specs.Stays.{bare_of, going_of}
use Rattle.cdb_engine.specs.Tracks.{IsGoing, Works, IsFileOf, Tracks, Origin, Follows, Leads, DuringStep, DuringNow}
use Rattle.cdb_engine.proofs.StepCounts.{entries_more}

-- ---- lists

pub all_map : {A : Type 0} (P Q : A → Type 0) (xs : List A) → ((x : A) → P x → Q x) → AllByRecursion P xs
    → AllByRecursion Q xs
all_map P Q [] f all = tt
all_map P Q (x ∷ xs) f all = (f x all.0, all_map P Q xs f all.1)

-- a file of a list is one of the list with a publication more
pub file_more : (list : List Publication) (x : Publication) (k : Kept) → IsFileOf list k → IsFileOf (list ++ x ∷ []) k
file_more list x k f = record {
  earlier = f.earlier;
  x = f.x;
  later = f.later ++ x ∷ [];
  list_is = ap (λ l. l ++ x ∷ []) f.list_is ∙ append_assoc f.earlier (f.x ∷ f.later) (x ∷ []);
  version_is = f.version_is;
  reached = f.reached;
  bytes_are = f.bytes_are;
}

pub not_there : {A : Type 0} (a : Option A) → false ≡ is_some a → a ≡ None
not_there None e = refl
not_there (Some a) e = cc

pub rose_later : (a b c : ℕ) → a ≤ b → Rose b c → Rose a c
rose_later a b c le rose = let r : min (b + 1) (2 ^ 64 - 1) ≤ c = rose in omega (arith, le, r)

-- the publication can make a step
pub can_of : (chain : Versions) (o : Option publish.Publication) (work : publish.Publication) → o ≡ Some work
    → IfSome o (CanStep chain) → CanStep chain work
can_of chain o work is can = let all : IfSome (Some work) (CanStep chain) =
    subst (λ (w : Option publish.Publication). IfSome w (CanStep chain)) is can in all

-- ---- the engine before the step

-- an engine with a publication to work on, that isn't halted, is in the middle of one
pub record InMiddle (s : KnownState) (chain : Versions) (work : publish.Publication) (d : disk.State) : Type 0 where
  pub now : Going
  pub going : s.going ≡ Some now
  pub running : s.halted ≡ None
  pub is : IsGoing s.list now work chain d

pub middle : (held : Held) (d : disk.State) (s : KnownState) (work : publish.Publication) → held.work ≡ Some work
    → held.halted ≡ None → Tracks held d s → InMiddle s held.chain work d
middle held d s work has running t =
    by s.going s.halted refl refl
    (subst (λ (h : Option ℕ). Works s.list s.going s.halted (Some work) h held.chain d) running
    (subst (λ (w : Option publish.Publication). Works s.list s.going s.halted w held.halted held.chain d) has t.works))
  where
    by : (going : Option Going) (given_up : Option Publication) → s.going ≡ going → s.halted ≡ given_up
        → Works s.list going given_up (Some work) None held.chain d → InMiddle s held.chain work d
    by (Some now) None a b g = record { now = now; going = a; running = b; is = g }
    by None None a b g = absurd g
    by None (Some x) a b g = absurd g
    by (Some now) (Some x) a b g = absurd g

-- ---- the moments of a step

pub adds_map : {D : Type 0} (clock : D → ℕ) (since : D → ℕ → FileMap → Type 0) (old new : D) (P Q : FileMap → Type 0)
    → ((m : FileMap) → P m → Q m) → AddsOnly clock since old new P → AddsOnly clock since old new Q
adds_map clock since old new P Q f adds =
    record { later = adds.later; nothing_else = λ t m le was. of m (adds.nothing_else t m le was) }
  where
    of : {A : Type 0} (m : FileMap) → A ⊎ P m → A ⊎ Q m
    of m (inl a) = inl a
    of m (inr p) = inr (f m p)

one_or_more : (n : ℕ) → 0 < n → (n ≡ 1) ⊎ (1 < n)
one_or_more zero some = absurd (omega (arith, some))
one_or_more (suc zero) some = inl refl
one_or_more (suc (suc n)) some = inr (omega arith)

-- a crash in a step leaves what stands for the list followed by the first of the publications begun
from_step : (from complete begun list : List Publication) (x : Publication) (left : ℕ) (m : FileMap)
    → list ≡ from ++ complete → begun ≡ complete ++ x ∷ [] → DuringStep list x left m → StandsFrom from begun m
from_step from complete begun list x left m list_is begun_is during = by during.0
  where
    by : IsEither Stands list x m → StandsFrom from begun m
    by (inl stands) =
        record { first = complete; later = x ∷ []; joined = begun_is; stands = subst (Stands m) list_is stands }
    by (inr stands) = record {
      first = complete ++ x ∷ [];
      later = [];
      joined = begun_is ∙ sym (append-nil (complete ++ x ∷ []));
      stands = subst (Stands m) (ap (λ l. l ++ x ∷ []) list_is ∙ append_assoc from complete (x ∷ [])) stands;
    }

-- ---- what a step promises

pub record Steps {D : Type 0} (tells : Type 0) (clock count : D → ℕ) (since : D → ℕ → FileMap → Type 0)
    (state : D → disk.State) (old new : D)
    (chain chain' : Versions) (work work' : publish.Publication) (result : Result Progress StepError) : Type 0 where
  pub going : tells → (P : List Publication) (x : Publication) (number : ℕ)
      → Underway work P x number chain.records (state old) → 1 < left_of work
      → OnOk result (Underway work' P x (number + 1) chain'.records (state new))
  pub published : tells → (P : List Publication) (x : Publication) (number : ℕ)
      → Underway work P x number chain.records (state old) → left_of work ≡ 1
      → OnOk result (IsClean Stands (P ++ x ∷ []) (state new) × AreRecords chain'.records (P ++ x ∷ []))
  pub moments : tells → (P : List Publication) (x : Publication) (number : ℕ)
      → Underway work P x number chain.records (state old) → 1 < left_of work
      → AddsOnly clock since old new (λ m. Stands m P)
  pub last_moments : tells → (P : List Publication) (x : Publication) (number : ℕ)
      → Underway work P x number chain.records (state old) → left_of work ≡ 1
      → AddsOnly clock since old new (IsEither Stands P x)
  pub left : OnOk result (left_of work' + 1 ≡ left_of work)
  pub progress : IfOk result (TellsProgress (left_of work) work.version)
  pub version : work'.version ≡ work.version
  pub files : work'.files ≡ work.files
  pub chain_is : 1 < left_of work → chain' ≡ chain
  pub refused : OnErr result (chain' ≡ chain)
  pub added : left_of work ≡ 1 → OnOk result (AddsRecord work.version work.files chain.records chain'.records)
  pub undamaged : tells → (P : List Publication) (x : Publication) (number : ℕ)
      → Underway work P x number chain.records (state old) → IfErr result (λ e. e ≡ made.Fault)
  pub cause : IsCaused (count old) (count new) result

-- the engine after the step
abbrev pub after_step : Held → Versions → Option publish.Publication → Option ℕ → Held
after_step held chain work halted = record held { chain = chain; work = work; halted = halted }

module _ {D : Type 0} (tells : Type 0) (clock count : D → ℕ) (since : D → ℕ → FileMap → Type 0)
    (state : D → disk.State) (old new : D)
    (held : Held) (chain' : Versions) (work work' : publish.Publication)
    (has : held.work ≡ Some work) (running : held.halted ≡ None) (can : CanStep held.chain work) where
  abbrev Made : Result Progress StepError → Type 0
  Made result = Steps tells clock count since state old new held.chain chain' work work' result

  -- ---- over a store that is known

  module _ (told : tells) (s : KnownState) (tracks : Tracks held (state old) s) where
    abbrev pub mid : InMiddle s held.chain work (state old)
    mid = middle held (state old) s work has running tracks

    pub during : (result : Result Progress StepError) → Made result
        → AddsOnly clock since old new (DuringStep s.list mid.now.publication mid.now.left)
    during result k = by (one_or_more (left_of work) can.left)
      where
        x : Publication
        x = mid.now.publication

        by : (left_of work ≡ 1) ⊎ (1 < left_of work)
            → AddsOnly clock since old new (DuringStep s.list mid.now.publication mid.now.left)
        by (inl one) = adds_map clock since old new (IsEither Stands s.list mid.now.publication)
            (DuringStep s.list mid.now.publication mid.now.left)
            (λ m either. (either, λ more. let l = mid.is.left in absurd (omega (arith, one, more, l))))
            (k.last_moments told s.list mid.now.publication mid.is.made mid.is.underway one)
        by (inr more) =
            adds_map clock since old new (λ m. Stands m s.list) (DuringStep s.list mid.now.publication mid.now.left)
            (λ m stands. (inl stands, λ more. stands))
            (k.moments told s.list mid.now.publication mid.is.made mid.is.underway more)

    pub moments_now : (result : Result Progress StepError) → Made result
        → AddsOnly clock since old new (DuringNow s.list s.going)
    moments_now result k =
        subst (λ (g : Option Going). AddsOnly clock since old new (DuringNow s.list g)) (sym mid.going)
        (during result k)

  module _ (origin : Origin) (s : KnownState)
      (follows : Follows tells origin (clock old) (count old) (since old) (state old) held s)
      (counts_now : (t : ℕ) (m : FileMap) → t ≤ clock new → IsImage (state new) m → since new t m)
      (only_now : (m : FileMap) → since old (clock old) m → IsImage (state old) m) where
    abbrev Now : Held → KnownState → Type 0
    Now h t = Follows tells origin (clock new) (count new) (since new) (state new) h t

    abbrev pub i : InMiddle s held.chain work (state old)
    i = mid follows.told s follows.tracks

    begun_of : follows.begun ≡ follows.has_begun.complete ++ i.now.publication ∷ []
    begun_of = follows.has_begun.begun_is
        ∙ ap (λ (g : Option Going). follows.has_begun.complete ++ unfinished g s.halted) i.going

    adds : (result : Result Progress StepError) → Made result
        → AddsOnly clock since old new (DuringStep s.list i.now.publication i.now.left)
    adds result k = during follows.told s follows.tracks result k

    -- a crash in this step leaves what stands for the list followed by the first of the publications begun
    during_begun : (m : FileMap) → DuringStep s.list i.now.publication i.now.left m
        → StandsFrom origin.store.list follows.begun m
    during_begun m during =
        from_step origin.store.list follows.has_begun.complete follows.begun s.list i.now.publication
        i.now.left m follows.has_begun.list_is begun_of during

    moment_earlier : origin.store.moment ≤ clock old
    moment_earlier = let o = follows.opened_after in let e = follows.earlier in omega (arith, o, e)

    images_of : (result : Result Progress StepError) → Made result → (m : FileMap)
        → since new origin.store.moment m → StandsSince origin.store follows.begun m
    images_of result k m was = by ((adds result k).nothing_else origin.store.moment m moment_earlier was)
      where
        by : since old origin.store.moment m ⊎ DuringStep s.list i.now.publication i.now.left m
            → StandsSince origin.store follows.begun m
        by (inl before) = follows.images m before
        by (inr during) = inl (during_begun m during)

    later_images_of : (result : Result Progress StepError) → Made result → (m : FileMap) → since new origin.opened m
        → StandsFrom origin.store.list follows.begun m
    later_images_of result k m was = by ((adds result k).nothing_else origin.opened m follows.earlier was)
      where
        by : since old origin.opened m ⊎ DuringStep s.list i.now.publication i.now.left m
            → StandsFrom origin.store.list follows.begun m
        by (inl before) = follows.later_images m before
        by (inr during) = during_begun m during

    earlier_of : (result : Result Progress StepError) → Made result → origin.opened ≤ clock new
    earlier_of result k = let n = (adds result k).later in let e = follows.earlier in omega (arith, e, n)

    no_fewer_of : (result : Result Progress StepError) → Made result → origin.faults ≤ count new
    no_fewer_of result k = let n = k.cause.later in let e = follows.no_fewer in omega (arith, e, n)

    -- a step was made, and some are left
    step_going : Made (Ok progress.Going)
        → Leads (TriesIn known_store s machine.going) (Now (after_step held chain' (Some work') None))
    step_going k =
        let r : Result Progress StepError = Ok progress.Going in
        let more : 1 < left_of work = k.progress in
        let l : left_of work ≡ i.now.left = i.is.left in
        let u : Underway work' s.list i.now.publication (i.is.made + 1) chain'.records (state new) =
        k.going follows.told s.list i.now.publication i.is.made i.is.underway more in
        let same_chain : chain' ≡ held.chain = k.chain_is more in
        let tiles : i.is.underway.work.plan.record.tiles ≡ u.work.plan.record.tiles =
        one_touched _ _ _ i.is.underway.fits.plan.touched u.fits.plan.touched in
        let c : i.is.made + i.now.left ≡ step_count s.list i.now.publication i.is.underway.work.plan.record.tiles =
        i.is.count in
        let c' : step_count s.list i.now.publication i.is.underway.work.plan.record.tiles ≡ step_count s.list
        i.now.publication u.work.plan.record.tiles = ap (step_count s.list i.now.publication) tiles in
        let left' : left_of work' + 1 ≡ left_of work = k.left in
        let next : KnownState =
        record s { going = Some record { publication = i.now.publication; left = i.now.left - 1 } } in
        let works : Works s.list next.going None (Some work') None chain' (state new) =
        record {
          made = i.is.made + 1;
          underway = u;
          count = (let e : i.is.made + 1 + (i.now.left - 1) ≡ i.is.made + i.now.left = omega (arith, l, more) in e) ∙ c
              ∙ c';
          left = omega (arith, l, more, left');
          some_left = omega (arith, l, more);
          room = subst (λ (n : ℕ). n < chain'.spare) (sym k.files)
              (subst (λ (v : Versions). work.files < v.spare) (sym same_chain) can.room);
        } in
        record {
          next = next;
          step = record {
            now = i.now;
            going = i.going;
            running = i.running;
            more = omega (arith, l, more);
            next = refl;
          };
          now = record {
            told = follows.told;
            opened_after = follows.opened_after;
            earlier = earlier_of r k;
            no_fewer = no_fewer_of r k;
            begun = follows.begun;
            has_begun = record {
              complete = follows.has_begun.complete;
              list_is = follows.has_begun.list_is;
              begun_is = begun_of;
            };
            tracks = record {
              records = subst (λ (v : Versions). AreRecords v.records s.list) (sym same_chain) follows.tracks.records;
              pending = follows.tracks.pending;
              sessions = follows.tracks.sessions;
              opened = follows.tracks.opened;
              works = subst (λ (g : Option Publication). Works s.list next.going g (Some work') None chain'
                  (state new)) (sym i.running) works;
              kept = follows.tracks.kept;
            };
            images = images_of r k;
            later_images = later_images_of r k;
            halt = tt;
          };
        }

    -- the last step was made
    step_published : (version : ℕ) → Made (Ok (progress.Published version))
        → Leads (TriesIn known_store s (machine.published version)) (Now (after_step held chain' None None))
    step_published version k =
        let r : Result Progress StepError = Ok (progress.Published version) in
        let last : left_of work ≡ 1 = k.progress.0 in
        let l : left_of work ≡ i.now.left = i.is.left in
        let done = k.published follows.told s.list i.now.publication i.is.made i.is.underway last in
        let next : KnownState = record s { list = s.list ++ i.now.publication ∷ []; going = None } in
        record {
          next = next;
          step = record {
            now = i.now;
            going = i.going;
            running = i.running;
            last = sym l ∙ last;
            version_is = k.progress.1 ∙ can.next ∙ ap (λ (n : ℕ). n + 1) follows.tracks.records.count;
            next = refl;
          };
          now = record {
            told = follows.told;
            opened_after = follows.opened_after;
            earlier = earlier_of r k;
            no_fewer = no_fewer_of r k;
            begun = follows.begun;
            has_begun = record {
              complete = follows.has_begun.complete ++ i.now.publication ∷ [];
              list_is = ap (λ l. l ++ i.now.publication ∷ []) follows.has_begun.list_is
                  ∙ append_assoc origin.store.list follows.has_begun.complete (i.now.publication ∷ []);
              begun_is = begun_of ∙ sym (append-nil (follows.has_begun.complete ++ i.now.publication ∷ []))
                  ∙ ap (λ (g : Option Publication).
                  (follows.has_begun.complete ++ i.now.publication ∷ []) ++ unfinished None g) (sym i.running);
            };
            tracks = record {
              records = done.1;
              pending = follows.tracks.pending;
              sessions = follows.tracks.sessions;
              opened = follows.tracks.opened;
              works = subst (λ (g : Option Publication). Works next.list None g None None chain' (state new))
                  (sym i.running) done.0;
              kept = all_map (IsFileOf s.list) (IsFileOf next.list) held.kept
                  (file_more s.list i.now.publication) follows.tracks.kept;
            };
            images = images_of r k;
            later_images = later_images_of r k;
            halt = tt;
          };
        }

    -- the disk failed: the publication is given up
    step_fault : Made (Err made.Fault)
        → Leads (TriesIn known_store s machine.fault) (Now (after_step held chain' None (Some (count new))))
    step_fault k =
        let r : Result Progress StepError = Err made.Fault in
        record {
          next = record s { going = None; halted = Some i.now.publication };
          step = record { now = i.now; going = i.going; running = i.running; next = refl };
          now = record {
            told = follows.told;
            opened_after = follows.opened_after;
            earlier = earlier_of r k;
            no_fewer = no_fewer_of r k;
            begun = follows.begun;
            has_begun = record {
              complete = follows.has_begun.complete;
              list_is = follows.has_begun.list_is;
              begun_is = begun_of;
            };
            tracks = record {
              records = subst (λ (v : Versions). AreRecords v.records s.list) (sym k.refused) follows.tracks.records;
              pending = follows.tracks.pending;
              sessions = follows.tracks.sessions;
              opened = follows.tracks.opened;
              works = λ m image. either m
                  ((adds r k).nothing_else (clock old) m (omega arith)
                  (counts_now (clock old) m (adds r k).later image));
              kept = follows.tracks.kept;
            };
            images = images_of r k;
            later_images = later_images_of r k;
            halt = rose_later origin.faults (count old) (count new) follows.no_fewer k.cause.failed;
          };
        }
      where
        either : (m : FileMap) → since old (clock old) m ⊎ DuringStep s.list i.now.publication i.now.left m
            → IsEither Stands s.list i.now.publication m
        either m (inl before) = inl (i.is.underway.mid.whole.stands m (only_now m before))
        either m (inr during) = during.0

    -- no file is damaged
    step_damaged : (expected : ℕ) (found : Option ℕ) → Made (Err (made.Damaged expected found)) → ⊥
    step_damaged expected found k =
        let e : made.Damaged expected found ≡ made.Fault =
        k.undamaged follows.told s.list i.now.publication i.is.made i.is.underway in cc

    pub known_step : (result : Result Progress StepError) → Made result
        → Leads (TriesIn known_store s (advance_answer (advance_of result)))
        (Now (after_step held chain' (work_after result work') (halt_after result (count new))))
    known_step (Ok progress.Going) k = step_going k
    known_step (Ok (progress.Published version)) k = step_published version k
    known_step (Err made.Fault) k = step_fault k
    known_step (Err (made.Damaged expected found)) k = absurd (step_damaged expected found k)

  -- ---- over any store

  going_is : (bare_of held).going ≡ Some (going_of work)
  going_is = ap (λ (w : Option publish.Publication). (bare_of (record held { work = w })).going) has

  running_is : (bare_of held).halted ≡ None
  running_is = ap (λ (h : Option ℕ). (bare_of (record held { halted = h })).halted) running

  counted : Versions → Counted
  counted chain = record { versions = length chain.records; entries = entries_in chain.records }

  any_going : Made (Ok progress.Going)
      → TriesIn any_store (bare_of held) machine.going (bare_of (after_step held chain' (Some work') None))
  any_going k =
      let more : 1 < left_of work = k.progress in
      let left' : left_of work' + 1 ≡ left_of work = k.left in
      let n : left_of work' ≡ left_of work - 1 = omega (arith, left') in
      record {
        now = going_of work;
        going = going_is;
        running = running_is;
        more = more;
        next = ap (λ (v : Versions). bare_of (after_step held v (Some work') None)) (k.chain_is more)
            ∙ ap (λ (f : ℕ). record (bare_of held)
            { going = Some record { publication = f; left = left_of work' }; halted = None }) k.files
            ∙ ap (λ (l : ℕ). record (bare_of held)
            { going = Some record { publication = work.files; left = l }; halted = None }) n
            ∙ ap (λ (h : Option (Unit {0})). record (bare_of held)
            { going = Some record { publication = work.files; left = left_of work - 1 }; halted = h })
            (sym running_is);
      }

  any_published : (version : ℕ) → Made (Ok (progress.Published version))
      → TriesIn any_store (bare_of held) (machine.published version) (bare_of (after_step held chain' None None))
  any_published version k =
      let last : left_of work ≡ 1 = k.progress.0 in
      let a : AddsRecord work.version work.files held.chain.records chain'.records = k.added last in
      let versions : length chain'.records ≡ length held.chain.records + 1 = ap length a.new_is
      ∙ length-append held.chain.records (a.item ∷ []) in
      let entries : entries_in chain'.records ≡ entries_in held.chain.records + work.files =
      ap entries_in a.new_is ∙ entries_more held.chain.records a.item
      ∙ ap (λ (n : ℕ). entries_in held.chain.records + n) a.files_are in
      record {
        now = going_of work;
        going = going_is;
        running = running_is;
        last = last;
        version_is = k.progress.1 ∙ can.next;
        next = ap (λ (v : ℕ). record (bare_of held)
            { list = record { versions = v; entries = entries_in chain'.records }; going = None; halted = None })
            versions
            ∙ ap (λ (e : ℕ). record (bare_of held) {
              list = record { versions = length held.chain.records + 1; entries = e };
              going = None;
              halted =
                  None;
            }) entries
            ∙ ap (λ (h : Option (Unit {0})). record (bare_of held) {
              list = record {
                versions = length held.chain.records + 1;
                entries = entries_in held.chain.records + work.files;
              };
              going = None;
              halted = h;
            }) (sym running_is);
      }

  any_given_up : (faults : ℕ) → chain' ≡ held.chain
      → TriesIn any_store (bare_of held) machine.fault (bare_of (after_step held chain' None (Some faults)))
  any_given_up faults same = record {
    now = going_of work;
    going = going_is;
    running = running_is;
    next = ap (λ (v : Versions). bare_of (after_step held v None (Some faults))) same;
  }

  pub any_step : (faults : ℕ) (result : Result Progress StepError) → Made result
      → TriesIn any_store (bare_of held) (advance_answer (advance_of result))
      (bare_of (after_step held chain' (work_after result work') (halt_after result faults)))
  any_step faults (Ok progress.Going) k = any_going k
  any_step faults (Ok (progress.Published version)) k = any_published version k
  any_step faults (Err made.Fault) k = any_given_up faults k.refused
  any_step faults (Err (made.Damaged expected found)) k = any_given_up faults k.refused

  -- ---- over any disk

  pub engine_after : (few : length held.pending ≤ 64) (faults : ℕ) (result : Result Progress StepError) → Made result
      → IsEngine chain' (work_after result work') held.pending (halt_after result faults)
  engine_after few faults (Ok progress.Going) k =
      let more : 1 < left_of work = k.progress in
      let left' : left_of work' + 1 ≡ left_of work = k.left in
      let same = k.chain_is more in
      record {
        can_step = record {
          left = omega (arith, more, left');
          next = k.version ∙ can.next ∙ ap (λ (v : Versions). length v.records + 1) (sym same);
          room = subst (λ (n : ℕ). n < chain'.spare) (sym k.files)
              (subst (λ (v : Versions). work.files < v.spare) (sym same) can.room);
        };
        few = few;
        idle = λ e. cc;
      }
  engine_after few faults (Ok (progress.Published version)) k = record { can_step = tt; few = few; idle = λ e. refl }
  engine_after few faults (Err made.Fault) k = record { can_step = tt; few = few; idle = λ e. refl }
  engine_after few faults (Err (made.Damaged expected found)) k = record { can_step = tt; few = few; idle = λ e. refl }

  pub halts_after : (faults : ℕ) (result : Result Progress StepError)
      → HaltsBy (advance_of result) held.halted (halt_after result faults) faults
  halts_after faults (Ok progress.Going) = sym running
  halts_after faults (Ok (progress.Published version)) = sym running
  halts_after faults (Err made.Fault) = (running, refl)
  halts_after faults (Err (made.Damaged expected found)) = (running, refl)

  pub cause_after : (result : Result Progress StepError) → Made result
      → AdvanceCause (advance_of result) (count old) (count new)
  cause_after (Ok progress.Going) k = tt
  cause_after (Ok (progress.Published version)) k = tt
  cause_after (Err made.Fault) k = k.cause.failed
  cause_after (Err (made.Damaged expected found)) k = tt
