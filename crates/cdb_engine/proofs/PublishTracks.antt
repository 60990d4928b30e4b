-- What the beginning of a publication makes of what an engine tracks.
use Rattle.std.proofs.Common.{◌≡◌, ◌≢◌, ℕ, ◌+◌, ◌-◌, ◌<◌, ◌≤◌, inl, inr, List, [], ◌∷◌, ◌++◌, length, Option, None}
use Rattle.std.proofs.Common.{Some, false, Result, Ok, Err, OnOk, refl, ap, sym, ◌∙◌, append_assoc, append-nil, subst}
use Rattle.std.proofs.Common.{arith}
use Rattle.std.specs.Result.{is_err}
use Rattle.cdb_manifest.specs.declared.record_.Record.{Record}
use Rattle.cdb_source.specs.Reached.{IsTouched, IsLoad}
use Rattle.cdb_source.specs.declared.source.Source.{Source}
use Rattle.cdb_model.specs.Begun.{unfinished}
use Rattle.cdb_model.specs.Events as machine
use Rattle.cdb_model.specs.Images.{Base, StandsFrom, StandsSince}
use Rattle.cdb_model.specs.KnownStore.{KnownState, Going}
use Rattle.cdb_model.specs.Maps.{FileMap}
use Rattle.cdb_model.specs.Publications.{Publication, heads_of, step_count}
use Rattle.cdb_model.specs.Stands.{Stands}
use Rattle.cdb_model.specs.Stores.{Kind, Which, known, any, store_kind, known_store, any_store}
use Rattle.cdb_model.specs.Transitions.{StateIn, IsIdleIn, IsPendingIn, IsPlannedIn, BegunIn, PublishLineIn}
use Rattle.cdb_model.proofs.OneLists.{one_touched}
use Rattle.cdb_files.specs.Disk as disk
use Rattle.cdb_crash.specs.Crash.{IsClean}
use Rattle.cdb_chain.specs.Publications.{AreRecords}
use Rattle.cdb_chain.specs.Versions.{Versions}
use Rattle.cdb_publish.specs.Entries.{entries_in}
use Rattle.cdb_publish.specs.Fitting.{left_in, steps_before_head}
use Rattle.cdb_publish.specs.Going.{Underway, IsBegun, left_of}
use Rattle.cdb_publish.specs.Planning.{IsLight, MakesEntries, IsAccepted, RefusesPlan}
use Rattle.cdb_publish.specs.declared.errors.PlanError.{PlanError}
use Rattle.cdb_publish.specs.declared.errors.PlanError.TheVariants as plan
use Rattle.cdb_publish.specs.declared.publication.Publication as publish
use Rattle.cdb_engine.specs.Held.{Held, CanStep}
use Rattle.cdb_engine.specs.StoreAnswers.{publish_refusal, refusal_of}
use Rattle.cdb_engine.specs.Stays.{bare_of, Stays}
use Rattle.cdb_engine.specs.Tracks.{Works, Tracks, Origin, Follows, Leads}
use Rattle.cdb_engine.proofs.NoStep.{idle_as}
use Rattle.cdb_engine.proofs.StayLaws.{stays_shows}
use Rattle.cdb_engine.proofs.StepCounts.{steps_are, entries_are}

-- ---- other room in the chain

some_none : {A B : Type 0} (a : A) → Some a ≡ None → B
some_none a e = cc

works_room : (list : List Publication) (going : Option Going) (given_up : Option Publication)
    (work : Option publish.Publication) (halted : Option ℕ) (chain chain' : Versions) (d : disk.State)
    → work ≡ None → Works list going given_up work halted chain d → Works list going given_up work halted chain' d
works_room list None None None None chain chain' d none w = w
works_room list (Some now) None (Some work) None chain chain' d none w = some_none work none
works_room list None (Some x) None (Some faults) chain chain' d none w = w
works_room list _ _ _ _ chain chain' d none w = absurd w

module _ {D : Type 0} (tells : Type 0) (clock count : D → ℕ) (since : D → ℕ → FileMap → Type 0)
    (state : D → disk.State) (origin : Origin) (d : D) (held : Held) (chain' : Versions)
    (none : held.work ≡ None) (same : chain'.records ≡ held.chain.records) where
  pub follows_room : (s : KnownState) → Follows tells origin (clock d) (count d) (since d) (state d) held s
      → Follows tells origin (clock d) (count d) (since d) (state d) (record held { chain = chain' }) s
  follows_room s f = record {
    told = f.told;
    opened_after = f.opened_after;
    earlier = f.earlier;
    no_fewer = f.no_fewer;
    begun = f.begun;
    has_begun = f.has_begun;
    tracks = record {
      records = subst (λ (records : List Record). AreRecords records s.list) (sym same) f.tracks.records;
      pending = f.tracks.pending;
      sessions = f.tracks.sessions;
      opened = f.tracks.opened;
      works = works_room s.list s.going s.halted held.work held.halted held.chain chain' (state d) none f.tracks.works;
      kept = f.tracks.kept;
    };
    images = f.images;
    later_images = f.later_images;
    halt = f.halt;
  }

  pub stays_room : (w : Which) (s : StateIn (store_kind w)) → Stays tells clock count since state origin d held w s
      → Stays tells clock count since state origin d (record held { chain = chain' }) w s
  stays_room known s stays = record { is = follows_room s stays.is }
  stays_room any s stays = record {
    is = stays.is ∙ ap
        (λ (records : List Record). record (bare_of held)
        { list = record { versions = length records; entries = entries_in records } }) (sym same);
  }

  stays_entries : (w : Which) (s : StateIn (store_kind w)) → Stays tells clock count since state origin d held w s
      → Kind.HasEntries (store_kind w) s.list (entries_in held.chain.records)
  stays_entries known s stays = entries_are held.chain.records s.list stays.is.tracks.records
  stays_entries any s stays =
      subst (λ (t : StateIn any_store). Kind.HasEntries any_store t.list (entries_in held.chain.records))
      (sym stays.is) refl

-- ---- why no publication begins

-- the pending sources, where nothing keeps a publication from being begun
pub pending_in : (k : Kind) (s : StateIn k) (x : List Source) → IsIdleIn k s → x ≡ s.pending → x ≢ [] → IsPendingIn k s
pending_in k s x idle same some = record { idle = idle; some = λ none. some (same ∙ none) }

planned_in : (k : Kind) (s : StateIn k) (kept : List Record) (x : List Source) (count : ℕ) → IsIdleIn k s
    → x ≡ s.pending → x ≢ [] → k.HasEntries s.list (entries_in kept)
    → IsLight (heads_of x) → (m : MakesEntries kept (heads_of x) count) → IsPlannedIn k s m.tiles count
planned_in k s kept x count idle same some entries light makes =
    let heads : heads_of x ≡ heads_of s.pending = ap heads_of same in
    record {
      pending = pending_in k s x idle same some;
      load = light.load;
      load_is = subst (λ h. IsLoad h light.load) heads light.load_is;
      fits = light.fits;
      touched = subst (λ h. IsTouched h makes.tiles) heads makes.touched;
      earlier = entries_in kept;
      earlier_is = entries;
      entries_are = makes.count_is;
    }

refused_in : (k : Kind) (s : StateIn k) (kept : List Record) (x : List Source) → IsIdleIn k s → x ≡ s.pending → x ≢ []
    → k.HasEntries s.list (entries_in kept) → length kept ≡ k.versions s.list
    → (error : PlanError) → RefusesPlan kept (heads_of x) error
    → PublishLineIn k s (publish_refusal (refusal_of error)) s
refused_in k s kept x idle same some entries versions plan.Memory r = (pending_in k s x idle same some, refl)
refused_in k s kept x idle same some entries versions (plan.Large load) r =
    (pending_in k s x idle same some, subst (λ h. IsLoad h load) (ap heads_of same) r.0, r.1, refl)
refused_in k s kept x idle same some entries versions (plan.Entries count) r = (
  record {
    tiles = r.1.tiles;
    planned = planned_in k s kept x count idle same some entries r.0 r.1;
    many = r.2;
  },
  refl,
)
refused_in k s kept x idle same some entries versions plan.Versions r = (
  record {
    tiles = r.1.1.tiles;
    entries = r.1.0;
    planned = planned_in k s kept x r.1.0 idle same some entries r.0 r.1.1;
    entries_fit = r.1.2;
    many = sym versions ∙ r.2;
  },
  refl,
)

module _ {D : Type 0} (tells : Type 0) (clock count : D → ℕ) (since : D → ℕ → FileMap → Type 0)
    (state : D → disk.State) (origin : Origin) (d : D) (held : Held) (chain' : Versions)
    (running : held.halted ≡ None) (none : held.work ≡ None) (some : held.pending ≢ [])
    (same : chain'.records ≡ held.chain.records) where
  -- memory was refused
  pub memory_then : (w : Which) (s : StateIn (store_kind w)) → Stays tells clock count since state origin d held w s
      → Leads (PublishLineIn (store_kind w) s machine.memory)
      (Stays tells clock count since state origin d (record held { chain = chain' }) w)
  memory_then w s stays =
      let shows = stays_shows tells clock count since state origin d held w s stays in
      record {
        next = s;
        step = (
          pending_in (store_kind w) s held.pending
              (idle_as held w s shows running none) shows.pending some,
          refl,
        );
        now = stays_room tells clock count since state origin d held chain' none same w s stays;
      }

  -- the plan was refused, and the sources came back
  pub refused_then : (back : List Source) (error : PlanError) → back ≡ held.pending
      → RefusesPlan chain'.records (heads_of held.pending) error → (w : Which) (s : StateIn (store_kind w))
      → Stays tells clock count since state origin d held w s
      → Leads (PublishLineIn (store_kind w) s (publish_refusal (refusal_of error)))
      (Stays tells clock count since state origin d (record held { chain = chain'; pending = back }) w)
  refused_then back error back_is refuses w s stays =
      let shows = stays_shows tells clock count since state origin d held w s stays in
      record {
        next = s;
        step = refused_in (store_kind w) s held.chain.records held.pending
            (idle_as held w s shows running none) shows.pending some
            (stays_entries tells clock count since state origin d held chain' none same w s stays) shows.versions error
            (subst (λ (kept : List Record). RefusesPlan kept (heads_of held.pending) error) same refuses);
        now = subst (λ (p : List Source). Stays tells clock count since state origin d
            (record held { chain = chain'; pending = p }) w s) (sym back_is)
            (stays_room tells clock count since state origin d held chain' none same w s stays);
      }

-- ---- a publication begins

-- nothing is going, and the disk is clean
pub record AtRest (s : KnownState) (d : disk.State) : Type 0 where
  pub idle : IsIdleIn known_store s
  pub clean : IsClean Stands s.list d

resting : (held : Held) (d : disk.State) (s : KnownState) → held.work ≡ None → held.halted ≡ None → Tracks held d s
    → AtRest s d
resting held d s none running t =
    by s.going s.halted refl refl (subst (λ (h : Option ℕ). Works s.list s.going s.halted None h held.chain d) running
    (subst (λ (w : Option publish.Publication). Works s.list s.going s.halted w held.halted held.chain d) none t.works))
  where
    by : (going : Option Going) (given_up : Option Publication) → s.going ≡ going → s.halted ≡ given_up
        → Works s.list going given_up None None held.chain d → AtRest s d
    by None None a b w = record { idle = record { running = b; idle = a }; clean = w }
    by (Some now) None a b w = absurd w
    by None (Some x) a b w = absurd w
    by (Some now) (Some x) a b w = absurd w

-- the first of those begun are the first of one more
from_more : (from begun : List Publication) (x : Publication) (m : FileMap) → StandsFrom from begun m
    → StandsFrom from (begun ++ x ∷ []) m
from_more from begun x m i = record {
  first = i.first;
  later = i.later ++ x ∷ [];
  joined = ap (λ l. l ++ x ∷ []) i.joined ∙ append_assoc i.first i.later (x ∷ []);
  stands = i.stands;
}

since_more : (base : Base) (begun : List Publication) (x : Publication) (m : FileMap) → StandsSince base begun m
    → StandsSince base (begun ++ x ∷ []) m
since_more base begun x m (inl i) = inl (from_more base.list begun x m i)
since_more base begun x m (inr e) = inr e

-- all steps of a publication that begins are left
left_first : (q : publish.Publication) (P : List Publication) (x : Publication) (kept : List Record) (d : disk.State)
    (u : Underway q P x 0 kept d) → left_of q ≡ step_count P x u.work.plan.record.tiles
left_first q P x kept d u =
    let done : u.work.done ≡ 0 = u.fits.done in
    ap left_in u.is
    ∙ (let n : steps_before_head u.work.plan + 1 - u.work.done ≡ steps_before_head u.work.plan + 1 =
    omega (arith, done) in n) ∙ steps_are u.work.plan P x u.fits.plan

-- the engine after it
abbrev pub begun_with : Held → publish.Publication → List Source → Held
begun_with held work rest = record held { work = Some work; pending = rest }

module _ {D : Type 0} (tells : Type 0) (clock count : D → ℕ) (since : D → ℕ → FileMap → Type 0)
    (state : D → disk.State) (d : D) (held : Held) (work : publish.Publication)
    (running : held.halted ≡ None) (none : held.work ≡ None) (some : held.pending ≢ [])
    (underway : tells → (P : List Publication) → AreRecords held.chain.records P → IsClean Stands P (state d)
    → Underway work P held.pending 0 held.chain.records (state d))
    (accepted : IsAccepted held.chain.records (heads_of held.pending)) (begun : IsBegun work (heads_of held.pending))
    (version : work.version ≡ length held.chain.records + 1)
    (room : work.files < held.chain.spare) where
  tiles_same : begun.tiles ≡ accepted.1.1.tiles
  tiles_same = one_touched (heads_of held.pending) begun.tiles accepted.1.1.tiles begun.touched accepted.1.1.touched

  files_are : work.files ≡ length accepted.1.1.tiles
  files_are = begun.files ∙ ap length tiles_same

  pub can_step : CanStep held.chain work
  can_step = record { left = begun.some; next = version; room = room }

  any_begins : BegunIn any_store (bare_of held) work.version work.files (bare_of (begun_with held work []))
  any_begins = record {
    tiles = accepted.1.1.tiles;
    entries = accepted.1.0;
    planned = planned_in any_store (bare_of held) held.chain.records held.pending accepted.1.0
        (record {
          running = ap (λ (h : Option ℕ). (bare_of (record held { halted = h })).halted) running;
          idle = ap (λ (w : Option publish.Publication). (bare_of (record held { work = w })).going) none;
        })
        refl some refl accepted.0 accepted.1.1;
    entries_fit = accepted.1.2;
    versions_fit = accepted.2;
    files_are = files_are;
    version_is = version;
    publication = work.files;
    left = left_of work;
    starts = (files_are, begun.some);
    next = refl;
  }

  known_begins : (origin : Origin) (s : KnownState)
      → Follows tells origin (clock d) (count d) (since d) (state d) held s
      → Leads (PublishLineIn known_store s (machine.begun work.version work.files))
      (Follows tells origin (clock d) (count d) (since d) (state d) (begun_with held work []))
  known_begins origin s f =
      let rest = resting held (state d) s none running f.tracks in
      let x : Publication = held.pending in
      let u : Underway work s.list held.pending 0 held.chain.records (state d) =
      underway f.told s.list f.tracks.records rest.clean in
      let left : left_of work ≡ step_count s.list held.pending u.work.plan.record.tiles =
      left_first work s.list held.pending held.chain.records (state d) u in
      let tiles : u.work.plan.record.tiles ≡ accepted.1.1.tiles =
      one_touched (heads_of held.pending) _ _ u.fits.plan.touched accepted.1.1.touched in
      let count : length held.chain.records ≡ length s.list = f.tracks.records.count in
      let fits : length held.chain.records < 4096 = accepted.2 in
      record {
        next = record s { pending = []; going = Some record { publication = held.pending; left = left_of work } };
        step = record {
          tiles = accepted.1.1.tiles;
          entries = accepted.1.0;
          planned = planned_in known_store s held.chain.records held.pending accepted.1.0 rest.idle f.tracks.pending
              some (entries_are held.chain.records s.list f.tracks.records) accepted.0 accepted.1.1;
          entries_fit = accepted.1.2;
          versions_fit = omega (arith, fits, count);
          files_are = files_are;
          version_is = version ∙ ap (λ (n : ℕ). n + 1) count;
          publication = held.pending;
          left = left_of work;
          starts = (f.tracks.pending, left ∙ ap (step_count s.list held.pending) tiles);
          next = refl;
        };
        now = record {
          told = f.told;
          opened_after = f.opened_after;
          earlier = f.earlier;
          no_fewer = f.no_fewer;
          begun = f.begun ++ x ∷ [];
          has_begun = record {
            complete = f.has_begun.complete;
            list_is = f.has_begun.list_is;
            begun_is = ap (λ l. l ++ x ∷ [])
                (f.has_begun.begun_is
                ∙ ap (λ (g : Option Going). f.has_begun.complete ++ unfinished g s.halted) rest.idle.idle
                ∙ ap (λ (g : Option Publication). f.has_begun.complete ++ unfinished None g) rest.idle.running
                ∙ append-nil f.has_begun.complete);
          };
          tracks = record {
            records = f.tracks.records;
            pending = refl;
            sessions = f.tracks.sessions;
            opened = f.tracks.opened;
            works = subst (λ (g : Option Publication). Works s.list
                (Some record { publication = held.pending; left = left_of work }) g (Some work) held.halted held.chain
                (state d)) (sym rest.idle.running)
                (subst (λ (h : Option ℕ). Works s.list
                (Some record { publication = held.pending; left = left_of work }) None (Some work) h held.chain
                (state d)) (sym running)
                record {
                  made = 0;
                  underway = u;
                  count = (let z : 0 + left_of work ≡ left_of work = omega arith in z) ∙ left;
                  left = refl;
                  some_left = begun.some;
                  room = room;
                });
            kept = f.tracks.kept;
          };
          images = λ m was. since_more origin.store f.begun x m (f.images m was);
          later_images = λ m was. from_more origin.store.list f.begun x m (f.later_images m was);
          halt = f.halt;
        };
      }

  pub begins_then : (rest : List Source) → rest ≡ [] → (w : Which) (origin : Origin) (s : StateIn (store_kind w))
      → Stays tells clock count since state origin d held w s
      → Leads (PublishLineIn (store_kind w) s (machine.begun work.version work.files))
      (Stays tells clock count since state origin d (begun_with held work rest) w)
  begins_then rest nothing w origin s stays =
      subst (λ (r : List Source). Leads (PublishLineIn (store_kind w) s (machine.begun work.version work.files))
      (Stays tells clock count since state origin d (begun_with held work r) w)) (sym nothing) (by w s stays)
    where
      by : (w : Which) (s : StateIn (store_kind w)) → Stays tells clock count since state origin d held w s
          → Leads (PublishLineIn (store_kind w) s (machine.begun work.version work.files))
          (Stays tells clock count since state origin d (begun_with held work []) w)
      by known s stays = let l = known_begins origin s stays.is in
          record { next = l.next; step = l.step; now = record { is = l.now } }
      by any s stays = record {
        next = bare_of (begun_with held work []);
        step = subst (λ (t : StateIn any_store). BegunIn any_store t work.version work.files
            (bare_of (begun_with held work []))) (sym stays.is) any_begins;
        now = record { is = refl };
      }

-- there is room for the record where the room was made
pub spare_then : {A E : Type 0} (result : Result A E) (files load spare : ℕ) → false ≡ is_err result → files ≤ load
    → OnOk result (load < spare) → files < spare
spare_then (Ok x) files load spare ok few room = let r : load < spare = room in omega (arith, few, r)
spare_then (Err e) files load spare ok few room = cc
