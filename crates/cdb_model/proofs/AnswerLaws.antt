-- A state and an event settle the answer, but for want of memory and a failed call of a device.
use Rattle.std.proofs.Common.{◌≡◌, ◌≢◌, ℕ, zero, suc, ◌-◌, ◌≤◌, ◌<◌, ◌⊎◌, inl, inr, Bool, true, false, List, [], ◌∷◌, ◌++◌, length, Option, Some, None, IsSome, is_some, nat_lt, refl, sym, ◌∙◌, ap, ap₂, subst, arith, true≢false}
use Rattle.std.specs.Option.{option_or}
use Rattle.std.proofs.lemmas.Bool.{lt-ltb, le-ltb}
use Rattle.std.proofs.lemmas.Option.{same_Some, none-some}
use Rattle.cdb_grid.specs.declared.tile.Tile.{Tile}
use Rattle.cdb_source.specs.Reached.{Reached}
use Rattle.cdb_source.specs.declared.source.Source.{Source}
use Rattle.cdb_source.proofs.LoadLaws.{one_load}
use Rattle.cdb_tiff_base.specs.Causes.{cause_of}
use Rattle.cdb_tiff_base.specs.Numbers.{Bytes}
use Rattle.cdb_tiff_base.specs.declared.tiff_cause.TiffCause.{TiffCause}
use Rattle.cdb_tiff_base.specs.declared.tiff_error.TiffError.{TiffError}
use Rattle.cdb_model.specs.Events as machine
use Rattle.cdb_model.specs.Events.{Event, Answer, IsLong, IsSyntax, IsName}
use Rattle.cdb_model.specs.Grammar.{InlineSource, FileSource}
use Rattle.cdb_model.specs.ImageFiles.{SpellsNone, HasImage, IsBig, IsBad, IsUnfit}
use Rattle.cdb_model.specs.KnownStore.{KnownState, Going, Step, InlineLine, SourceLine, IsPending, IsPlanned, IsIdle, IsBusy, Begun, PublishLine, HasLeft, StepLine, StepAllLine, OpenLine, TileLine, CloseLine, VersionsLine, GivenUp}
use Rattle.cdb_model.specs.MachineLaws.{IsUnsettled, OneAnswer, FreeAnswers, EndsIn, AreMadeIn}
use Rattle.cdb_model.specs.Maps.{Content}
use Rattle.cdb_model.specs.Publications.{Publication, publication_of, heads_of, sources_up_to, HasLoad, step_count}
use Rattle.cdb_model.specs.Sessions.{session_of}
use Rattle.cdb_model.specs.Spelled.{SpellsSource, SpellsLoaded}
use Rattle.cdb_model.specs.Stores.{known_store, known}
use Rattle.cdb_model.specs.TileFile.{tile_bytes}
use Rattle.cdb_model.specs.Transitions.{IsReadyIn, IsFullIn, GainsIn, LoadedIn, HasEntriesIn, IsFullOfVersionsIn, ServedIn, IsMissingIn}
use Rattle.cdb_model.specs.declared.session.Session.{Session}
use Rattle.cdb_model.proofs.ManySteps.{with_left, many_steps}
use Rattle.cdb_model.proofs.OneLists.{one_touched, one_entries}
use Rattle.cdb_model.proofs.OneSource.{IsSpelled, one_spelled, one_loaded}

-- two answers are one, and so are the states after them
abbrev Agree : Answer → KnownState → Answer → KnownState → Type 0
Agree a t b u = (a ≡ b) × (t ≡ u)

-- a relation has one answer and one next state
abbrev HasOne : (Answer → KnownState → Type 0) → Type 0
HasOne Goes = (a b : Answer) (t u : KnownState) → Goes a t → Goes b u → Agree a t b u

-- ---- a refusal comes first

-- a step is the refusal that is called for, or goes on where none is
abbrev Way : Option Answer → (Answer → KnownState → Type 0) → KnownState → Answer → KnownState → Type 0
Way refusal Goes s a t = ((refusal ≡ Some a) × (t ≡ s)) ⊎ ((refusal ≡ None) × Goes a t)

-- where going on has one answer, so has the whole
one_way : (refusal : Option Answer) (Goes : Answer → KnownState → Type 0) (s : KnownState) → HasOne Goes
    → (a b : Answer) (t u : KnownState) → Way refusal Goes s a t → Way refusal Goes s b u → Agree a t b u
one_way refusal Goes s one a b t u (inl x) (inl y) = (same_Some a b (sym x.0 ∙ y.0), x.1 ∙ sym y.1)
one_way refusal Goes s one a b t u (inl x) (inr y) = absurd (none-some a (sym y.0 ∙ x.0))
one_way refusal Goes s one a b t u (inr x) (inl y) = absurd (none-some b (sym x.0 ∙ y.0))
one_way refusal Goes s one a b t u (inr x) (inr y) = one a b t u x.1 y.1

-- ---- a source is given

-- by whether the writer is halted, whether a publication is going, and whether fewer than 64 sources are pending
abbrev refusal_by : Bool → Bool → Bool → Option Answer
refusal_by true going room = Some machine.halted
refusal_by false true room = Some machine.busy
refusal_by false false true = None
refusal_by false false false = Some machine.full

abbrev refusal : KnownState → Option Answer
refusal s = refusal_by (is_some s.halted) (is_some s.going) (nat_lt (length s.pending) 64)

when_halted : (s : KnownState) → IsSome s.halted → refusal s ≡ Some machine.halted
when_halted s h = ap (λ test. refusal_by test (is_some s.going) (nat_lt (length s.pending) 64)) h

when_busy : (s : KnownState) → IsBusy s → refusal s ≡ Some machine.busy
when_busy s h =
    ap₂ (λ halted going. refusal_by halted going (nat_lt (length s.pending) 64)) (ap is_some h.running) h.busy

when_idle : (s : KnownState) → IsIdle s → refusal s ≡ refusal_by false false (nat_lt (length s.pending) 64)
when_idle s h =
    ap₂ (λ halted going. refusal_by halted going (nat_lt (length s.pending) 64)) (ap is_some h.running)
    (ap is_some h.idle)

when_full : (s : KnownState) → IsFullIn known_store s → refusal s ≡ Some machine.full
when_full s h = when_idle s h.0 ∙ ap (refusal_by false false) (le-ltb (length s.pending) 64 h.1)

when_ready : (s : KnownState) → IsReadyIn known_store s → refusal s ≡ None
when_ready s h = when_idle s h.0 ∙ ap (refusal_by false false) (lt-ltb (length s.pending) 64 h.1)

-- a source is spelled and pending now, or none is spelled
abbrev Spells : (Source → Type 0) → KnownState → Answer → KnownState → Type 0
Spells Spelled s (machine.source n) t = GainsIn known_store Spelled s n t
Spells Spelled s machine.range t = SpellsNone Spelled × (t ≡ s)
Spells Spelled s _ t = ⊥

spells_one : (Spelled : Source → Type 0) (s : KnownState) → ((a b : Source) → Spelled a → Spelled b → a ≡ b)
    → HasOne (Spells Spelled s)
spells_one Spelled s one (machine.source m) (machine.source n) t u x y = (
  ap machine.source (x.number_is ∙ sym y.number_is),
  x.next ∙ ap (λ source. record s { pending = s.pending ++ source ∷ [] }) (one x.source y.source x.spelled y.spelled)
      ∙ sym y.next,
)
spells_one Spelled s one (machine.source m) machine.range t u x y = absurd (y.0 x.source x.spelled)
spells_one Spelled s one machine.range (machine.source n) t u x y = absurd (x.0 y.source y.spelled)
spells_one Spelled s one machine.range machine.range t u x y = (refl, x.1 ∙ sym y.1)
spells_one Spelled s one (machine.source m) _ t u x y = absurd y
spells_one Spelled s one machine.range _ t u x y = absurd y
spells_one Spelled s one _ b t u x y = absurd x

gives_way : (s t : KnownState) (w : InlineSource) (a : Answer) → InlineLine s w a t → (IsUnsettled a → ⊥)
    → Way (refusal s) (Spells (SpellsSource w) s) s a t
gives_way s t w (machine.source n) x free = inr (when_ready s x.ready, x)
gives_way s t w machine.halted x free = inl (when_halted s x.0, x.1)
gives_way s t w machine.busy x free = inl (when_busy s x.0, x.1)
gives_way s t w machine.full x free = inl (when_full s x.0, x.1)
gives_way s t w machine.range x free = inr (when_ready s x.0, (x.1, x.2))
gives_way s t w machine.memory x free = absurd (free tt)
gives_way s t w _ x free = absurd x

-- ---- a source is given by a file

-- by whether the file is big, and why it isn't read
abbrev bytes_refusal : Bool → Option TiffError → Option Answer
bytes_refusal true error = Some machine.too_big
bytes_refusal false None = None
bytes_refusal false (Some error) = Some (machine.input error.cause)

abbrev file_refusal : Content → Option Answer
file_refusal None = Some machine.absent
file_refusal (Some bytes) = bytes_refusal (nat_lt 67108864 (length bytes)) (cause_of bytes)

when_big : (content : Content) → IsBig content → file_refusal content ≡ Some machine.too_big
when_big None h = absurd h
when_big (Some bytes) h = ap (λ test. bytes_refusal test (cause_of bytes)) (lt-ltb 67108864 (length bytes) h)

when_bad : (content : Content) (cause : TiffCause) → IsBad content cause
    → file_refusal content ≡ Some (machine.input cause)
when_bad content cause h =
    ap file_refusal h.there ∙ ap₂ bytes_refusal (le-ltb 67108864 (length h.bytes) h.small) h.caused
    ∙ ap (λ c. Some (machine.input c)) h.cause_is

when_read : (content : Content) (bytes : Bytes) → HasImage content bytes → file_refusal content ≡ None
when_read content bytes h = ap file_refusal h.there ∙ ap₂ bytes_refusal (le-ltb 67108864 (length bytes) h.small) h.sound

-- the state's refusal, or else the file's
abbrev load_refusal : KnownState → Content → Option Answer
load_refusal s content = option_or (refusal s) (file_refusal content)

by_state : (s : KnownState) (content : Content) (r : Answer) → refusal s ≡ Some r → load_refusal s content ≡ Some r
by_state s content r e = ap (λ o. option_or o (file_refusal content)) e

by_file : (s : KnownState) (content : Content) (o : Option Answer) → IsReadyIn known_store s → file_refusal content ≡ o
    → load_refusal s content ≡ o
by_file s content o ready e = ap₂ option_or (when_ready s ready) e

gains_loaded : (w : FileSource) (content : Content) (s t : KnownState) (n : ℕ) → LoadedIn known_store w content s n t
    → GainsIn known_store (IsSpelled w content) s n t
gains_loaded w content s t n x = record {
  ready = x.gains.ready;
  source = x.gains.source;
  spelled = record { bytes = x.bytes; image = x.image; spelled = x.gains.spelled };
  number_is = x.gains.number_is;
  next = x.gains.next;
}

unfit_none : (w : FileSource) (content : Content) → IsUnfit w content → SpellsNone (IsSpelled w content)
unfit_none w content x source h =
    let same : h.bytes ≡ x.bytes = same_Some h.bytes x.bytes (sym h.image.there ∙ x.image.there) in
    x.none source (subst (λ bytes. SpellsLoaded w bytes source) same h.spelled)

loads_way : (s t : KnownState) (w : FileSource) (content : Content) (a : Answer) → SourceLine s w content a t
    → (IsUnsettled a → ⊥)
    → Way (load_refusal s content) (Spells (IsSpelled w content) s) s a t
loads_way s t w content (machine.source n) x free =
    inr (by_file s content None x.gains.ready (when_read content x.bytes x.image), gains_loaded w content s t n x)
loads_way s t w content machine.halted x free = inl (by_state s content _ (when_halted s x.0), x.1)
loads_way s t w content machine.busy x free = inl (by_state s content _ (when_busy s x.0), x.1)
loads_way s t w content machine.full x free = inl (by_state s content _ (when_full s x.0), x.1)
loads_way s t w content machine.absent x free = inl (by_file s content _ x.0 (ap file_refusal x.1), x.2)
loads_way s t w content machine.too_big x free = inl (by_file s content _ x.0 (when_big content x.1), x.2)
loads_way s t w content (machine.input cause) x free = inl (by_file s content _ x.0 (when_bad content cause x.1), x.2)
loads_way s t w content machine.range x free =
    inr (by_file s content None x.0 (when_read content (x.1).bytes (x.1).image), (unfit_none w content x.1, x.2))
loads_way s t w content machine.shelf x free = absurd (free tt)
loads_way s t w content machine.memory x free = absurd (free tt)
loads_way s t w content _ x free = absurd x

-- ---- a publication is begun

-- by whether the writer is halted, whether a publication is going, and which sources are pending
abbrev begin_refusal_by : Bool → Bool → List Source → Option Answer
begin_refusal_by true going pending = Some machine.halted
begin_refusal_by false true pending = Some machine.busy
begin_refusal_by false false [] = Some machine.nothing
begin_refusal_by false false (source ∷ pending) = None

abbrev begin_refusal : KnownState → Option Answer
begin_refusal s = begin_refusal_by (is_some s.halted) (is_some s.going) s.pending

idle_begins : (s : KnownState) → IsIdle s → begin_refusal s ≡ begin_refusal_by false false s.pending
idle_begins s h =
    ap₂ (λ halted going. begin_refusal_by halted going s.pending) (ap is_some h.running) (ap is_some h.idle)

when_some : (pending : List Source) → pending ≢ [] → begin_refusal_by false false pending ≡ None
when_some [] some = absurd (some refl)
when_some (source ∷ pending) some = refl

when_pending : (s : KnownState) → IsPending s → begin_refusal s ≡ None
when_pending s h = idle_begins s h.idle ∙ when_some s.pending h.some

-- the pending sources are published from now on, or their load is too large, or they have too many tiles, or there are
-- too many versions
abbrev Publishes : KnownState → Answer → KnownState → Type 0
Publishes s (machine.begun version files) t = Begun s version files t
Publishes s (machine.large load) t = HasLoad (publication_of s.pending) load × (16384 < load) × (t ≡ s)
Publishes s (machine.entries count) t = HasEntriesIn known_store s count × (t ≡ s)
Publishes s machine.full_of_versions t = IsFullOfVersionsIn known_store s × (t ≡ s)
Publishes s _ t = ⊥

-- plans of one state are one
one_plan : (s : KnownState) (xs ys : List Tile) (m n : ℕ) → IsPlanned s xs m → IsPlanned s ys n → (xs ≡ ys) × (m ≡ n)
one_plan s xs ys m n x y =
    let tiles : xs ≡ ys = one_touched (heads_of s.pending) xs ys x.touched y.touched in
    let many : length xs ≡ length ys = ap length tiles in
    let earlier : x.earlier ≡ y.earlier = one_entries s.list x.earlier y.earlier x.earlier_is y.earlier_is in
    let p = x.entries_are in let q = y.entries_are in
    (tiles, omega (arith, many, earlier, p, q))

not_large : (s : KnownState) (tiles : List Tile) (n load : ℕ) → IsPlanned s tiles n
    → HasLoad (publication_of s.pending) load → 16384 < load → ⊥
not_large s tiles n load x is many =
    let same : x.load ≡ load = one_load (heads_of s.pending) x.load load x.load_is is in
    let fits = x.fits in omega (arith, same, fits, many)

not_many : (s : KnownState) (xs ys : List Tile) (m n : ℕ) → IsPlanned s xs m → m ≤ 1000000
    → IsPlanned s ys n → 1000000 < n
    → ⊥
not_many s xs ys m n x fit y many = let same = (one_plan s xs ys m n x y).1 in omega (arith, same, fit, many)

-- a publication that is begun has one number of steps
one_going : (s : KnownState) (v m w n : ℕ) (t u : KnownState) (x : Begun s v m t) (y : Begun s w n u)
    → x.tiles ≡ y.tiles → t ≡ u
one_going s v m w n t u x y tiles =
    let same : x.publication ≡ y.publication = x.starts.0 ∙ sym y.starts.0 in
    let left : x.left ≡ y.left =
    x.starts.1 ∙ ap₂ (λ (p : Publication) (ts : List Tile). step_count s.list p ts) same tiles ∙ sym y.starts.1 in
    x.next
    ∙ ap₂ (λ (p : Publication) (l : ℕ). record s { pending = []; going = Some record { publication = p; left = l } })
    same left
    ∙ sym y.next

publishes_one : (s : KnownState) → HasOne (Publishes s)
publishes_one s (machine.begun v m) (machine.begun w n) t u x y =
    let tiles : x.tiles ≡ y.tiles = (one_plan s x.tiles y.tiles x.entries y.entries x.planned y.planned).0 in (
      ap₂ machine.begun (x.version_is ∙ sym y.version_is) (x.files_are ∙ ap length tiles ∙ sym y.files_are),
      one_going s v m w n t u x y tiles,
    )
publishes_one s (machine.begun v m) (machine.large n) t u x y =
    absurd (not_large s x.tiles x.entries n x.planned y.0 y.1)
publishes_one s (machine.begun v m) (machine.entries n) t u x y =
    absurd (not_many s x.tiles y.0.tiles x.entries n x.planned x.entries_fit y.0.planned y.0.many)
publishes_one s (machine.begun v m) machine.full_of_versions t u x y =
    let few = x.versions_fit in let many = y.0.many in absurd (omega (arith, few, many))
publishes_one s (machine.large m) (machine.begun w n) t u x y =
    absurd (not_large s y.tiles y.entries m y.planned x.0 x.1)
publishes_one s (machine.large m) (machine.large n) t u x y =
    (ap machine.large (one_load (heads_of s.pending) m n x.0 y.0), x.2 ∙ sym y.2)
publishes_one s (machine.large m) (machine.entries n) t u x y = absurd (not_large s y.0.tiles n m y.0.planned x.0 x.1)
publishes_one s (machine.large m) machine.full_of_versions t u x y =
    absurd (not_large s y.0.tiles y.0.entries m y.0.planned x.0 x.1)
publishes_one s (machine.entries m) (machine.begun w n) t u x y =
    absurd (not_many s y.tiles x.0.tiles y.entries m y.planned y.entries_fit x.0.planned x.0.many)
publishes_one s (machine.entries m) (machine.large n) t u x y = absurd (not_large s x.0.tiles m n x.0.planned y.0 y.1)
publishes_one s (machine.entries m) (machine.entries n) t u x y =
    (ap machine.entries (one_plan s x.0.tiles y.0.tiles m n x.0.planned y.0.planned).1, x.1 ∙ sym y.1)
publishes_one s (machine.entries m) machine.full_of_versions t u x y =
    absurd (not_many s y.0.tiles x.0.tiles y.0.entries m y.0.planned y.0.entries_fit x.0.planned x.0.many)
publishes_one s machine.full_of_versions (machine.begun w n) t u x y =
    let few = y.versions_fit in let many = x.0.many in absurd (omega (arith, few, many))
publishes_one s machine.full_of_versions (machine.large n) t u x y =
    absurd (not_large s x.0.tiles x.0.entries n x.0.planned y.0 y.1)
publishes_one s machine.full_of_versions (machine.entries n) t u x y =
    absurd (not_many s x.0.tiles y.0.tiles x.0.entries n x.0.planned x.0.entries_fit y.0.planned y.0.many)
publishes_one s machine.full_of_versions machine.full_of_versions t u x y = (refl, x.1 ∙ sym y.1)
publishes_one s (machine.begun v m) _ t u x y = absurd y
publishes_one s (machine.large m) _ t u x y = absurd y
publishes_one s (machine.entries m) _ t u x y = absurd y
publishes_one s machine.full_of_versions _ t u x y = absurd y
publishes_one s _ b t u x y = absurd x

begins_way : (s t : KnownState) (a : Answer) → PublishLine s a t → (IsUnsettled a → ⊥)
    → Way (begin_refusal s) (Publishes s) s a t
begins_way s t (machine.begun v n) x free = inr (when_pending s x.planned.pending, x)
begins_way s t machine.halted x free = inl (ap (λ test. begin_refusal_by test (is_some s.going) s.pending) x.0, x.1)
begins_way s t machine.busy x free =
    inl (ap₂ (λ halted going. begin_refusal_by halted going s.pending) (ap is_some x.0.running) x.0.busy, x.1)
begins_way s t machine.nothing x free = inl (idle_begins s x.0 ∙ ap (begin_refusal_by false false) x.1, x.2)
begins_way s t (machine.large n) x free = inr (when_pending s x.0, (x.1, x.2, x.3))
begins_way s t (machine.entries n) x free = inr (when_pending s x.0.planned.pending, x)
begins_way s t machine.full_of_versions x free = inr (when_pending s x.0.planned.pending, x)
begins_way s t machine.memory x free = absurd (free tt)
begins_way s t _ x free = absurd x

-- ---- steps

-- by whether the writer is halted, and whether a publication is going
abbrev step_refusal_by : Bool → Bool → Option Answer
step_refusal_by true going = Some machine.halted
step_refusal_by false false = Some machine.nothing
step_refusal_by false true = None

abbrev step_refusal : KnownState → Option Answer
step_refusal s = step_refusal_by (is_some s.halted) (is_some s.going)

halted_steps : (s : KnownState) → IsSome s.halted → step_refusal s ≡ Some machine.halted
halted_steps s h = ap (λ test. step_refusal_by test (is_some s.going)) h

idle_steps : (s : KnownState) → IsIdle s → step_refusal s ≡ Some machine.nothing
idle_steps s h = ap₂ step_refusal_by (ap is_some h.running) (ap is_some h.idle)

busy_steps : (s : KnownState) → IsBusy s → step_refusal s ≡ None
busy_steps s h = ap₂ step_refusal_by (ap is_some h.running) h.busy

-- so many steps of a publication that is going, of which none failed
abbrev Made : KnownState → ℕ → Answer → KnownState → Type 0
Made s count a t = IsBusy s × (IsUnsettled a → ⊥) × AreMadeIn known_store count s a t

going_once : (s : KnownState) (a b : Going) → s.going ≡ Some a → s.going ≡ Some b → a ≡ b
going_once s a b x y = same_Some a b (sym x ∙ y)

going_one : (s : KnownState) (count : ℕ) (t u : KnownState) → IsBusy s → AreMadeIn known_store count s machine.going t
    → AreMadeIn known_store count s machine.going u → t ≡ u
going_one s count t u busy (inl x) (inl y) = x.1 ∙ sym y.1
going_one s count t u busy (inl (inl none, e)) (inr y) = let some = y.some in absurd (omega (arith, none, some))
going_one s count t u busy (inl (inr none, e)) (inr y) = absurd (true≢false (sym busy.busy ∙ ap is_some none))
going_one s count t u busy (inr x) (inl (inl none, e)) = let some = x.some in absurd (omega (arith, none, some))
going_one s count t u busy (inr x) (inl (inr none, e)) = absurd (true≢false (sym busy.busy ∙ ap is_some none))
going_one s count t u busy (inr x) (inr y) =
    x.next ∙ ap (λ (n : Going). with_left known_store s n (n.left - count)) (going_once s x.now y.now x.going y.going)
    ∙ sym y.next

goes_and_ends : (s : KnownState) (count version : ℕ) (t u : KnownState) → AreMadeIn known_store count s machine.going t
    → EndsIn known_store count s version u → ⊥
goes_and_ends s count version t u (inl (inl none, e)) y =
    let some = y.some in let few = y.few in omega (arith, none, some, few)
goes_and_ends s count version t u (inl (inr none, e)) y = none-some y.now (sym none ∙ y.going)
goes_and_ends s count version t u (inr x) y =
    let e : x.now.left ≡ y.now.left = ap (λ (n : Going). n.left) (going_once s x.now y.now x.going y.going) in
    let more = x.more in let few = y.few in omega (arith, e, more, few)

ends_one : (s : KnownState) (count v w : ℕ) (t u : KnownState) → EndsIn known_store count s v t
    → EndsIn known_store count s w u
    → Agree (machine.published v) t (machine.published w) u
ends_one s count v w t u x y = (
  ap machine.published (x.version_is ∙ sym y.version_is),
  x.next
      ∙ ap (λ (n : Going). record s { list = s.list ++ n.publication ∷ []; going = None })
      (going_once s x.now y.now x.going y.going)
      ∙ sym y.next,
)

made_one : (s : KnownState) (count : ℕ) → HasOne (Made s count)
made_one s count machine.going machine.going t u x y = (refl, going_one s count t u x.0 x.2 y.2)
made_one s count machine.going (machine.published w) t u x y = absurd (goes_and_ends s count w t u x.2 y.2)
made_one s count (machine.published v) machine.going t u x y = absurd (goes_and_ends s count v u t y.2 x.2)
made_one s count (machine.published v) (machine.published w) t u x y = ends_one s count v w t u x.2 y.2
made_one s count machine.fault b t u x y = absurd (x.1 tt)
made_one s count machine.going machine.fault t u x y = absurd (y.1 tt)
made_one s count (machine.published v) machine.fault t u x y = absurd (y.1 tt)
made_one s count machine.going _ t u x y = absurd y.2
made_one s count (machine.published v) _ t u x y = absurd y.2
made_one s count _ b t u x y = absurd x.2

-- the state's refusal, or else that of no steps at all
abbrev is_zero : ℕ → Bool
is_zero zero = true
is_zero (suc n) = false

not_zero : (n : ℕ) → 0 < n → is_zero n ≡ false
not_zero zero some = absurd (omega (arith, some))
not_zero (suc n) some = refl

abbrev range_by : Bool → Option Answer
range_by true = Some machine.range
range_by false = None

abbrev hasten_refusal : KnownState → ℕ → Option Answer
hasten_refusal s n = option_or (step_refusal s) (range_by (is_zero n))

hastens_way : (s t : KnownState) (n : ℕ) (a : Answer) → StepLine s n a t → (IsUnsettled a → ⊥)
    → Way (hasten_refusal s n) (Made s n) s a t
hastens_way s t n machine.halted x free = inl (ap (λ o. option_or o (range_by (is_zero n))) (halted_steps s x.0), x.1)
hastens_way s t n machine.nothing x free = inl (ap (λ o. option_or o (range_by (is_zero n))) (idle_steps s x.0), x.1)
hastens_way s t n machine.range x free =
    inl (ap₂ option_or (busy_steps s x.0) (ap (λ m. range_by (is_zero m)) x.1), x.2)
hastens_way s t n a x free =
    inr (ap₂ option_or (busy_steps s x.0) (ap range_by (not_zero n x.1)), (x.0, free, many_steps known n s a t x.2))

-- all that are left
abbrev Finishes : KnownState → Answer → KnownState → Type 0
Finishes s a t = (n : ℕ) × HasLeft s.going n × Made s n a t

one_left : (going : Option Going) (m n : ℕ) → HasLeft going m → HasLeft going n → m ≡ n
one_left None m n x y = absurd x
one_left (Some now) m n x y = x ∙ sym y

finishes_one : (s : KnownState) → HasOne (Finishes s)
finishes_one s a b t u x y =
    let same : y.0 ≡ x.0 = one_left s.going y.0 x.0 y.1 x.1 in
    made_one s x.0 a b t u x.2 (subst (λ n. Made s n b u) same y.2)

completes_way : (s t : KnownState) (a : Answer) → StepAllLine s a t → (IsUnsettled a → ⊥)
    → Way (step_refusal s) (Finishes s) s a t
completes_way s t machine.halted x free = inl (halted_steps s x.0, x.1)
completes_way s t machine.nothing x free = inl (idle_steps s x.0, x.1)
completes_way s t a x free = inr (busy_steps s x.1, (x.0, x.2, (x.1, free, many_steps known x.0 s a t x.3)))

-- ---- sessions

-- a session is asked for
connects_one : (s t u : KnownState) (a b : Answer) → OpenLine s a t → OpenLine s b u → (IsUnsettled a → ⊥)
    → (IsUnsettled b → ⊥)
    → Agree a t b u
connects_one s t u (machine.session i v) (machine.session j w) x y fa fb =
    let id : i ≡ j = x.id_is ∙ sym y.id_is in
    let version : v ≡ w = x.version_is ∙ sym y.version_is in (
      ap₂ machine.session id version,
      x.next
          ∙ ap₂ (λ k n. record s {
            sessions = s.sessions ++ record { id = k; version = n } ∷ [];
            opened = k;
          }) id version
          ∙ sym y.next,
    )
connects_one s t u (machine.session i v) machine.many x y fa fb =
    let room = x.room in let none = y.0 in absurd (omega arith)
connects_one s t u machine.many (machine.session j w) x y fa fb =
    let room = y.room in let none = x.0 in absurd (omega arith)
connects_one s t u machine.many machine.many x y fa fb = (refl, x.1 ∙ sym y.1)
connects_one s t u machine.memory b x y fa fb = absurd (fa tt)
connects_one s t u (machine.session i v) machine.memory x y fa fb = absurd (fb tt)
connects_one s t u machine.many machine.memory x y fa fb = absurd (fb tt)
connects_one s t u (machine.session i v) _ x y fa fb = absurd y
connects_one s t u machine.many _ x y fa fb = absurd y
connects_one s t u _ b x y fa fb = absurd x

-- a session that is open is one
one_session : (s : KnownState) (id : ℕ) (a b : Session) → session_of id s.sessions ≡ Some a
    → session_of id s.sessions ≡ Some b → a ≡ b
one_session s id a b x y = same_Some a b (sym x ∙ y)

not_missing : (s : KnownState) (id : ℕ) (t : Tile) (bytes : List ℕ) → ServedIn known_store s id t bytes
    → IsMissingIn known_store s id t → ⊥
not_missing s id t bytes x y =
    y.misses (subst (λ (session : Session). Reached (heads_of (sources_up_to session.version s.list)) t)
    (one_session s id x.session y.session x.is_open y.is_open) x.serves.0)

-- by whether the session is open
abbrev ask_refusal : Option Session → Option Answer
ask_refusal None = Some machine.unknown
ask_refusal (Some session) = None

-- the tile has a file, or none
abbrev Shows : KnownState → ℕ → Tile → Answer → KnownState → Type 0
Shows s id t (machine.tile bytes) u = ServedIn known_store s id t bytes × (u ≡ s)
Shows s id t machine.missing u = IsMissingIn known_store s id t × (u ≡ s)
Shows s id t _ u = ⊥

shows_one : (s : KnownState) (id : ℕ) (t : Tile) → HasOne (Shows s id t)
shows_one s id t (machine.tile m) (machine.tile n) u v x y = (
  ap machine.tile (x.0.serves.1
      ∙ ap (λ (session : Session). tile_bytes (sources_up_to session.version s.list) t)
      (one_session s id x.0.session y.0.session x.0.is_open y.0.is_open)
      ∙ sym y.0.serves.1),
  x.1 ∙ sym y.1,
)
shows_one s id t (machine.tile m) machine.missing u v x y = absurd (not_missing s id t m x.0 y.0)
shows_one s id t machine.missing (machine.tile n) u v x y = absurd (not_missing s id t n y.0 x.0)
shows_one s id t machine.missing machine.missing u v x y = (refl, x.1 ∙ sym y.1)
shows_one s id t (machine.tile m) _ u v x y = absurd y
shows_one s id t machine.missing _ u v x y = absurd y
shows_one s id t _ b u v x y = absurd x

asks_way : (s u : KnownState) (id : ℕ) (t : Tile) (a : Answer) → TileLine s id t a u → (IsUnsettled a → ⊥)
    → Way (ask_refusal (session_of id s.sessions)) (Shows s id t) s a u
asks_way s u id t (machine.tile bytes) x free = inr (ap ask_refusal x.0.is_open, x)
asks_way s u id t machine.missing x free = inr (ap ask_refusal x.0.is_open, x)
asks_way s u id t machine.unknown x free = inl (ap ask_refusal x.0, x.1)
asks_way s u id t machine.fault x free = absurd (free tt)
asks_way s u id t _ x free = absurd x

-- a session is to be closed
disconnects_one : (s t u : KnownState) (id : ℕ) (a b : Answer) → CloseLine s id a t → CloseLine s id b u → Agree a t b u
disconnects_one s t u id machine.closed machine.closed x y = (refl, x.1 ∙ sym y.1)
disconnects_one s t u id machine.closed machine.unknown x y = absurd (true≢false (sym x.0 ∙ ap is_some y.0))
disconnects_one s t u id machine.unknown machine.closed x y = absurd (true≢false (sym y.0 ∙ ap is_some x.0))
disconnects_one s t u id machine.unknown machine.unknown x y = (refl, x.1 ∙ sym y.1)
disconnects_one s t u id machine.closed _ x y = absurd y
disconnects_one s t u id machine.unknown _ x y = absurd y
disconnects_one s t u id _ b x y = absurd x

-- ---- lines that leave the state

tells_one : (s t u : KnownState) (a b : Answer) → VersionsLine s a t → VersionsLine s b u → Agree a t b u
tells_one s t u (machine.versions m) (machine.versions n) x y = (ap machine.versions (x.0 ∙ sym y.0), x.1 ∙ sym y.1)
tells_one s t u (machine.versions m) _ x y = absurd y
tells_one s t u _ b x y = absurd x

long_is : (a : Answer) → IsLong a → a ≡ machine.long
long_is machine.long x = refl
long_is _ x = absurd x

syntax_is : (a : Answer) → IsSyntax a → a ≡ machine.syntax
syntax_is machine.syntax x = refl
syntax_is _ x = absurd x

name_is : (place : ℕ) (a : Answer) → IsName place a → a ≡ machine.name place
name_is place (machine.name at) x = ap machine.name x
name_is place _ x = absurd x

-- ---- all events

pub one_answer : OneAnswer
one_answer s (machine.inline_line w) a b t u x y fa fb =
    one_way (refusal s) (Spells (SpellsSource w) s) s (spells_one (SpellsSource w) s (one_spelled w)) a b t u
    (gives_way s t w a x fa) (gives_way s u w b y fb)
one_answer s (machine.source_line w content) a b t u x y fa fb =
    one_way (load_refusal s content) (Spells (IsSpelled w content) s) s
    (spells_one (IsSpelled w content) s (one_loaded w content)) a b t u
    (loads_way s t w content a x fa) (loads_way s u w content b y fb)
one_answer s machine.publish_line a b t u x y fa fb =
    one_way (begin_refusal s) (Publishes s) s (publishes_one s) a b t u (begins_way s t a x fa) (begins_way s u b y fb)
one_answer s (machine.step_line n) a b t u x y fa fb =
    one_way (hasten_refusal s n) (Made s n) s (made_one s n) a b t u (hastens_way s t n a x fa)
    (hastens_way s u n b y fb)
one_answer s machine.step_all_line a b t u x y fa fb =
    one_way (step_refusal s) (Finishes s) s (finishes_one s) a b t u (completes_way s t a x fa)
    (completes_way s u b y fb)
one_answer s machine.open_line a b t u x y fa fb = connects_one s t u a b x y fa fb
one_answer s (machine.tile_line id tile) a b t u x y fa fb =
    one_way (ask_refusal (session_of id s.sessions)) (Shows s id tile) s (shows_one s id tile) a b t u
    (asks_way s t id tile a x fa) (asks_way s u id tile b y fb)
one_answer s (machine.close_line id) a b t u x y fa fb = disconnects_one s t u id a b x y
one_answer s machine.versions_line a b t u x y fa fb = tells_one s t u a b x y
one_answer s machine.overlong a b t u x y fa fb = (long_is a x.0 ∙ sym (long_is b y.0), x.1 ∙ sym y.1)
one_answer s machine.unreadable a b t u x y fa fb = (syntax_is a x.0 ∙ sym (syntax_is b y.0), x.1 ∙ sym y.1)
one_answer s (machine.misnamed place) a b t u x y fa fb =
    (name_is place a x.0 ∙ sym (name_is place b y.0), x.1 ∙ sym y.1)

-- ---- free answers

memory_stays : (s : KnownState) (e : Event) (t : KnownState) → Step s e machine.memory t → t ≡ s
memory_stays s (machine.inline_line w) t x = x.1
memory_stays s (machine.source_line w content) t x = x.1
memory_stays s machine.publish_line t x = x.1
memory_stays s (machine.step_line n) t x = absurd (many_steps known n s machine.memory t x.2)
memory_stays s machine.step_all_line t x = absurd (many_steps known x.0 s machine.memory t x.3)
memory_stays s machine.open_line t x = x.1
memory_stays s (machine.tile_line id tile) t x = absurd x
memory_stays s (machine.close_line id) t x = absurd x
memory_stays s machine.versions_line t x = absurd x
memory_stays s machine.overlong t x = x.1
memory_stays s machine.unreadable t x = x.1
memory_stays s (machine.misnamed place) t x = x.1

shelf_stays : (s : KnownState) (e : Event) (t : KnownState) → Step s e machine.shelf t → t ≡ s
shelf_stays s (machine.source_line w content) t x = x.1
shelf_stays s (machine.step_line n) t x = absurd (many_steps known n s machine.shelf t x.2)
shelf_stays s machine.step_all_line t x = absurd (many_steps known x.0 s machine.shelf t x.3)
shelf_stays s machine.overlong t x = x.1
shelf_stays s machine.unreadable t x = x.1
shelf_stays s (machine.misnamed place) t x = x.1
shelf_stays s _ t x = absurd x

fault_leaves : (s : KnownState) (e : Event) (t : KnownState) → Step s e machine.fault t → (t ≡ s) ⊎ GivenUp s t
fault_leaves s (machine.tile_line id tile) t x = inl x.1
fault_leaves s (machine.step_line n) t x = inr (many_steps known n s machine.fault t x.2)
fault_leaves s machine.step_all_line t x = inr (many_steps known x.0 s machine.fault t x.3)
fault_leaves s machine.overlong t x = inl x.1
fault_leaves s machine.unreadable t x = inl x.1
fault_leaves s (machine.misnamed place) t x = inl x.1
fault_leaves s _ t x = absurd x

pub free_answers : FreeAnswers
free_answers s e machine.memory t x free = memory_stays s e t x
free_answers s e machine.shelf t x free = shelf_stays s e t x
free_answers s e machine.fault t x free = fault_leaves s e t x
free_answers s e _ t x free = absurd free
