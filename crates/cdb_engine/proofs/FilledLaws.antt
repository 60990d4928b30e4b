-- What publications that are drawn leave in a store that is known.
use Rattle.std.proofs.Common.{◌≡◌, ◌⊎◌, inl, inr, ℕ, ◌+◌, ◌≤◌, ◌<◌, ℤ, pos, List, [], ◌∷◌, ◌++◌, length, Option, None}
use Rattle.std.proofs.Common.{Some, Result, Ok, Err, refl, sym, ◌∙◌, ap, subst, arith}
use Rattle.std.proofs.lemmas.List.{append-nil, append_assoc, append_cancel_left, length-append}
use Rattle.cdb_model.specs.Begun.{HasBegun, begun_by, unfinished}
use Rattle.cdb_model.specs.Images.{Base, StandsSince}
use Rattle.cdb_model.specs.KnownStore.{KnownState, Going, start_at}
use Rattle.cdb_model.specs.Maps.{FileMap}
use Rattle.cdb_model.specs.Publications.{Publication, IsEntryCount}
use Rattle.cdb_model.specs.Stands.{Stands}
use Rattle.cdb_model.specs.Stores.{Which, known, store_kind, known_store}
use Rattle.cdb_model.specs.Transitions.{StateIn}
use Rattle.cdb_crash.specs.Crash.{IsClean}
use Rattle.cdb_files.specs.Disk as disk
use Rattle.cdb_files.specs.Disk.{IsImage}
use Rattle.cdb_chain.specs.Versions as chains
use Rattle.cdb_publish.specs.declared.publication.Publication as publish
use Rattle.cdb_engine.specs.Held.{Held}
use Rattle.cdb_engine.specs.Stays.{Stays}
use Rattle.cdb_engine.specs.Tracks.{Works, Origin, Leads}
use Rattle.cdb_generate.specs.Generator.{passed, AreDrawn}
use Rattle.cdb_generate.specs.Generated.{GeneratedSoFar, Generates}
use Rattle.cdb_generate.specs.Sums.{IsSum}
use Rattle.cdb_generate.proofs.ListLaws.{in_order}
use Rattle.cdb_engine.specs.Filling.{StandsButLast, with_all, but_last, AreMade, StopsAfter, PopulatesIn, FillsWith}
use Rattle.cdb_engine.specs.Filling.{IsUndamaged, Populates}
use Rattle.cdb_engine.specs.Populating.{IsAtRest, CameTo, not_begun, given_up, complete, HasPending, StopsBy}
use Rattle.cdb_engine.specs.declared.errors.PopulateError.{PopulateError}
use Rattle.cdb_engine.specs.declared.errors.PopulateError.TheVariants.{Memory, Fault, Entries, Versions, Damaged}
use Rattle.cdb_engine.specs.declared.filling.Made.{Made}
use Rattle.cdb_engine.proofs.FillLaws.{next_sofar}

-- all publications that a state knows of are a list followed by at most so many of the generator's
record AreBegun (from : List Publication) (start count : ℕ) (all : List Publication) : Type 0 where
  done : ℕ
  few : done ≤ count
  files : ℕ
  sum : ℤ
  sofar : GeneratedSoFar from start (passed done start) done files sum all

are_begun : (from : List Publication) (start count done files : ℕ) (sum : ℤ) (list all : List Publication)
    → done ≤ count → all ≡ list → GeneratedSoFar from start (passed done start) done files sum list
    → AreBegun from start count all
are_begun from start count done files sum list all few e sofar = record {
  done = done;
  few = few;
  files = files;
  sum = sum;
  sofar = subst (λ (l : List Publication). GeneratedSoFar from start (passed done start) done files sum l)
      (sym e) sofar;
}

-- a state in which none is going or given up knows of those that are complete
all_complete : (s : KnownState) (list : List Publication) → s.list ≡ list → s.going ≡ None → s.halted ≡ None
    → begun_by s ≡ list
all_complete s list e going halted = (λ i. e i ++ unfinished (going i) (halted i)) ∙ append-nil list

module _ (from : List Publication) (start count done files : ℕ) (sum : ℤ) (mid : KnownState)
    (sofar : GeneratedSoFar from start (passed done start) done files sum mid.list) (fewer : done < count) where
  came_to : (new : KnownState) → CameTo known mid (passed done start) new → AreBegun from start count (begun_by new)
  came_to new (not_begun list_is going halted) =
      are_begun from start count done files sum mid.list (begun_by new) (omega (arith, fewer))
      (all_complete new mid.list list_is going halted) sofar
  came_to new (given_up next list_is going halted) =
      are_begun from start count (done + 1) _ _ (mid.list ++ next.planned ∷ []) (begun_by new) (omega (arith, fewer))
      (λ i. list_is i ++ unfinished (going i) (halted i)) (next_sofar from start done files sum mid sofar next)
  came_to new (complete next list_is going halted) =
      are_begun from start count (done + 1) _ _ (mid.list ++ next.planned ∷ []) (begun_by new) (omega (arith, fewer))
      (all_complete new (mid.list ++ next.planned ∷ []) list_is going halted)
      (next_sofar from start done files sum mid sofar next)

  has_pending : (new : KnownState) → IsAtRest known_store mid → HasPending known mid (passed done start) new
      → AreBegun from start count (begun_by new)
  has_pending new rest pending =
      are_begun from start count done files sum mid.list (begun_by new) (omega (arith, fewer))
      (ap begun_by pending.state ∙ all_complete mid mid.list refl rest.going rest.halted) sofar

  stopped : (error : PopulateError) (new : KnownState) → IsAtRest known_store mid
      → StopsBy known mid (passed done start) error new → AreBegun from start count (begun_by new)
  stopped Memory new rest stops = came_to new stops
  stopped Fault new rest stops = came_to new stops
  stopped (Entries n) new rest stops = has_pending new rest stops.0
  stopped Versions new rest stops = has_pending new rest stops.0
  stopped (Damaged expected found) new rest stops = absurd stops

undamaged : (mid new : KnownState) (x : ℕ) (error : PopulateError) → StopsBy known mid x error new → IsUndamaged error
undamaged mid new x Memory stops = tt
undamaged mid new x Fault stops = tt
undamaged mid new x (Entries n) stops = tt
undamaged mid new x Versions stops = tt
undamaged mid new x (Damaged expected found) stops = stops

-- ---- the publications begun

-- they are the ones that come after the list
same_begun : (from begun made : List Publication) (s : KnownState) → HasBegun from s begun → begun_by s ≡ from ++ made
    → begun ≡ made
same_begun from begun made s has e =
    let unf : List Publication = unfinished s.going s.halted in
    append_cancel_left from begun made
    (ap (λ (l : List Publication). from ++ l) has.begun_is
    ∙ sym (append_assoc from has.complete unf)
    ∙ ap (λ (l : List Publication). l ++ unf) (sym has.list_is) ∙ e)

generates : (base : Base) (start count : ℕ) (Since : FileMap → Type 0) (begun : List Publication) (s : KnownState)
    → HasBegun base.list s begun → AreBegun base.list start count (begun_by s)
    → ((m : FileMap) → Since m → StandsSince base begun m) → Generates base start count Since begun
generates base start count Since begun s has are since =
    let made = are.sofar.made in
    let same : begun ≡ made = same_begun base.list begun made s has are.sofar.list_is in
    let number : length begun ≡ are.done = ap length same ∙ are.sofar.counted in
    let few = are.few in
    record {
      drawn = subst (λ (l : List Publication). AreDrawn start l) (sym same) are.sofar.drawn;
      few = omega (arith, number, few);
      since = since;
    }

-- a disk at rest is clean
clean : (list : List Publication) (going : Option Going) (given : Option Publication)
    (work : Option publish.Publication) (halted : Option ℕ) (chain : chains.Versions) (d : disk.State)
    → going ≡ None → given ≡ None → Works list going given work halted chain d → IsClean Stands list d
clean list None None None None chain d idle running works = works
clean list None None None (Some faults) chain d idle running works = absurd works
clean list None None (Some work) None chain d idle running works = absurd works
clean list None None (Some work) (Some faults) chain d idle running works = absurd works
clean list None (Some x) work halted chain d idle running works = let e : Some x ≡ None = running in absurd (cc)
clean list (Some now) given work halted chain d idle running works = let e : Some now ≡ None = idle in absurd (cc)

filled : (base : Base) (start count : ℕ) (Left : FileMap → Type 0) (begun : List Publication) (s : KnownState)
    (made : Made)
    → HasBegun base.list s begun → AreMade known (start_at base.list) start count made.files made.sum s
    → made.versions ≡ length s.list → ((m : FileMap) → Left m → Stands m s.list) → FillsWith base count Left begun made
filled base start count Left begun s made has are versions left =
    let sofar : GeneratedSoFar base.list start (passed count start) count made.files made.sum s.list = are.follow in
    let list = sofar.made in
    let all : begun_by s ≡ base.list ++ list =
    all_complete s (base.list ++ list) sofar.list_is are.at_rest.going are.at_rest.halted in
    let same : begun ≡ list = same_begun base.list begun list s has all in
    let list_is : s.list ≡ base.list ++ begun =
    sofar.list_is ∙ ap (λ (l : List Publication). base.list ++ l) (sym same) in
    let number : length begun ≡ count = ap length same ∙ sofar.counted in
    record {
      all = number;
      at_exit = λ m here. subst (λ (l : List Publication). Stands m l) list_is (left m here);
      versions_are = versions ∙ ap length list_is ∙ length-append base.list begun
          ∙ ap (λ (n : ℕ). length base.list + n) number;
      files_are = subst (λ (l : List Publication). IsEntryCount l made.files) (sym same) sofar.files_are;
      sum_is = subst (λ (l : List Publication). IsSum base.list l made.sum) (sym same) sofar.sum_is;
    }

-- whatever is going or was given up, a crash leaves all that were begun, but for the last
left_by : (from ended begun list : List Publication) (going : Option Going) (given : Option Publication)
    (work : Option publish.Publication) (halted : Option ℕ) (chain : chains.Versions) (d : disk.State)
    → list ≡ from ++ ended → begun ≡ ended ++ unfinished going given
    → Works list going given work halted chain d → (m : FileMap) → IsImage d m → StandsButLast from begun m
left_by from ended begun list None None None None chain d list_is begun_is works m image =
    with_all (subst (Stands m) (list_is ∙ ap (λ (l : List Publication). from ++ l)
    (sym (begun_is ∙ append-nil ended))) (works.whole.stands m image))
left_by from ended begun list (Some now) None (Some work) None chain d list_is begun_is works m image =
    but_last ended now.publication begun_is
    (subst (Stands m) list_is (works.underway.mid.whole.stands m image))
left_by from ended begun list None (Some x) None (Some faults) chain d list_is begun_is works m image =
    by (works m image)
  where
    by : Stands m list ⊎ Stands m (list ++ x ∷ []) → StandsButLast from begun m
    by (inl stands) = but_last ended x begun_is (subst (Stands m) list_is stands)
    by (inr stands) = with_all (subst (Stands m) (ap (λ (l : List Publication). l ++ x ∷ []) list_is
        ∙ append_assoc from ended (x ∷ []) ∙ ap (λ (l : List Publication). from ++ l) (sym begun_is)) stands)
left_by from ended begun list _ _ _ _ chain d list_is begun_is works m image = absurd works

-- ---- the whole

module _ {D : Type 0} (tells : Type 0) (clock count : D → ℕ) (since : D → ℕ → FileMap → Type 0) (state : D → disk.State)
    (origin : Origin) (start most : ℕ) (d : D) (held : Held) where
  abbrev base : Base
  base = origin.store

  pub populates : (result : Result Made PopulateError)
      → Leads (PopulatesIn known (start_at origin.store.list) start most result)
      (Stays tells clock count since state origin d held known)
      → Populates origin.store start most (since d origin.store.moment) (since d origin.opened)
      (IsImage (state d)) result
  populates (Ok made) led =
      let f = led.now.is in
      let s : KnownState = led.next in
      let are = led.step.0 in
      record {
        begun = f.begun;
        generates = generates base start most (since d base.moment) f.begun s f.has_begun
            (are_begun base.list start most most made.files made.sum s.list (begun_by s) (omega arith)
            (all_complete s s.list refl are.at_rest.going are.at_rest.halted) are.follow) f.images;
        later_images = f.later_images;
        left = left_by base.list f.has_begun.complete f.begun s.list s.going s.halted held.work held.halted held.chain
            (state d) f.has_begun.list_is f.has_begun.begun_is f.tracks.works;
        filled = filled base start most (IsImage (state d)) f.begun s made f.has_begun are led.step.1
            (clean s.list s.going s.halted held.work held.halted held.chain (state d) are.at_rest.going
            are.at_rest.halted f.tracks.works).whole.stands;
        undamaged = tt;
      }
  populates (Err error) led = elim led.step [
    | inl none ↦ let f = led.now.is in record {
      begun = f.begun;
      generates = generates base start most (since d base.moment) f.begun led.next f.has_begun
          (are_begun base.list start most 0 0 (pos 0) base.list (begun_by led.next) (omega arith)
          (ap begun_by none.1 ∙ append-nil base.list) (in_order.begins base.list start)) f.images;
      later_images = f.later_images;
      left = left_by base.list f.has_begun.complete f.begun led.next.list led.next.going led.next.halted held.work
          held.halted held.chain (state d) f.has_begun.list_is f.has_begun.begun_is f.tracks.works;
      filled = tt;
      undamaged = subst (λ (e : PopulateError). IsUndamaged e) (sym none.0) tt;
    }
    | inr after ↦ let f = led.now.is in record {
      begun = f.begun;
      generates = generates base start most (since d base.moment) f.begun led.next f.has_begun
          (stopped base.list start most after.done after.files after.sum after.mid after.made.follow after.fewer
          error led.next after.made.at_rest after.stops) f.images;
      later_images = f.later_images;
      left = left_by base.list f.has_begun.complete f.begun led.next.list led.next.going led.next.halted held.work
          held.halted held.chain (state d) f.has_begun.list_is f.has_begun.begun_is f.tracks.works;
      filled = tt;
      undamaged = undamaged after.mid led.next (passed after.done start) error after.stops;
    }
  ]

-- a store that was just opened is at rest
pub at_start : (list : List Publication) → IsAtRest known_store (start_at list)
at_start list = record { pending = refl; going = refl; halted = refl; sessions = refl }

-- ---- what is told of them

module _ (w : Which) (s : StateIn (store_kind w)) (start count : ℕ) (New : StateIn (store_kind w) → Type 0) where
  pub none_begun : New s → Leads (PopulatesIn w s start count (Err Memory)) New
  none_begun now = record { next = s; step = inl (refl, refl); now = now }

  pub some_begun : (error : PopulateError) → Leads (StopsAfter w s start count error) New
      → Leads (PopulatesIn w s start count (Err error)) New
  some_begun error led = record { next = led.next; step = inr led.step; now = led.now }

  pub all_begun : (made : Made) (sum : ℤ) → made.sum ≡ sum
      → ((new : StateIn (store_kind w)) → New new → made.versions ≡ (store_kind w).versions new.list)
      → Leads (AreMade w s start count made.files sum) New → Leads (PopulatesIn w s start count (Ok made)) New
  all_begun made sum e newest led = record {
    next = led.next;
    step = (
      subst (λ (z : ℤ). AreMade w s start count made.files z led.next) (sym e) led.step,
      newest led.next led.now,
    );
    now = led.now;
  }
