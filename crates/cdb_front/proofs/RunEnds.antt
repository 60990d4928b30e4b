-- How a run stops.
use Rattle.std.proofs.Common.{◌≡◌, ℕ, ◌+◌, ◌<◌, ◌≤◌, ◌^◌, List, [], ◌∷◌, ◌++◌, length, Option, None, Some, Err, inl, inr, refl, ap, sym, ◌∙◌, append_assoc, append-nil, subst, arith, length-append}
use Rattle.std.specs.Io.KnownBytes.{Consumes, IsAtEnd}
use Rattle.std.proofs.KnownBytes.{Consumes-nil, Consumes-trans}
use Rattle.cdb_model.specs.AnswerTexts.{texts_of}
use Rattle.cdb_model.specs.Causes.{Rose}
use Rattle.cdb_model.specs.Events as machine
use Rattle.cdb_model.specs.Images.{Base}
use Rattle.cdb_model.specs.KnownStore.{KnownState, start_at}
use Rattle.cdb_model.specs.Maps.{Content, FileMap}
use Rattle.cdb_model.specs.Runs.{Item, Run, RunIn, items_of}
use Rattle.cdb_model.specs.Stores.{Kind, known, any, known_store, any_store}
use Rattle.cdb_model.specs.Text.{Text}
use Rattle.cdb_model.specs.Transitions.{StateIn}
use Rattle.cdb_chain.specs.declared.open_error.OpenError.{OpenError}
use Rattle.cdb_chain.specs.declared.open_error.OpenError.TheVariants as refused
use Rattle.cdb_manifest.specs.declared.record_.Record.{Record}
use Rattle.cdb_check.specs.declared.outcome.CheckError.{CheckError}
use Rattle.cdb_check.specs.declared.outcome.CheckError.TheVariants as check
use Rattle.cdb_engine.specs.Checks.{AreOpened}
use Rattle.cdb_engine.specs.Store.{IsStoreFound, TellsNoStore}
use Rattle.cdb_engine.specs.Tracks.{Leads}
use Rattle.cdb_front.specs.Beginning.{CountsRecords, BeginsAsRead}
use Rattle.cdb_front.specs.inside.Checking.{checked_status}
use Rattle.cdb_front.specs.inside.Failures.{KeepsFailure}
use Rattle.cdb_front.specs.Failures.{ReadsOnce, EndsReading}
use Rattle.cdb_front.specs.RunOutcome.{StopsScript, IsOfStore, Hears, AllMade, WritesAnswers, EndsScript, EndsUnwritten, HasRecords, SaysStore, WasOpened, HasNoStore, status_of}
use Rattle.cdb_front.specs.RunProgress.{Sight, RunStart, Holds, Runs, first_state, Told, RunSoFar, Answered, IsQuit, Broken, UpTo}
use Rattle.cdb_front.specs.inside.RunReading.{Reading}
use Rattle.cdb_front.specs.declared.exit_status.Status.{Status}
use Rattle.cdb_front.specs.declared.exit_status.Status.TheVariants.{Done, Memory, Usage, InputFault, OutputFault, StoreFault, NotAStore, TooLong, Differs, Refused, Damaged}

-- nothing was read, and nothing answered
abbrev pub reading_begins : {tells : Type 0} {e : RunStart} (left : Option (List ℕ)) {written : Option (List ℕ)}
    {shelf disk : ℕ}
    {Now : Sight} (kept : Option (List ℕ)) → kept ≡ Some [] → Told tells e [] written shelf disk Now
    → Reading tells e left left written shelf disk Now kept 0
reading_begins left kept fresh told =
    record {
      read = [];
      input = Consumes-nil left;
      sofar = record {
        lines = [];
        rest = [];
        cut = record { joined = refl; whole = tt; open_end = tt };
        no_quit = tt;
        told = told;
        kept_is = fresh;
      };
      count = refl;
    }

-- the piece was taken whole
pub reading_more : {tells : Type 0} {e : RunStart} {left left' : Option (List ℕ)} (left'' : Option (List ℕ))
    {written : Option (List ℕ)} {shelf disk : ℕ} {Old : Sight} {kept : Option (List ℕ)} {taken : ℕ} (count : ℕ)
    {written' : Option (List ℕ)} {shelf' disk' : ℕ} {New : Sight} {new : Option (List ℕ)} (piece : Text)
    → (r : Reading tells e left left' written shelf disk Old kept taken) → Consumes left' left'' piece
    → length piece ≡ count
    → RunSoFar tells e (r.read ++ piece) written' shelf' disk' New new
    → Reading tells e left left'' written' shelf' disk' New new (taken + count)
reading_more {left = left} {left' = left'} left'' count piece r more long s =
    record {
      read = r.read ++ piece;
      input = Consumes-trans left left' left'' r.read piece r.input more;
      sofar = s;
      count = omega (arith, r.count, length-append r.read piece);
    }

-- ---- where the answers were written whole, nothing is said of the last

leads_with : {S : Type 0} (Step Now P : S → Type 0) → ((s : S) → P s) → Leads Step Now → Leads Step (λ s. Now s × P s)
leads_with Step Now P all led = record { next = led.next; step = led.step; now = (led.now, all led.next) }

runs_with : (Has : Text → Content → Type 0) (from : Option Base) (items : List Item) (answers : List machine.Answer)
    (Now P : KnownState → Type 0) → ((s : KnownState) → P s) → Runs Has from items answers Now
    → Runs Has from items answers (λ s. Now s × P s)
runs_with Has None items answers Now P all runs = tt
runs_with Has (Some base) items answers Now P all runs =
    leads_with (Run Has (start_at base.list) items answers) Now P all runs

-- ---- all that was read was answered

-- the last line that was read was answered too
done : {tells : Type 0} {e : RunStart} (P : Text → Type 0) (read unread : Text) (left left' : Option (List ℕ))
    (written : Option (List ℕ)) (shelf disk : ℕ) (Now : Sight)
    → Consumes left left' (read ++ unread) → length (read ++ unread) ≤ 2 ^ 32 → length unread ≤ 4096
    → (a : Answered tells e P read written shelf disk Now)
    → EndsScript Done left' read unread a.rest → StopsScript tells e shelf disk left left' written Now Done
done {tells = tells} {e = e} P read unread left left' written shelf disk Now taken few small a finishes =
    let items = items_of e.most (a.lines ++ a.rest ∷ []) in
    record {
      transcript = record {
        read = read;
        unread = unread;
        taken = taken;
        few = few;
        piece = small;
        lines = a.lines;
        rest = a.rest;
        cut = a.cut;
        no_quit = a.no_quit;
        heard = a.lines ++ a.rest ∷ [];
        hears = refl;
        items = items;
        unmade = [];
        items_are = sym (append-nil _);
        makes = refl;
        answers = a.told.answers;
        shelf_counted = a.told.shelf_counted;
        disk_counted = a.told.disk_counted;
        other = a.told.other;
        wrote = texts_of a.told.answers;
        appended = a.told.appended;
        writes = refl;
        finishes = finishes;
      };
      run = runs_with (Holds tells e.files) e.from items a.told.answers (Now known) (λ s. Unit {0}) (λ s. tt)
          a.told.run;
      order = leads_with (RunIn any_store (Holds tells e.files) e.start items a.told.answers) (Now any) (λ s. Unit {0})
          (λ s. tt) a.told.order;
    }

-- its answer wasn't written whole
broken : {tells : Type 0} {e : RunStart} (read unread : Text) (left left' : Option (List ℕ)) (written : Option (List ℕ))
    (shelf disk : ℕ) (Now : Sight)
    → Consumes left left' (read ++ unread) → length (read ++ unread) ≤ 2 ^ 32 → length unread ≤ 4096
    → (b : Broken tells e read written shelf disk Now)
    → EndsScript OutputFault left' read unread b.rest
    → StopsScript tells e shelf disk left left' written Now OutputFault
broken read unread left left' written shelf disk Now taken few small b finishes =
    let t = b.torn in
    record {
      transcript = record {
        read = read;
        unread = unread;
        taken = taken;
        few = few;
        piece = small;
        lines = b.lines;
        rest = b.rest;
        cut = b.cut;
        no_quit = b.no_quit;
        heard = b.lines ++ b.rest ∷ [];
        hears = refl;
        items = b.items;
        unmade = b.unmade;
        items_are = b.items_are;
        makes = b.reaches;
        answers = t.whole ++ t.answer ∷ [];
        shelf_counted = t.shelf_counted;
        disk_counted = t.disk_counted;
        other = t.other;
        wrote = texts_of t.whole ++ t.part;
        appended = t.appended;
        writes = record {
          whole = t.whole;
          last = t.answer;
          answers_are = refl;
          part = t.part;
          rest = t.unwritten;
          joined = t.joined;
          short = t.short;
          wrote_is = refl;
        };
        finishes = finishes;
      };
      run = t.run;
      order = t.order;
    }

-- bytes that were read, and a piece after them up to a line feed
in_piece : (left left' left'' : Option (List ℕ)) (read front back piece : Text) (taken : ℕ) → piece ≡ front ++ 10 ∷ back
    → taken ≡ length read
    → Consumes left left' read → Consumes left' left'' piece → taken + length piece ≤ 2 ^ 32 → length piece ≤ 4096
    → Consumes left left'' ((read ++ front) ++ 10 ∷ back) × (length ((read ++ front) ++ 10 ∷ back) ≤ 2 ^ 32)
    × (length (read ++ front) < 2 ^ 32) × (length (10 ∷ back) ≤ 4096)
in_piece left left' left'' read front back piece taken joined count first more room small =
    let few : length ((read ++ front) ++ 10 ∷ back) ≤ 2 ^ 32 =
    omega (
      arith,
      room,
      count,
      ap length joined,
      length-append (read ++ front) (10 ∷ back),
      length-append read front,
      length-append front (10 ∷ back),
    ) in
    let fewer : length (read ++ front) < 2 ^ 32 = omega (arith, few, length-append (read ++ front) (10 ∷ back)) in (
      subst (Consumes left left'') (ap (λ l. read ++ l) joined ∙ sym (append_assoc read front (10 ∷ back)))
          (Consumes-trans left left' left'' read piece first more),
      few,
      fewer,
      omega
          (arith, small, ap length joined, length-append front (10 ∷ back)),
    )

-- `quit` was among the bytes of a piece
pub stops_quit : {tells : Type 0} {e : RunStart} {left left' : Option (List ℕ)} (left'' : Option (List ℕ))
    {written : Option (List ℕ)} {shelf disk : ℕ} {Old : Sight} {kept : Option (List ℕ)} {taken : ℕ}
    (written' : Option (List ℕ)) (shelf' disk' : ℕ) (New : Sight) (piece : Text)
    → (r : Reading tells e left left' written shelf disk Old kept taken) → Consumes left' left'' piece
    → taken + length piece ≤ 2 ^ 32 → length piece ≤ 4096
    → UpTo piece (λ front. Answered tells e IsQuit (r.read ++ front) written' shelf' disk' New)
    → StopsScript tells e shelf' disk' left left'' written' New Done
stops_quit {left = left} {left' = left'} left'' {taken = taken} written' shelf' disk' New piece r more room small up =
    let p = in_piece left left' left'' r.read up.front up.back piece taken up.joined r.count r.input more room small in
    done IsQuit (r.read ++ up.front) (10 ∷ up.back) left left'' written' shelf' disk' New p.0 p.1 p.3 up.reached
    (p.2, inr (up.reached.last, (up.back, refl)))

-- an answer to a line of a piece wasn't written whole
pub stops_broken : {tells : Type 0} {e : RunStart} {left left' : Option (List ℕ)} (left'' : Option (List ℕ))
    {written : Option (List ℕ)} {shelf disk : ℕ} {Old : Sight} {kept : Option (List ℕ)} {taken : ℕ}
    (written' : Option (List ℕ)) (shelf' disk' : ℕ) (New : Sight) (piece : Text)
    → (r : Reading tells e left left' written shelf disk Old kept taken) → Consumes left' left'' piece
    → taken + length piece ≤ 2 ^ 32 → length piece ≤ 4096
    → UpTo piece (λ front. Broken tells e (r.read ++ front) written' shelf' disk' New)
    → StopsScript tells e shelf' disk' left left'' written' New OutputFault
stops_broken {left = left} {left' = left'} left'' {taken = taken} written' shelf' disk' New piece r more room small up =
    let p = in_piece left left' left'' r.read up.front up.back piece taken up.joined r.count r.input more room small in
    broken (r.read ++ up.front) (10 ∷ up.back) left left'' written' shelf' disk' New p.0 p.1 p.3 up.reached
    (p.2, inr (up.back, refl))

-- bytes that were read, and nothing after them
at_end : (left left' left'' : Option (List ℕ)) (read : Text) (taken : ℕ) → taken ≡ length read
    → Consumes left left' read → Consumes left' left'' [] → taken ≤ 2 ^ 32
    → Consumes left left'' (read ++ []) × (length (read ++ []) ≤ 2 ^ 32)
at_end left left' left'' read taken count first more room =
    let n = ap length (append-nil read) in (
      Consumes-trans left left' left'' read [] first more,
      omega
          (arith, room, count, n),
    )

-- the last line, which no line feed ends, was answered at the end of the input
pub stops_done : {tells : Type 0} {e : RunStart} (P : Text → Type 0) {left left' : Option (List ℕ)}
    (left'' : Option (List ℕ)) {written : Option (List ℕ)} {shelf disk : ℕ} {Old : Sight}
    {kept : Option (List ℕ)} {taken : ℕ}
    (written' : Option (List ℕ)) (shelf' disk' : ℕ) (New : Sight)
    → (r : Reading tells e left left' written shelf disk Old kept taken) → Consumes left' left'' [] → taken < 2 ^ 32
    → IsAtEnd left''
    → Answered tells e P r.read written' shelf' disk' New
    → StopsScript tells e shelf' disk' left left'' written' New Done
stops_done P {left = left} {left' = left'} left'' {taken = taken} written' shelf' disk' New r more room end a =
    let p = at_end left left' left'' r.read taken r.count r.input more (omega (arith, room)) in
    done P r.read [] left left'' written' shelf' disk' New p.0 p.1 (omega arith) a
    (subst (λ n. n < 2 ^ 32) r.count room, inl (refl, end))

pub stops_broken_at_end : {tells : Type 0} {e : RunStart} {left left' : Option (List ℕ)} (left'' : Option (List ℕ))
    {written : Option (List ℕ)} {shelf disk : ℕ} {Old : Sight} {kept : Option (List ℕ)} {taken : ℕ}
    (written' : Option (List ℕ)) (shelf' disk' : ℕ) (New : Sight)
    → (r : Reading tells e left left' written shelf disk Old kept taken) → Consumes left' left'' [] → taken < 2 ^ 32
    → IsAtEnd left''
    → Broken tells e r.read written' shelf' disk' New
    → StopsScript tells e shelf' disk' left left'' written' New OutputFault
stops_broken_at_end {left = left} {left' = left'} left'' {taken = taken} written' shelf' disk' New r more room end b =
    let p = at_end left left' left'' r.read taken r.count r.input more (omega (arith, room)) in
    broken r.read [] left left'' written' shelf' disk' New p.0 p.1 (omega arith) b
    (subst (λ n. n < 2 ^ 32) r.count room, inl (refl, end))

-- ---- the whole lines alone were answered

-- no more is read: the input failed, or is too long, or no store was opened
cut_off : {tells : Type 0} {e : RunStart} {left left' written : Option (List ℕ)} {shelf disk : ℕ} {Now : Sight}
    {kept : Option (List ℕ)} {taken : ℕ} (status : Status) (left'' : Option (List ℕ))
    → (r : Reading tells e left left' written shelf disk Now kept taken) → Consumes left' left'' [] → taken ≤ 2 ^ 32
    → (heard : List Text) → Hears status r.sofar.lines r.sofar.rest heard
    → items_of e.most heard ≡ items_of e.most r.sofar.lines
    → AllMade status e.most r.sofar.lines (items_of e.most r.sofar.lines) []
    → WritesAnswers status r.sofar.told.answers (texts_of r.sofar.told.answers)
    → EndsScript status left'' r.read [] r.sofar.rest
    → ((k : Kind) (old : StateIn k) (s : StateIn k)
    → EndsUnwritten status k (Holds tells e.files) old (items_of e.most r.sofar.lines) r.sofar.told.answers s)
    → StopsScript tells e shelf disk left left'' written Now status
cut_off {tells = tells} {e = e} {left = left} {left' = left'} {Now = Now} {taken = taken} status left'' r more few heard
    hears same makes writes finishes whole =
    let p = at_end left left' left'' r.read taken r.count r.input more few in
    let items = items_of e.most r.sofar.lines in
    let answers = r.sofar.told.answers in
    let Has = Holds tells e.files in
    record {
      transcript = record {
        read = r.read;
        unread = [];
        taken = p.0;
        few = p.1;
        piece = omega arith;
        lines = r.sofar.lines;
        rest = r.sofar.rest;
        cut = r.sofar.cut;
        no_quit = r.sofar.no_quit;
        heard = heard;
        hears = hears;
        items = items;
        unmade = [];
        items_are = same ∙ sym (append-nil _);
        makes = makes;
        answers = r.sofar.told.answers;
        shelf_counted = r.sofar.told.shelf_counted;
        disk_counted = r.sofar.told.disk_counted;
        other = r.sofar.told.other;
        wrote = texts_of r.sofar.told.answers;
        appended = r.sofar.told.appended;
        writes = writes;
        finishes = finishes;
      };
      run = runs_with Has e.from items answers (Now known)
          (EndsUnwritten status known_store Has (first_state e known) items answers)
          (whole known_store (first_state e known)) r.sofar.told.run;
      order = leads_with (RunIn any_store Has e.start items answers) (Now any)
          (EndsUnwritten status any_store Has e.start items answers) (whole any_store e.start) r.sofar.told.order;
    }

pub stops_input : {tells : Type 0} {e : RunStart} {left left' written : Option (List ℕ)} {shelf disk : ℕ} {Now : Sight}
    {kept : Option (List ℕ)} {taken : ℕ} (left'' : Option (List ℕ))
    → (r : Reading tells e left left' written shelf disk Now kept taken) → Consumes left' left'' [] → taken < 2 ^ 32
    → StopsScript tells e shelf disk left left'' written Now InputFault
stops_input left'' r more room =
    cut_off InputFault left'' r more (omega (arith, room)) r.sofar.lines refl refl refl refl
    (refl, subst (λ n. n < 2 ^ 32) r.count room) (λ k old s. tt)

pub stops_long : {tells : Type 0} {e : RunStart} {left left' written : Option (List ℕ)} {shelf disk : ℕ} {Now : Sight}
    {kept : Option (List ℕ)} {taken : ℕ}
    → (r : Reading tells e left left' written shelf disk Now kept taken) → taken ≡ 2 ^ 32
    → StopsScript tells e shelf disk left left' written Now TooLong
stops_long {left' = left'} r all =
    cut_off TooLong left' r (Consumes-nil left') (omega (arith, all)) r.sofar.lines refl refl refl refl
    (refl, sym r.count ∙ all) (λ k old s. tt)

-- the store wasn't opened
pub stops_closed : {tells : Type 0} {e : RunStart} (status : Status) (left written : Option (List ℕ)) (shelf disk : ℕ)
    (Now : Sight) → HasNoStore status
    → Told tells e [] written shelf disk Now → StopsScript tells e shelf disk left left written Now status
stops_closed {tells = tells} {e = e} status left written shelf disk Now closed told = by status closed
  where
    r : Reading tells e left left written shelf disk Now (Some []) 0
    r = reading_begins left (Some []) refl told

    by : (status : Status) → HasNoStore status → StopsScript tells e shelf disk left left written Now status
    by Memory c = cut_off Memory left r (Consumes-nil left) (omega arith) [] refl refl refl refl (refl, refl)
        (λ k old s. tt)
    by Usage c = cut_off Usage left r (Consumes-nil left) (omega arith) [] refl refl refl refl (refl, refl)
        (λ k old s. tt)
    by StoreFault c = cut_off StoreFault left r (Consumes-nil left) (omega arith) [] refl refl refl refl (refl, refl)
        (λ k old s. tt)
    by (NotAStore version place) c = cut_off (NotAStore version place) left r (Consumes-nil left) (omega arith) [] refl
        refl refl refl (refl, refl) (λ k old s. tt)
    by Done c = absurd c
    by InputFault c = absurd c
    by OutputFault c = absurd c
    by TooLong c = absurd c
    by (Differs path) c = absurd c
    by (Refused limit) c = absurd c
    by (Damaged expected found) c = absurd c

-- ---- a store or none

-- a run that ends with another status than it aimed at says nothing of the store
pub says_store : (tells : Type 0) (present now : FileMap) (status result : Status)
    → ((result ≡ OutputFault → ⊥) → result ≡ status) → SaysStore tells present now status
    → SaysStore tells present now result
says_store tells present now status OutputFault same says = tt
says_store tells present now status Memory same says = tt
says_store tells present now status Usage same says = tt
says_store tells present now status StoreFault same says = tt
says_store tells present now status Done same says =
    subst (λ (x : Status). SaysStore tells present now x) (sym (same (λ e. cc))) says
says_store tells present now status InputFault same says =
    subst (λ (x : Status). SaysStore tells present now x) (sym (same (λ e. cc))) says
says_store tells present now status TooLong same says =
    subst (λ (x : Status). SaysStore tells present now x) (sym (same (λ e. cc))) says
says_store tells present now status (Differs path) same says =
    subst (λ (x : Status). SaysStore tells present now x) (sym (same (λ e. cc))) says
says_store tells present now status (Refused limit) same says =
    subst (λ (x : Status). SaysStore tells present now x) (sym (same (λ e. cc))) says
says_store tells present now status (Damaged expected found) same says =
    subst (λ (x : Status). SaysStore tells present now x) (sym (same (λ e. cc))) says
says_store tells present now status (NotAStore version place) same says =
    subst (λ (x : Status). SaysStore tells present now x) (sym (same (λ e. cc))) says

-- a run that came after opening
pub opened_says : (tells : Type 0) (present left now : FileMap) (records : List Record) (status : Status)
    → (tells → AreOpened present left records) → ((version place : ℕ) → status ≡ NotAStore version place → ⊥)
    → SaysStore tells present now status
opened_says tells present left now records status opened is_one = by status is_one
  where
    has : tells → HasRecords present
    has told = record { left = left; records = records; opened = opened told }

    by : (status : Status) → ((version place : ℕ) → status ≡ NotAStore version place → ⊥)
        → SaysStore tells present now status
    by Done is_one = has
    by Memory is_one = tt
    by Usage is_one = tt
    by InputFault is_one = has
    by OutputFault is_one = tt
    by StoreFault is_one = tt
    by TooLong is_one = has
    by (Differs path) is_one = has
    by (Refused limit) is_one = has
    by (Damaged expected found) is_one = has
    by (NotAStore version place) is_one = absurd (is_one version place refl)

pub opened_is_one : (status : Status) → WasOpened status → (version place : ℕ) → status ≡ NotAStore version place → ⊥
opened_is_one status o version place is = subst WasOpened is o

pub checked_is_one : (error : CheckError) (status : Status) → status ≡ checked_status error → (version place : ℕ)
    → status ≡ NotAStore version place → ⊥
checked_is_one check.Memory status is version place e = let no : Memory ≡ NotAStore version place = sym is ∙ e in cc
checked_is_one check.Fault status is version place e = let no : StoreFault ≡ NotAStore version place = sym is ∙ e in cc
checked_is_one (check.Differs path) status is version place e =
    let no : Differs path ≡ NotAStore version place = sym is ∙ e in cc

-- a store that wasn't opened
pub unopened_of_store : (error : OpenError) (status : Status) → status ≡ status_of error → IsStoreFound error
    → IsOfStore status
unopened_of_store error status is found = subst (λ (x : Status). IsOfStore x) (sym is) (by error found)
  where
    by : (error : OpenError) → IsStoreFound error → IsOfStore (status_of error)
    by refused.Memory found = tt
    by refused.Fault found = tt
    by (refused.NotAStore version place) found = absurd found

pub unopened_says : (T : Type 0) (tells : Type 0) (present now : FileMap) (error : OpenError) (status : Status)
    → status ≡ status_of error
    → TellsNoStore {T = T} tells present now (Err error) → SaysStore tells present now status
unopened_says T tells present now error status is told = subst (λ (x : Status). SaysStore tells present now x) (sym is)
    (by error told)
  where
    by : (error : OpenError) → TellsNoStore {T = T} tells present now (Err error)
        → SaysStore tells present now (status_of error)
    by refused.Memory told = tt
    by refused.Fault told = tt
    by (refused.NotAStore version place) told = told

-- ---- reads

-- a run that ends neither as a read failed nor as a write did
pub reads_whole : (status result : Status) (before now : ℕ) → ((result ≡ OutputFault → ⊥) → result ≡ status)
    → ReadsOnce status before now → (result ≡ InputFault → ⊥) → (result ≡ OutputFault → ⊥) → now ≡ before
reads_whole status result before now same once read wrote = by status once (λ e. read (same wrote ∙ e))
  where
    by : (status : Status) → ReadsOnce status before now → (status ≡ InputFault → ⊥) → now ≡ before
    by InputFault once read = absurd (read refl)
    by Done once read = once
    by Memory once read = once
    by Usage once read = once
    by OutputFault once read = once
    by StoreFault once read = once
    by (NotAStore version place) once read = once
    by TooLong once read = once
    by (Differs path) once read = once
    by (Refused limit) once read = once
    by (Damaged expected found) once read = once

-- no read failed, or the last one
pub ends_reading : (status : Status) (before now : ℕ) (left failed_before failed_at : Option (List ℕ))
    → (status ≡ InputFault → Rose before now) → (status ≡ InputFault → left ≡ failed_at) → ReadsOnce status before now
    → KeepsFailure status failed_before failed_at → EndsReading status before now left failed_before failed_at
ends_reading InputFault before now left failed_before failed_at rose stops once keeps =
    record { rose = rose refl; once = once; stops = stops refl }
ends_reading Done before now left failed_before failed_at rose stops once keeps = (once, keeps)
ends_reading Memory before now left failed_before failed_at rose stops once keeps = (once, keeps)
ends_reading Usage before now left failed_before failed_at rose stops once keeps = (once, keeps)
ends_reading OutputFault before now left failed_before failed_at rose stops once keeps = (once, keeps)
ends_reading StoreFault before now left failed_before failed_at rose stops once keeps = (once, keeps)
ends_reading (NotAStore version place) before now left failed_before failed_at rose stops once keeps = (once, keeps)
ends_reading TooLong before now left failed_before failed_at rose stops once keeps = (once, keeps)
ends_reading (Differs path) before now left failed_before failed_at rose stops once keeps = (once, keeps)
ends_reading (Refused limit) before now left failed_before failed_at rose stops once keeps = (once, keeps)
ends_reading (Damaged expected found) before now left failed_before failed_at rose stops once keeps = (once, keeps)

-- nothing was read
pub reads_none : (status : Status) (faults : ℕ) (left failed_at : Option (List ℕ)) → HasNoStore status
    → EndsReading status faults faults left failed_at failed_at
reads_none Memory faults left failed_at closed = (refl, refl)
reads_none Usage faults left failed_at closed = (refl, refl)
reads_none StoreFault faults left failed_at closed = (refl, refl)
reads_none (NotAStore version place) faults left failed_at closed = (refl, refl)
reads_none Done faults left failed_at closed = absurd closed
reads_none InputFault faults left failed_at closed = absurd closed
reads_none OutputFault faults left failed_at closed = absurd closed
reads_none TooLong faults left failed_at closed = absurd closed
reads_none (Differs path) faults left failed_at closed = absurd closed
reads_none (Refused limit) faults left failed_at closed = absurd closed
reads_none (Damaged expected found) faults left failed_at closed = absurd closed

-- ---- the beginning

-- the store was opened, by its records
pub begins_read : (status : Status) (tells : Type 0) (present : FileMap) (start : StateIn any_store)
    → (tells → CountsRecords present start) → BeginsAsRead tells present start status
begins_read Done tells present start read = read
begins_read InputFault tells present start read = read
begins_read OutputFault tells present start read = read
begins_read TooLong tells present start read = read
begins_read Memory tells present start read = tt
begins_read Usage tells present start read = tt
begins_read StoreFault tells present start read = tt
begins_read (NotAStore version place) tells present start read = tt
begins_read (Differs path) tells present start read = tt
begins_read (Refused limit) tells present start read = tt
begins_read (Damaged expected found) tells present start read = tt

-- it wasn't
pub begins_shut : (status : Status) (tells : Type 0) (present : FileMap) (start : StateIn any_store)
    → HasNoStore status → BeginsAsRead tells present start status
begins_shut Memory tells present start closed = tt
begins_shut Usage tells present start closed = tt
begins_shut StoreFault tells present start closed = tt
begins_shut (NotAStore version place) tells present start closed = tt
begins_shut Done tells present start closed = absurd closed
begins_shut InputFault tells present start closed = absurd closed
begins_shut OutputFault tells present start closed = absurd closed
begins_shut TooLong tells present start closed = absurd closed
begins_shut (Differs path) tells present start closed = tt
begins_shut (Refused limit) tells present start closed = tt
begins_shut (Damaged expected found) tells present start closed = tt
