-- How a run of mode check ends.
use Rattle.std.proofs.Common.{◌≡◌, ◌⊎◌, inl, inr, ℕ, ◌≤◌, List, [], ◌∷◌, length, Option, None, Result, Ok, Err}
use Rattle.std.proofs.Common.{refl, sym, ◌∙◌, subst, arith}
use Rattle.std.proofs.KnownBytes.{Appends-nil}
use Rattle.std.specs.Io.KnownBytes.{Appends}
use Rattle.cdb_model.specs.Causes.{Rose}
use Rattle.cdb_model.specs.Images.{Base, StandsForOne}
use Rattle.cdb_model.specs.KnownStore.{KnownState, start_at}
use Rattle.cdb_model.specs.Maps.{FileMap}
use Rattle.cdb_model.specs.Publications.{Publication}
use Rattle.cdb_model.specs.Stands.{Stands}
use Rattle.cdb_model.specs.Text.{Text}
use Rattle.cdb_crash.specs.Crash.{IsWhole}
use Rattle.cdb_files.specs.Disk as disk
use Rattle.cdb_files.specs.Disk.{IsImage}
use Rattle.cdb_files.specs.Moments.{AddsOnly}
use Rattle.cdb_chain.specs.declared.open_error.OpenError.{OpenError}
use Rattle.cdb_chain.specs.declared.open_error.OpenError.TheVariants as refused
use Rattle.cdb_manifest.specs.declared.record_.Record.{Record}
use Rattle.cdb_check.specs.Expected.{expected_files}
use Rattle.cdb_check.specs.Outcome.{FirstDiffering, OnlyReads, TellsCounts}
use Rattle.cdb_check.specs.declared.outcome.Agreed.{Agreed}
use Rattle.cdb_check.specs.declared.outcome.CheckError.{CheckError}
use Rattle.cdb_check.specs.declared.outcome.CheckError.TheVariants as check
use Rattle.cdb_engine.specs.Checks.{AgreesWith, AreOpened}
use Rattle.cdb_engine.specs.Held.{Held}
use Rattle.cdb_engine.specs.Store.{IsStore, IsStoreFound}
use Rattle.cdb_engine.specs.Tracks.{Tracks}
use Rattle.cdb_engine.proofs.OpenStays.{of_entry}
use Rattle.cdb_engine.proofs.OpenTracks.{adds_rests}
use Rattle.cdb_front.specs.Checking.{SaysAgreed, AgreesAll, AgreesAsListed, FindsFiles, FindsListed}
use Rattle.cdb_front.specs.Checking.{Checks, CompletesCheckOf, agrees_line}
use Rattle.cdb_front.specs.inside.Checking.{checked_status}
use Rattle.cdb_front.specs.Devices.{WritesPart}
use Rattle.cdb_front.specs.EntryStore.{HasStore}
use Rattle.cdb_front.specs.Failures.{Still}
use Rattle.cdb_front.specs.OverStore.{EndsOver, in_opening, behind_opening}
use Rattle.cdb_front.specs.RunOutcome.{EndsWith, is_whole, is_part, status_of}
use Rattle.cdb_front.specs.declared.exit_status.Status.{Status}
use Rattle.cdb_front.specs.declared.exit_status.Status.TheVariants.{Done, Memory, Usage, InputFault, OutputFault}
use Rattle.cdb_front.specs.declared.exit_status.Status.TheVariants.{StoreFault, NotAStore, TooLong, Differs, Refused}
use Rattle.cdb_front.specs.declared.exit_status.Status.TheVariants.{Damaged}
use Rattle.cdb_front.proofs.OverStore.{no_store, since_entry, whole_at_rest}

-- ---- memory was refused before the store was opened

module _ {D : Type 0} (tells : Type 0) (state : D → disk.State) (clock : D → ℕ) (since : D → ℕ → FileMap → Type 0)
    (old : D) (written written' : Option (List ℕ)) (only_now : (m : FileMap) → since old (clock old) m
    → IsImage (state old) m) where
  pub checks_nothing : (result : Status) → EndsWith Memory written written' result
      → Checks tells state clock since old old written written' result
  checks_nothing result ends = record {
    status = Memory;
    mid = written;
    says = refl;
    finds = λ told. tt;
    store = λ base has. record {
      finds = tt;
      since_entry = λ m was. of_entry base.list base.early (state old) m has.store (only_now m was);
      over = in_opening tt refl (λ m image. of_entry base.list base.early (state old) m has.store image);
    };
    ends = ends;
  }

-- ---- a store that couldn't be opened

says_unopened : (error : OpenError) (written : Option (List ℕ)) → SaysAgreed written written (status_of error)
says_unopened refused.Memory written = refl
says_unopened refused.Fault written = refl
says_unopened (refused.NotAStore version place) written = refl

files_unopened : (error : OpenError) (before now : FileMap) (old new : Option (List ℕ))
    → FindsFiles before now old new (status_of error)
files_unopened refused.Memory before now old new = tt
files_unopened refused.Fault before now old new = tt
files_unopened (refused.NotAStore version place) before now old new = tt

list_unopened : (error : OpenError) (list : List Publication) (d : disk.State) (old new : Option (List ℕ))
    → IsStoreFound error → FindsListed list d old new (status_of error)
list_unopened refused.Memory list d old new found = tt
list_unopened refused.Fault list d old new found = tt
list_unopened (refused.NotAStore version place) list d old new found = absurd found

-- ---- what a check found

says_checked : (error : CheckError) (written : Option (List ℕ)) → SaysAgreed written written (checked_status error)
says_checked check.Memory written = refl
says_checked check.Fault written = refl
says_checked (check.Differs path) written = refl

files_checked : (error : CheckError) (before now : FileMap) (old new : Option (List ℕ)) (records : List Record)
    → AreOpened before now records → FirstDiffering {T = Agreed} now (expected_files records) (Err error)
    → FindsFiles before now old new (checked_status error)
files_checked check.Memory before now old new records opened finds = tt
files_checked check.Fault before now old new records opened finds = tt
files_checked (check.Differs path) before now old new records opened finds =
    record { records = records; opened = opened; first = finds }

list_checked : (error : CheckError) (list : List Publication) (d : disk.State) (old new : Option (List ℕ))
    → AgreesWith list (Err error) → FindsListed list d old new (checked_status error)
list_checked check.Memory list d old new agrees = tt
list_checked check.Fault list d old new agrees = tt
list_checked (check.Differs path) list d old new agrees = absurd agrees

abbrev pub as_ok : Agreed → Result Agreed CheckError
as_ok agreed = Ok agreed

module _ {D : Type 0} (tells : Type 0) (state : D → disk.State) (clock : D → ℕ) (since : D → ℕ → FileMap → Type 0)
    (old : D) (only_now : (m : FileMap) → since old (clock old) m → IsImage (state old) m) (mid : D)
    (moments : tells → (list : List Publication) (early : List (List Publication)) → IsStore list early (state old)
    → AddsOnly clock since old mid (StandsForOne (list ∷ early))) (written written' : Option (List ℕ)) where
  -- the store wasn't opened
  pub checks_unopened : ((m : FileMap) → clock old ≤ clock mid → IsImage (state mid) m → since mid (clock old) m)
      → (error : OpenError) (status result : Status) → status ≡ status_of error
      → (tells → (list : List Publication) (early : List (List Publication)) → IsStore list early (state old)
      → IsStoreFound error)
      → EndsWith status written written' result → Checks tells state clock since old mid written written' result
  checks_unopened counts_now error status result is found ends = record {
    status = status_of error;
    mid = written;
    says = says_unopened error written;
    finds = λ told. files_unopened error (state old).present (state mid).present written written;
    store = λ base has.
        let adds = moments has.told base.list base.early has.store in
        let entry = since_entry clock since state old mid base has.store adds only_now in
        record {
          finds = list_unopened error base.list (state mid) written written
              (found has.told base.list base.early has.store);
          since_entry = entry;
          over = in_opening (no_store error) refl (λ m image. entry m (counts_now m adds.later image));
        };
    ends = subst (λ (s : Status). EndsWith s written written' result) is ends;
  }

  -- it was, and its files were looked at
  module _ (held : Held) (new : D) (faults : D → ℕ) (opened : tells → AreOpened (state old).present (state mid).present
      held.chain.records)
      (tracks : tells → (list : List Publication) (early : List (List Publication)) → IsStore list early (state old)
      → Tracks held (state mid) (start_at list)) (looks : OnlyReads clock since state faults mid new)
      (only_mid : (m : FileMap) → since mid (clock mid) m → IsImage (state mid) m) where
    opened_now : tells → AreOpened (state old).present (state new).present held.chain.records
    opened_now told = subst (λ (d : disk.State). AreOpened (state old).present d.present held.chain.records)
        (sym looks.state) (opened told)

    since_now : (base : Base) → HasStore tells base (clock old) (state old) → (m : FileMap) → since new (clock old) m
        → StandsForOne (base.list ∷ base.early) m
    since_now base has = since_entry clock since state old new base has.store
        (adds_rests clock since old mid new (StandsForOne (base.list ∷ base.early))
        (moments has.told base.list base.early has.store) looks.time) only_now

    -- nothing is written behind the opening, so the disk stays whole for the list
    whole_now : (base : Base) → HasStore tells base (clock old) (state old) → IsWhole Stands base.list (state new)
    whole_now base has = subst (IsWhole Stands base.list) (sym looks.state)
        (whole_at_rest (start_at base.list) held (state mid) (tracks has.told base.list base.early has.store) refl refl)

    over_now : (base : Base) → HasStore tells base (clock old) (state old) → (status : Status)
        → EndsOver clock since base old new [] (λ m. Stands m base.list) (λ m. Stands m base.list) (IsImage (state new))
        status
    over_now base has status =
        let whole = whole_at_rest (start_at base.list) held (state mid)
        (tracks has.told base.list base.early has.store) refl refl in
        behind_opening
        record {
          mid = mid;
          opening = moments has.told base.list base.early has.store;
          earlier = let same = looks.time.same in omega (arith, same);
          later = λ m was. whole.stands m (only_mid m (looks.time.nothing_else (clock mid) m was));
        }
        (whole_now base has).stands

    pub checks_refused : (error : CheckError) (status result : Status) → status ≡ checked_status error
        → (tells → FirstDiffering {T = Agreed} (state mid).present (expected_files held.chain.records) (Err error))
        → (tells → (s : KnownState) → Tracks held (state mid) s → s.halted ≡ None → AgreesWith s.list (Err error))
        → EndsWith status written written' result → Checks tells state clock since old new written written' result
    checks_refused error status result is finds agrees ends = record {
      status = checked_status error;
      mid = written;
      says = says_checked error written;
      finds = λ told. files_checked error (state old).present (state new).present written written held.chain.records
          (opened_now told) (subst (λ (d : disk.State). FirstDiffering {T = Agreed} d.present
          (expected_files held.chain.records) (Err error)) (sym looks.state) (finds told));
      store = λ base has. record {
        finds = list_checked error base.list (state new) written written (agrees has.told (start_at base.list)
            (tracks has.told base.list base.early has.store) refl);
        since_entry = since_now base has;
        over = over_now base has (checked_status error);
      };
      ends = subst (λ (s : Status). EndsWith s written written' result) is ends;
    }

    -- this much was written of the line of the counts
    module _ (agreed : Agreed) (Wrote : Text → Type 0) (wrote : Wrote (agrees_line agreed.versions agreed.files)) where
      agrees_all : (tells → FirstDiffering (state mid).present (expected_files held.chain.records) (as_ok agreed))
          → TellsCounts held.chain.records agreed → tells → AgreesAll (state old).present (state new).present Wrote
      agrees_all finds told_of told = record {
        records = held.chain.records;
        opened = opened_now told;
        agrees = subst (λ (d : disk.State). FirstDiffering d.present (expected_files held.chain.records)
            (as_ok agreed)) (sym looks.state) (finds told);
        wrote = subst (λ (n : ℕ). Wrote (agrees_line (length held.chain.records) n)) told_of.files
            (subst (λ (n : ℕ). Wrote (agrees_line n agreed.files)) told_of.versions wrote);
      }

      agrees_listed : (tells → (s : KnownState) → Tracks held (state mid) s → s.halted ≡ None
          → AgreesWith s.list (Ok agreed)) → (base : Base) → HasStore tells base (clock old) (state old)
          → AgreesAsListed base.list (state new) Wrote
      agrees_listed agrees base has =
          let a = agrees has.told (start_at base.list) (tracks has.told base.list base.early has.store) refl in
          record {
            files = agreed.files;
            files_are = a.1;
            wrote = subst (λ (n : ℕ). Wrote (agrees_line n agreed.files)) a.0 wrote;
            whole = whole_now base has;
          }

    pub checks_agreed : (agreed : Agreed) → Appends written written' (agrees_line agreed.versions agreed.files)
        → (tells → FirstDiffering (state mid).present (expected_files held.chain.records) (as_ok agreed))
        → TellsCounts held.chain.records agreed
        → (tells → (s : KnownState) → Tracks held (state mid) s → s.halted ≡ None → AgreesWith s.list (Ok agreed))
        → Checks tells state clock since old new written written' Done
    checks_agreed agreed appended finds told_of agrees = record {
      status = Done;
      mid = written';
      says = record { versions = agreed.versions; files = agreed.files; wrote = appended };
      finds = agrees_all agreed (Appends written written') appended finds told_of;
      store = λ base has. record {
        finds = agrees_listed agreed (Appends written written') appended agrees base has;
        since_entry = since_now base has;
        over = over_now base has Done;
      };
      ends = is_whole (Appends-nil written');
    }

    pub checks_torn : (agreed : Agreed) → WritesPart written written' (agrees_line agreed.versions agreed.files)
        → (tells → FirstDiffering (state mid).present (expected_files held.chain.records) (as_ok agreed))
        → TellsCounts held.chain.records agreed
        → (tells → (s : KnownState) → Tracks held (state mid) s → s.halted ≡ None → AgreesWith s.list (Ok agreed))
        → Checks tells state clock since old new written written' OutputFault
    checks_torn agreed part finds told_of agrees = record {
      status = OutputFault;
      mid = written';
      says = record { versions = agreed.versions; files = agreed.files; wrote = part };
      finds = agrees_all agreed (WritesPart written written') part finds told_of;
      store = λ base has. record {
        finds = agrees_listed agreed (WritesPart written written') part agrees base has;
        since_entry = since_now base has;
        over = over_now base has OutputFault;
      };
      ends = is_whole (Appends-nil written');
    }

-- ---- no device fails

pub no_rise : (before now : ℕ) → Still before now → Rose before now → ⊥
no_rise before now s rose = let e = s.0 in let l = s.1 in omega (arith, e, l, rose)

-- a run ends as it says, or its last line wasn't written whole
pub ends_as : (status result : Status) (old new : Option (List ℕ)) → EndsWith status old new result
    → (result ≡ status) ⊎ (result ≡ OutputFault)
ends_as status result old new (is_whole whole) = inl refl
ends_as status result old new (is_part part) = inr refl

abbrev IsDoneOrMemory : Status → Type 0
IsDoneOrMemory s = (s ≡ Done) ⊎ (s ≡ Memory)

pub completes_check : {D O : Type 0} (tells : Type 0) (state : D → disk.State) (clock : D → ℕ)
    (since : D → ℕ → FileMap → Type 0) (disk_faults : D → ℕ) (written : O → Option (List ℕ)) (output_faults : O → ℕ)
    → CompletesCheckOf tells state clock since disk_faults written output_faults
completes_check tells state clock since disk_faults written output_faults old new output output' status base has checks
    store_failed output_failed disk_still output_still =
    by (ends_as checks.status status checks.mid (written output') checks.ends)
  where
    plain : (inner : Status) → SaysAgreed (written output) checks.mid inner
        → FindsListed base.list (state new) (written output) checks.mid inner
        → (inner ≡ StoreFault → ⊥) → (inner ≡ OutputFault → ⊥) → IsDoneOrMemory inner
    plain Done says finds stored wrote = inl refl
    plain Memory says finds stored wrote = inr refl
    plain StoreFault says finds stored wrote = absurd (stored refl)
    plain OutputFault says finds stored wrote = absurd (wrote refl)
    plain Usage says finds stored wrote = absurd says
    plain InputFault says finds stored wrote = absurd says
    plain TooLong says finds stored wrote = absurd says
    plain (Refused limit) says finds stored wrote = absurd says
    plain (Damaged expected found) says finds stored wrote = absurd says
    plain (NotAStore version place) says finds stored wrote = absurd finds
    plain (Differs path) says finds stored wrote = absurd finds

    unwritten : status ≡ OutputFault → ⊥
    unwritten e = no_rise (output_faults output) (output_faults output') output_still (output_failed e)

    by : (status ≡ checks.status) ⊎ (status ≡ OutputFault) → IsDoneOrMemory status
    by (inr e) = absurd (unwritten e)
    by (inl e) = subst IsDoneOrMemory (sym e) (plain checks.status checks.says ((checks.store base has).finds)
        (λ s. no_rise (disk_faults old) (disk_faults new) disk_still (store_failed (e ∙ s)))
        (λ s. unwritten (e ∙ s)))
