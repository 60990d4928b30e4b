-- What opening makes of a disk, and what an engine that was just opened tracks.
use Rattle.std.proofs.Common.{◌≡◌, ℕ, inl, inr, List, [], ◌∷◌, ◌++◌, length, None, Ok, Err, refl, ap, sym, subst, arith}
use Rattle.cdb_source.specs.declared.source.Source.{Source}
use Rattle.cdb_model.specs.Images.{StandsForOne, IsNext}
use Rattle.cdb_model.specs.KnownStore.{start_at}
use Rattle.cdb_model.specs.Maps.{FileMap}
use Rattle.cdb_model.specs.Publications.{Publication}
use Rattle.cdb_model.specs.Stands.{Stands}
use Rattle.cdb_model.specs.Stores.{any_store}
use Rattle.cdb_model.specs.Transitions.{IsFreshIn}
use Rattle.cdb_files.specs.Disk as disk
use Rattle.cdb_files.specs.Disk.{IsImage}
use Rattle.cdb_files.specs.Moments.{AddsOnly, Rests}
use Rattle.cdb_crash.specs.Crash.{IsWhole, IsClean, IsEither, IsFaulted}
use Rattle.cdb_chain.specs.Opening.{IsOpenedFrom}
use Rattle.cdb_chain.specs.Publications.{AreRecords, OpensTo}
use Rattle.cdb_chain.specs.Versions.{Versions}
use Rattle.cdb_chain.specs.declared.open_error.OpenError.{OpenError}
use Rattle.cdb_chain.specs.declared.open_error.OpenError.TheVariants.{Memory, Fault, NotAStore}
use Rattle.cdb_recover.specs.Answers.{IsAnswer, IsRecovered, KeepsStore}
use Rattle.cdb_recover.specs.declared.recover_error.RecoverError.{RecoverError}
use Rattle.cdb_recover.specs.declared.recover_error.RecoverError.TheVariants as recovery
use Rattle.cdb_sessions.specs.Sessions.{Sessions, starts_empty}
use Rattle.cdb_engine.specs.Held.{held_of, IsEngine}
use Rattle.cdb_engine.specs.Stays.{bare_of}
use Rattle.cdb_engine.specs.Store.{IsStore, IsNoStore, TellsNoStore, IsStoreFound}
use Rattle.cdb_engine.specs.inside.Store.{open_error_of}
use Rattle.cdb_engine.specs.Tracks.{Tracks}
use Rattle.cdb_engine.proofs.StepTracks.{adds_map}

-- ---- recovery

pub store_stands : (d : disk.State) (list : List Publication) (early : List (List Publication)) → IsImage d d.present
    → IsStore list early d → Stands d.present list
store_stands d list [] image store = store.stands d.present image
store_stands d list (other ∷ []) image store = store.present
store_stands d list (a ∷ b ∷ early) image store = absurd store

pub recovers : (d d' : disk.State) (newest : ℕ)
    → ((list : List Publication) → IsWhole Stands list d → IsRecovered d' list newest)
    → ((list : List Publication) (x : Publication) → IsFaulted Stands list x d → Stands d.present list
    → IsRecovered d' list newest)
    → ((list : List Publication) (x : Publication) → IsFaulted Stands list x d → Stands d.present (list ++ x ∷ [])
    → IsRecovered d' (list ++ x ∷ []) newest)
    → (list : List Publication) (early : List (List Publication)) → IsStore list early d → IsRecovered d' list newest
recovers d d' newest clean fault_old fault_new list [] store = clean list store
recovers d d' newest clean fault_old fault_new list (other ∷ []) store = by store.next
  where
    by : IsNext store.shorter store.x list other → IsRecovered d' list newest
    by (inl e) = subst (λ (l : List Publication). IsRecovered d' l newest) (sym e.0)
        (fault_old store.shorter store.x store.faulted (subst (Stands d.present) e.0 store.present))
    by (inr e) = subst (λ (l : List Publication). IsRecovered d' l newest) (sym e.0)
        (fault_new store.shorter store.x store.faulted (subst (Stands d.present) e.0 store.present))
recovers d d' newest clean fault_old fault_new list (a ∷ b ∷ early) store = absurd store

pub recover_moments : {D : Type 0} (clock : D → ℕ) (since : D → ℕ → FileMap → Type 0) (old new : D) (d : disk.State)
    → ((list : List Publication) → IsWhole Stands list d → AddsOnly clock since old new (λ m. Stands m list))
    → ((list : List Publication) (x : Publication) → IsFaulted Stands list x d
    → AddsOnly clock since old new (IsEither Stands list x))
    → (list : List Publication) (early : List (List Publication)) → IsStore list early d
    → AddsOnly clock since old new (StandsForOne (list ∷ early))
recover_moments clock since old new d whole faulted list [] store =
    adds_map clock since old new (λ m. Stands m list) (StandsForOne (list ∷ [])) (λ m stands. inl stands)
    (whole list store)
recover_moments clock since old new d whole faulted list (other ∷ []) store =
    adds_map clock since old new (IsEither Stands store.shorter store.x) (StandsForOne (list ∷ other ∷ [])) of
    (faulted store.shorter store.x store.faulted)
  where
    by : (m : FileMap) → IsNext store.shorter store.x list other → IsEither Stands store.shorter store.x m
        → StandsForOne (list ∷ other ∷ []) m
    by m (inl e) (inl stands) = inl (subst (Stands m) (sym e.0) stands)
    by m (inl e) (inr stands) = inr (inl (subst (Stands m) (sym e.1) stands))
    by m (inr e) (inl stands) = inr (inl (subst (Stands m) (sym e.1) stands))
    by m (inr e) (inr stands) = inl (subst (Stands m) (sym e.0) stands)

    of : (m : FileMap) → IsEither Stands store.shorter store.x m → StandsForOne (list ∷ other ∷ []) m
    of m either = by m store.next either
recover_moments clock since old new d whole faulted list (a ∷ b ∷ early) store = absurd store

pub adds_rests : {D : Type 0} (clock : D → ℕ) (since : D → ℕ → FileMap → Type 0) (old mid new : D)
    (P : FileMap → Type 0) → AddsOnly clock since old mid P → Rests (clock mid) (clock new) (since mid) (since new)
    → AddsOnly clock since old new P
adds_rests clock since old mid new P adds rests =
    record {
      later = let a = adds.later in let b = rests.same in omega (arith, a, b);
      nothing_else = λ t m le was. adds.nothing_else t m le (rests.nothing_else t m was);
    }

-- ---- the engine

pub opened_tracks : (list : List Publication) (chain : Versions) (sessions : Sessions) (pending : List Source)
    (mid new : disk.State) → sessions ≡ starts_empty → pending ≡ [] → IsClean Stands list mid
    → AreRecords chain.records list → new ≡ mid
    → Tracks (held_of chain None pending sessions None) new (start_at list)
opened_tracks list chain sessions pending mid new none nothing clean records same =
    subst (λ (r : Sessions). Tracks (held_of chain None pending r None) new (start_at list)) (sym none)
    (subst (λ (p : List Source). Tracks (held_of chain None p starts_empty None) new (start_at list)) (sym nothing)
    record {
      records = records;
      pending = refl;
      sessions = refl;
      opened = refl;
      works = subst (IsClean Stands list) (sym same) clean;
      kept = tt;
    })

pub opened_fresh : (chain : Versions) (sessions : Sessions) (pending : List Source) → sessions ≡ starts_empty
    → pending ≡ [] → IsFreshIn any_store (bare_of (held_of chain None pending sessions None))
opened_fresh chain sessions pending none nothing = record {
  pending = nothing;
  going = refl;
  halted = refl;
  sessions = ap (λ (r : Sessions). r.list) none;
  opened = ap (λ (r : Sessions). r.opened) none;
}

pub opened_engine : (chain : Versions) (pending : List Source) → pending ≡ [] → IsEngine chain None pending None
opened_engine chain pending nothing =
    record {
      can_step = tt;
      few = (let z : length pending ≡ 0 = ap length nothing in omega (arith, z));
      idle = λ e. refl;
    }

-- ---- errors

pub opens_found : (list : List Publication) (error : OpenError) → OpensTo list (Err error) → IsStoreFound error
opens_found list Memory h = tt
opens_found list Fault h = tt
opens_found list (NotAStore version place) h = h

pub chain_refuses : (T : Type 0) (tells : Type 0) (present mid : FileMap) (newest : ℕ) (error : OpenError)
    → (tells → IsAnswer present (Ok newest)) → (tells → KeepsStore present mid)
    → IsOpenedFrom tells mid newest (Err error)
    → TellsNoStore {T = T} tells present mid (Err error)
chain_refuses T tells present mid newest Memory answer keeps h = tt
chain_refuses T tells present mid newest Fault answer keeps h = tt
chain_refuses T tells present mid newest (NotAStore version place) answer keeps h =
    λ told. IsNoStore.bad_record newest (answer told) (keeps told) record {
      earlier = h.earlier;
      read = record { numbered = h.read.numbered; told = λ t. h.read.told told };
      next = h.next;
      up_to = h.up_to;
      bad = λ t. h.bad told;
    }

pub recovery_refuses : (T : Type 0) (tells : Type 0) (present left : FileMap) (error : RecoverError)
    → (tells → IsAnswer present (Err error)) → (tells → KeepsStore present left)
    → TellsNoStore {T = T} tells present left (Err (open_error_of error))
recovery_refuses T tells present left recovery.Fault answer kept = tt
recovery_refuses T tells present left (recovery.NotAStore version place) answer kept =
    λ told. IsNoStore.unrecovered (answer told) (kept told)

pub recovery_found : (error : RecoverError) → error ≡ recovery.Fault → IsStoreFound (open_error_of error)
recovery_found error is = subst (λ (e : RecoverError). IsStoreFound (open_error_of e)) (sym is) tt
