-- What a crash leaves of a store that was opened, and an engine that stays with the list of the store from then on.
use Rattle.std.proofs.Common.{◌≡◌, ℕ, ◌≤◌, ◌⊎◌, inl, inr, List, [], ◌∷◌, ◌++◌, Option, None, Some, IfSome, refl, sym}
use Rattle.std.proofs.Common.{subst}
use Rattle.std.proofs.Common.{append-nil, arith}
use Rattle.cdb_model.specs.Images.{Base, IsNext, StandsFrom, StandsForOne, StandsSince}
use Rattle.cdb_model.specs.KnownStore.{start_at}
use Rattle.cdb_model.specs.Maps.{FileMap}
use Rattle.cdb_model.specs.Publications.{Publication}
use Rattle.cdb_model.specs.Stands.{Stands}
use Rattle.cdb_model.specs.Stores.{known}
use Rattle.cdb_files.specs.Disk as disk
use Rattle.cdb_files.specs.Disk.{IsImage}
use Rattle.cdb_files.specs.Moments.{AddsOnly}
use Rattle.cdb_crash.specs.Crash.{IsClean}
use Rattle.cdb_chain.specs.Versions.{Versions}
use Rattle.cdb_publish.specs.declared.publication.Publication as publish
use Rattle.cdb_engine.specs.Held.{Held}
use Rattle.cdb_engine.specs.Stays.{Stays}
use Rattle.cdb_engine.specs.Store.{IsStore}
use Rattle.cdb_engine.specs.Tracks.{Works, Tracks}

-- a map that stands for a list stands for it with none of the publications begun behind it
pub from_none : (list begun : List Publication) (m : FileMap) → Stands m list → StandsFrom list begun m
from_none list begun m stands = record {
  first = [];
  later = begun;
  joined = refl;
  stands = subst (Stands m) (sym (append-nil list)) stands;
}

-- what a crash leaves of a store stands for its list, or for one of the early ones
pub of_entry : (list : List Publication) (early : List (List Publication)) (d : disk.State) (m : FileMap)
    → IsStore list early d → IsImage d m → StandsForOne (list ∷ early) m
of_entry list [] d m store image = inl (store.stands m image)
of_entry list (other ∷ []) d m store image = by store.next (store.faulted.either m image)
  where
    by : IsNext store.shorter store.x list other → Stands m store.shorter ⊎ Stands m (store.shorter ++ store.x ∷ [])
        → StandsForOne (list ∷ other ∷ []) m
    by (inl e) (inl s) = inl (subst (Stands m) (sym e.0) s)
    by (inl e) (inr s) = inr (inl (subst (Stands m) (sym e.1) s))
    by (inr e) (inl s) = inr (inl (subst (Stands m) (sym e.1) s))
    by (inr e) (inr s) = inl (subst (Stands m) (sym e.0) s)
of_entry list (a ∷ b ∷ early) d m store image = absurd store

-- whatever a crash left since the beginning stands for the list, or for one of the early ones
pub early_since : {D : Type 0} (clock : D → ℕ) (since : D → ℕ → FileMap → Type 0) (state : D → disk.State) (old new : D)
    (base : Base) (begun : List Publication) → base.moment ≡ clock old → IsStore base.list base.early (state old)
    → AddsOnly clock since old new (StandsForOne (base.list ∷ base.early))
    → ((m : FileMap) → since old (clock old) m → IsImage (state old) m) → (m : FileMap) → since new base.moment m
    → StandsSince base begun m
early_since clock since state old new base begun now store adds only_now m was =
    by (adds.nothing_else base.moment m (let n = now in omega (arith, n)) was)
  where
    one : StandsForOne (base.list ∷ base.early) m → StandsSince base begun m
    one (inl stands) = inl (from_none base.list begun m stands)
    one (inr early) = inr early

    by : since old base.moment m ⊎ StandsForOne (base.list ∷ base.early) m → StandsSince base begun m
    by (inl before) = one (of_entry base.list base.early (state old) m store
        (only_now m (subst (λ (t : ℕ). since old t m) now before)))
    by (inr during) = one during

-- ---- the engine

-- where nothing is going and none was given up, the disk is clean, and the engine isn't halted
clean_then : (list : List Publication) (work : Option publish.Publication) (halted : Option ℕ) (chain : Versions)
    (d : disk.State) → Works list None None work halted chain d → IsClean Stands list d
clean_then list None None chain d works = works
clean_then list None (Some faults) chain d works = absurd works
clean_then list (Some work) None chain d works = absurd works
clean_then list (Some work) (Some faults) chain d works = absurd works

no_halt : (list : List Publication) (work : Option publish.Publication) (halted : Option ℕ) (chain : Versions)
    (d : disk.State) (P : ℕ → Type 0) → Works list None None work halted chain d → IfSome halted P
no_halt list None None chain d P works = tt
no_halt list None (Some faults) chain d P works = absurd works
no_halt list (Some work) None chain d P works = absurd works
no_halt list (Some work) (Some faults) chain d P works = absurd works

-- an engine that was opened stays with the list of the store
module _ {D : Type 0} (tells : Type 0) (clock count : D → ℕ) (since : D → ℕ → FileMap → Type 0) (state : D → disk.State)
    (old new : D) (held : Held) (base : Base) (faults : ℕ) where
  pub stays_opened : tells → base.moment ≡ clock old → IsStore base.list base.early (state old) → faults ≤ count new
      → Tracks held (state new) (start_at base.list)
      → AddsOnly clock since old new (StandsForOne (base.list ∷ base.early))
      → ((m : FileMap) → since old (clock old) m → IsImage (state old) m)
      → ((m : FileMap) → since new (clock new) m → IsImage (state new) m)
      → Stays tells clock count since state
      (record { store = base; opened = clock new; faults = faults }) new held known
      (start_at base.list)
  stays_opened told now store fewer tracks adds only_old only_new = record {
    is = record {
      told = told;
      opened_after = let later = adds.later in let n = now in omega (arith, later, n);
      earlier = omega arith;
      no_fewer = fewer;
      begun = [];
      has_begun = record { complete = []; list_is = sym (append-nil base.list); begun_is = refl };
      tracks = tracks;
      images = early_since clock since state old new base [] now store adds only_old;
      later_images = λ m was. from_none base.list [] m
          ((clean_then base.list held.work held.halted held.chain (state new) tracks.works).whole.stands m
          (only_new m was));
      halt = no_halt base.list held.work held.halted held.chain (state new) _ tracks.works;
    };
  }
