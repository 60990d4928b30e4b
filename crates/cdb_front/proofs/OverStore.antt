-- What a crash leaves of a store over which a run ended in opening, or behind that.
use Rattle.std.proofs.Common.{◌≡◌, ◌⊎◌, inl, inr, ℕ, ◌∷◌, Option, None, Some, arith}
use Rattle.cdb_model.specs.Images.{Base, StandsForOne}
use Rattle.cdb_model.specs.KnownStore.{KnownState, Going}
use Rattle.cdb_model.specs.Maps.{FileMap}
use Rattle.cdb_model.specs.Publications.{Publication}
use Rattle.cdb_model.specs.Stands.{Stands}
use Rattle.cdb_chain.specs.declared.open_error.OpenError.{OpenError}
use Rattle.cdb_chain.specs.declared.open_error.OpenError.TheVariants as refused
use Rattle.cdb_crash.specs.Crash.{IsWhole}
use Rattle.cdb_files.specs.Disk as disk
use Rattle.cdb_files.specs.Disk.{IsImage}
use Rattle.cdb_files.specs.Moments.{AddsOnly}
use Rattle.cdb_publish.specs.declared.publication.Publication as publish
use Rattle.cdb_engine.specs.Held.{Held}
use Rattle.cdb_engine.specs.Store.{IsStore}
use Rattle.cdb_engine.specs.Tracks.{Tracks, Works}
use Rattle.cdb_engine.proofs.OpenStays.{of_entry}
use Rattle.cdb_front.specs.RunOutcome.{HasNoStore, status_of}

-- a run that couldn't open its store ends so
pub no_store : (error : OpenError) → HasNoStore (status_of error)
no_store refused.Memory = tt
no_store refused.Fault = tt
no_store (refused.NotAStore version place) = tt

-- what a crash may have left since the beginning stands for the list, or for one of the early ones
pub since_entry : {D : Type 0} (clock : D → ℕ) (since : D → ℕ → FileMap → Type 0) (state : D → disk.State) (old new : D)
    (base : Base) → IsStore base.list base.early (state old)
    → AddsOnly clock since old new (StandsForOne (base.list ∷ base.early))
    → ((m : FileMap) → since old (clock old) m → IsImage (state old) m) → (m : FileMap) → since new (clock old) m
    → StandsForOne (base.list ∷ base.early) m
since_entry clock since state old new base store adds only_now m was =
    by (adds.nothing_else (clock old) m (omega arith) was)
  where
    by : since old (clock old) m ⊎ StandsForOne (base.list ∷ base.early) m → StandsForOne (base.list ∷ base.early) m
    by (inl before) = of_entry base.list base.early (state old) m store (only_now m before)
    by (inr during) = during

-- a disk that an engine tracks, on which nothing is going and none was given up, is whole
pub whole_at_rest : (s : KnownState) (held : Held) (d : disk.State) → Tracks held d s → s.going ≡ None → s.halted ≡ None
    → IsWhole Stands s.list d
whole_at_rest s held d tracks idle running = by s.going s.halted held.work held.halted idle running tracks.works
  where
    by : (going : Option Going) (given_up : Option Publication) (work : Option publish.Publication) (halted : Option ℕ)
        → going ≡ None → given_up ≡ None → Works s.list going given_up work halted held.chain d
        → IsWhole Stands s.list d
    by None None None None idle running works = works.whole
    by None None None (Some faults) idle running works = absurd works
    by None None (Some work) None idle running works = absurd works
    by None None (Some work) (Some faults) idle running works = absurd works
    by None (Some x) work halted idle running works = let e : Some x ≡ None = running in absurd (cc)
    by (Some now) given_up work halted idle running works = let e : Some now ≡ None = idle in absurd (cc)
