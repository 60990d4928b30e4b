-- What an engine is after a step, as its parts are settled.
use Rattle.std.proofs.Common.{◌≡◌, ℕ, ◌≤◌, length, Option, None, Some, Result, ap, sym, ◌∙◌, subst}
use Rattle.cdb_model.specs.KnownStore.{KnownState}
use Rattle.cdb_model.specs.Maps.{FileMap}
use Rattle.cdb_model.specs.Stores.{Which, store_kind}
use Rattle.cdb_model.specs.Transitions.{StateIn}
use Rattle.cdb_files.specs.Disk as disk
use Rattle.cdb_files.specs.Disk.{IsImage}
use Rattle.cdb_files.specs.Moments.{AddsOnly}
use Rattle.cdb_chain.specs.Versions.{Versions}
use Rattle.cdb_publish.specs.declared.errors.Progress.{Progress}
use Rattle.cdb_publish.specs.declared.errors.StepError.{StepError}
use Rattle.cdb_publish.specs.declared.publication.Publication as publish
use Rattle.cdb_engine.specs.Held.{Held, CanStep, IsEngine}
use Rattle.cdb_engine.specs.StoreAnswers.{TriesIn, advance_answer, advance_of, HaltsBy, AdvanceCause}
use Rattle.cdb_engine.specs.inside.StoreAnswers.{work_after, halt_after}
use Rattle.cdb_engine.specs.Stays.{Stays}
use Rattle.cdb_engine.specs.Tracks.{Tracks, Origin, Leads, DuringNow}
use Rattle.cdb_engine.specs.declared.errors.AdvanceError.{AdvanceError}
use Rattle.cdb_engine.proofs.StayLaws.{both}
use Rattle.cdb_engine.proofs.StepTracks.{Steps, after_step, known_step, any_step, engine_after, halts_after}
use Rattle.cdb_engine.proofs.StepTracks.{cause_after, moments_now}

module _ {D : Type 0} (tells : Type 0) (clock count : D → ℕ) (since : D → ℕ → FileMap → Type 0)
    (state : D → disk.State) (old new : D)
    (held : Held) (chain' : Versions) (work work' : publish.Publication) (has : held.work ≡ Some work)
    (running : held.halted ≡ None) (can : CanStep held.chain work)
    (result : Result Progress StepError)
    (made : Steps tells clock count since state old new held.chain chain' work work' result)
    (left : Option publish.Publication) (halted : Option ℕ) (answer : Result Progress AdvanceError) (faults : ℕ)
    (left_is : left ≡ work_after result work') (halted_is : halted ≡ halt_after result faults)
    (answer_is : answer ≡ advance_of result) (faults_are : faults ≡ count new) where
  halt_is : halt_after result (count new) ≡ halted
  halt_is = ap (halt_after result) (sym faults_are) ∙ sym halted_is

  settled : after_step held chain' (work_after result work')
      (halt_after result (count new)) ≡ after_step held chain' left halted
  settled = (λ i. after_step held chain' (sym left_is i) (halt_is i))

  pub step_then : ((t : ℕ) (m : FileMap) → t ≤ clock new → IsImage (state new) m → since new t m)
      → ((m : FileMap) → since old (clock old) m → IsImage (state old) m)
      → (w : Which) (origin : Origin) (s : StateIn (store_kind w))
      → Stays tells clock count since state origin old held w s
      → Leads (TriesIn (store_kind w) s (advance_answer answer))
      (Stays tells clock count since state origin new (after_step held chain' left halted) w)
  step_then counts_now only_now w origin s stays =
      subst (λ (a : Result Progress AdvanceError). Leads (TriesIn (store_kind w) s (advance_answer a))
      (Stays tells clock count since state origin new (after_step held chain' left halted) w)) (sym answer_is)
      (subst (λ (h : Held). Leads (TriesIn (store_kind w) s (advance_answer (advance_of result)))
      (Stays tells clock count since state origin new h w)) settled
      (both tells clock count since state old new held
      (after_step held chain' (work_after result work') (halt_after result (count new)))
      (λ w s t. TriesIn (store_kind w) s (advance_answer (advance_of result)) t)
      (λ origin s follows.
      known_step tells clock count since state old new held chain' work work' has running can origin s follows
      counts_now only_now result made)
      (any_step tells clock count since state old new held chain' work work' has running can (count new) result made) w
      origin s stays))

  pub engine_then : length held.pending ≤ 64 → IsEngine chain' left held.pending halted
  engine_then few =
      subst (λ (l : Option publish.Publication). IsEngine chain' l held.pending halted) (sym left_is)
      (subst (λ (h : Option ℕ). IsEngine chain' (work_after result work') held.pending h) (sym halted_is)
      (engine_after tells clock count since state old new held chain' work work' has running can few faults result
      made))

  pub halts_then : HaltsBy answer held.halted halted (count new)
  halts_then =
      subst (λ (a : Result Progress AdvanceError). HaltsBy a held.halted halted (count new)) (sym answer_is)
      (subst (λ (h : Option ℕ). HaltsBy (advance_of result) held.halted h (count new)) halt_is
      (halts_after tells clock count since state old new held chain' work work' has running can (count new) result))

  pub cause_then : AdvanceCause answer (count old) (count new)
  cause_then = subst (λ (a : Result Progress AdvanceError). AdvanceCause a (count old) (count new)) (sym answer_is)
      (cause_after tells clock count since state old new held chain' work work' has running can result made)

  pub moments_then : (s : KnownState) → tells → Tracks held (state old) s
      → AddsOnly clock since old new (DuringNow s.list s.going)
  moments_then s told tracks =
      moments_now tells clock count since state old new held chain' work work' has running can told s tracks result made
