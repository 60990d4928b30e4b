-- What an engine and a state that it stays with tell the run.
use Rattle.std.proofs.Common.{◌≡◌, ℕ, Option, None, Some, refl, ap, subst, sym, ◌∙◌}
use Rattle.std.proofs.lemmas.Option.{same_Some}
use Rattle.cdb_model.specs.Commands as said
use Rattle.cdb_model.specs.Events as machine
use Rattle.cdb_model.specs.Events.{Event}
use Rattle.cdb_model.specs.Grammar.{FileSource, Sentence, sentence_in}
use Rattle.cdb_model.specs.Grammar as grammar
use Rattle.cdb_model.specs.KnownStore.{KnownState, Going}
use Rattle.cdb_model.specs.Maps.{Content, FileMap}
use Rattle.cdb_model.specs.Publications.{Publication}
use Rattle.cdb_model.specs.Runs.{TurnIn, Means}
use Rattle.cdb_model.specs.Stands.{Stands}
use Rattle.cdb_model.specs.Stores.{Kind, Which, store_kind, known, any}
use Rattle.cdb_model.specs.Text.{Text}
use Rattle.cdb_model.specs.Transitions.{StateIn, StepIn}
use Rattle.cdb_model.specs.declared.line.Line.{Line}
use Rattle.cdb_crash.specs.Crash.{IsWhole, IsEither}
use Rattle.cdb_files.specs.Disk as disk
use Rattle.cdb_files.specs.Disk.{IsImage}
use Rattle.cdb_chain.specs.Versions.{Versions}
use Rattle.cdb_publish.specs.declared.publication.Publication as publish
use Rattle.cdb_engine.specs.Held.{Held}
use Rattle.cdb_engine.specs.Stays.{Stays, Shows, ChangesAlike, bare_of}
use Rattle.cdb_engine.specs.Tracks.{Origin, Works, Leads}
use Rattle.cdb_engine.proofs.StayLaws.{stays_shows, stays_alike}
use Rattle.cdb_front.proofs.Followed.{IsLeftBy, IsFollowed}
use Rattle.cdb_front.specs.RunProgress.{Holds}
use Rattle.cdb_front.specs.Sourcing.{LoadsFrom}

-- ---- what a disk is at the end of a run

not_both : {A : Type 0} (o : Option A) (x : A) → o ≡ None → o ≡ Some x → ⊥
not_both o x none some = cc

left_whole : (s : KnownState) (d : disk.State) → s.halted ≡ None → IsWhole Stands s.list d → IsLeftBy s d
left_whole s d running whole = record {
  whole = λ e. whole;
  either = λ x e. absurd (not_both s.halted x running e);
  one = λ now x e f. absurd (not_both s.halted x running f);
}

left_either : (s : KnownState) (d : disk.State) (x : Publication) → s.going ≡ None → s.halted ≡ Some x
    → ((m : FileMap) → IsImage d m → IsEither Stands s.list x m) → IsLeftBy s d
left_either s d x idle halted either = record {
  whole = λ e. absurd (not_both s.halted x e halted);
  either = λ y e. subst (λ (z : Publication). (m : FileMap) → IsImage d m → IsEither Stands s.list z m)
      (same_Some x y (sym halted ∙ e)) either;
  one = λ now y e f. absurd (not_both s.going now idle e);
}

-- ---- lines

-- a line's turn, from its event
pub calls_turn : (k : Kind) (Has : Text → Content → Type 0) (l : Line) (event : Event) (answer : machine.Answer)
    {s : StateIn k} {Now : StateIn k → Type 0} → Means Has event (said.said (sentence_in l))
    → Leads (StepIn k s event answer) Now → Leads (TurnIn k Has s (said.said (sentence_in l)) answer) Now
calls_turn k Has l event answer is led =
    record { next = led.next; step = record { event = event; meant = is; step = led.step }; now = led.now }

-- the turn of a line that gives a source from a file
pub load_turn : (k : Kind) (tells : Type 0) (files : FileMap) (l : Line) (words : FileSource) (answer : machine.Answer)
    {s : StateIn k} {Now : StateIn k → Type 0} → sentence_in l ≡ grammar.source words
    → Leads (LoadsFrom k tells files s words answer) Now
    → Leads (TurnIn k (Holds tells files) s (said.said (sentence_in l)) answer) Now
load_turn k tells files l words answer is led =
    record {
      next = led.next;
      step = record {
        event = machine.source_line words led.step.content;
        meant = (ap (λ (x : Sentence). said.said x) is, led.step.holds);
        step = led.step.step;
      };
      now = led.now;
    }

module _ {D : Type 0} (tells : Type 0) (clock count : D → ℕ) (since : D → ℕ → FileMap → Type 0) (state : D → disk.State)
    (origin : Origin) where
  -- a call without a disk leads on where it changes the engine and the state alike
  pub stays_on : (d : D) (old new : Held) (w : Which) (s : StateIn (store_kind w))
      (Step : StateIn (store_kind w) → Type 0)
      → Stays tells clock count since state origin d old w s → (Shows old w s → Leads Step (ChangesAlike old new w s))
      → Leads Step (Stays tells clock count since state origin d new w)
  stays_on d old new w s Step stays on =
      let led = on (stays_shows tells clock count since state origin d old w s stays) in
      record {
        next = led.next;
        step = led.step;
        now = stays_alike tells clock count since state origin d old new w s led.next stays led.now;
      }

  -- or where it leaves both
  pub stays_told : (d : D) (held : Held) (w : Which) (s : StateIn (store_kind w))
      (Step : StateIn (store_kind w) → Type 0)
      → Stays tells clock count since state origin d held w s → (Shows held w s → Step s)
      → Leads Step (Stays tells clock count since state origin d held w)
  stays_told d held w s Step stays on =
      record {
        next = s;
        step = on (stays_shows tells clock count since state origin d held w s stays);
        now = stays;
      }

  -- ---- the beginning and the end of a run

  -- whatever the disk holds, an engine stays with what it has
  pub stays_bare : (d : D) (held : Held) → Stays tells clock count since state origin d held any (bare_of held)
  stays_bare d held = record { is = refl }

  -- and at the end the disk is what its state says
  left_by : (s : KnownState) (going : Option Going) (given_up : Option Publication) (work : Option publish.Publication)
      (halted : Option ℕ) (chain : Versions) (d : disk.State) → s.going ≡ going → s.halted ≡ given_up
      → Works s.list going given_up work halted chain d → IsLeftBy s d
  left_by s None None None None chain d g h works = left_whole s d h works.whole
  left_by s (Some now) None (Some work) None chain d g h works = left_whole s d h works.underway.mid.whole
  left_by s None (Some x) None (Some faults) chain d g h works = left_either s d x g h works
  left_by s _ _ _ _ chain d g h works = absurd works

  pub stays_followed : (d : D) (held : Held) (s : KnownState)
      → Stays tells clock count since state origin d held known s
      → IsFollowed origin.store s origin.opened (clock d) (since d) (state d)
  stays_followed d held s stays =
      let f = stays.is in
      record {
        begun = f.begun;
        has_begun = f.has_begun;
        since = f.images;
        opening = record { earlier = f.earlier; later = f.later_images };
        left = left_by s s.going s.halted held.work held.halted held.chain (state d) refl refl f.tracks.works;
      }
