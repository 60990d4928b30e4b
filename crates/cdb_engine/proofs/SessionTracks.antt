-- What calls without a disk make of what an engine and a state share.
use Rattle.std.proofs.Common.{◌≡◌, ℕ, ◌+◌, ◌≤◌, ◌<◌, List, [], ◌∷◌, ◌++◌, length, Option, None, IsSome, Result, Ok, Err}
use Rattle.std.proofs.Common.{refl, ap, sym, ◌∙◌, subst}
use Rattle.cdb_source.specs.declared.source.Source.{Source}
use Rattle.cdb_model.specs.Events as machine
use Rattle.cdb_model.specs.Grammar.{InlineSource, FileSource}
use Rattle.cdb_model.specs.Maps.{Content}
use Rattle.cdb_model.specs.Sessions.{session_of, without}
use Rattle.cdb_model.specs.Stores.{Which, store_kind}
use Rattle.cdb_model.specs.Transitions.{StateIn, IsReadyIn, InlineLineIn, SourceLineIn, PublishLineIn, OpenLineIn}
use Rattle.cdb_model.specs.Transitions.{CloseLineIn, VersionsLineIn}
use Rattle.cdb_model.specs.declared.session.Session.{Session}
use Rattle.cdb_chain.specs.Versions.{Versions}
use Rattle.cdb_publish.specs.declared.publication.Publication as publish
use Rattle.cdb_sessions.specs.Open.{Open, IsSessionOpened, IsSessionClosed, session}
use Rattle.cdb_sessions.specs.Sessions.{Sessions, open_part, IsStill}
use Rattle.cdb_sessions.specs.declared.errors.SessionError.{SessionError}
use Rattle.cdb_sessions.specs.declared.errors.SessionError.TheVariants as session_error
use Rattle.cdb_sessions.specs.declared.errors.Unknown.{Unknown}
use Rattle.cdb_engine.specs.Held.{Held, held_of}
use Rattle.cdb_engine.specs.StoreAnswers.{session_answer, close_answer}
use Rattle.cdb_engine.specs.Stays.{Shows, ChangesAlike}
use Rattle.cdb_engine.specs.Tracks.{Leads}
use Rattle.cdb_engine.proofs.NoStep.{idle_as, busy_as, halted_as}

-- ---- whether a source can be given

module _ (held : Held) (w : Which) (s : StateIn (store_kind w)) (shows : Shows held w s) where
  pub ready_in : held.halted ≡ None → held.work ≡ None → length held.pending < 64 → IsReadyIn (store_kind w) s
  ready_in running idle few =
      (idle_as held w s shows running idle, subst (λ (p : List Source). length p < 64) shows.pending few)

  pub gives_halted : (words : InlineSource) → IsSome held.halted → InlineLineIn (store_kind w) s words machine.halted s
  gives_halted words halted = (halted_as held w s shows halted, refl)

  pub gives_busy : (words : InlineSource) → held.halted ≡ None → IsSome held.work
      → InlineLineIn (store_kind w) s words machine.busy s
  gives_busy words running busy = (busy_as held w s shows running busy, refl)

  pub gives_full : (words : InlineSource) → held.halted ≡ None → held.work ≡ None → 64 ≤ length held.pending
      → InlineLineIn (store_kind w) s words machine.full s
  gives_full words running idle full =
      ((idle_as held w s shows running idle, subst (λ (p : List Source). 64 ≤ length p) shows.pending full), refl)

  pub loads_halted : (words : FileSource) (content : Content) → IsSome held.halted
      → SourceLineIn (store_kind w) s words content machine.halted s
  loads_halted words content halted = (halted_as held w s shows halted, refl)

  pub loads_busy : (words : FileSource) (content : Content) → held.halted ≡ None → IsSome held.work
      → SourceLineIn (store_kind w) s words content machine.busy s
  loads_busy words content running busy = (busy_as held w s shows running busy, refl)

  pub loads_full : (words : FileSource) (content : Content) → held.halted ≡ None → held.work ≡ None
      → 64 ≤ length held.pending → SourceLineIn (store_kind w) s words content machine.full s
  loads_full words content running idle full =
      ((idle_as held w s shows running idle, subst (λ (p : List Source). 64 ≤ length p) shows.pending full), refl)

  -- ---- whether a publication can be begun

  pub begins_halted : IsSome held.halted → PublishLineIn (store_kind w) s machine.halted s
  begins_halted halted = (halted_as held w s shows halted, refl)

  pub begins_busy : held.halted ≡ None → IsSome held.work → PublishLineIn (store_kind w) s machine.busy s
  begins_busy running busy = (busy_as held w s shows running busy, refl)

  pub begins_nothing : held.halted ≡ None → held.work ≡ None → held.pending ≡ []
      → PublishLineIn (store_kind w) s machine.nothing s
  begins_nothing running idle nothing = (idle_as held w s shows running idle, sym shows.pending ∙ nothing, refl)

  -- ---- the newest version

  pub tells_versions : (newest : ℕ) → newest ≡ length held.chain.records
      → VersionsLineIn (store_kind w) s (machine.versions newest) s
  tells_versions newest is = (is ∙ shows.versions, refl)

-- ---- sessions

module _ (chain : Versions) (work : Option publish.Publication) (pending : List Source) (halted : Option ℕ)
    (old new : Sessions) (still : IsStill old new) (w : Which) (s : StateIn (store_kind w))
    (shows : Shows (held_of chain work pending old halted) w s) where
  alike : (t : StateIn (store_kind w)) → t ≡ record s { sessions = new.list; opened = new.opened }
      → ChangesAlike (held_of chain work pending old halted) (held_of chain work pending new halted) w s t
  alike t is = record {
    engine = (λ i. record (held_of chain work pending new halted) { kept = still.0 i; reply = still.1 i });
    state = is ∙ ap (λ (p : List Source). record s { pending = p; sessions = new.list; opened = new.opened })
        (sym shows.pending);
  }

  same_state : open_part new ≡ open_part old → s ≡ record s { sessions = new.list; opened = new.opened }
  same_state same =
      ap (λ (l : List Session). record s { sessions = l }) (sym shows.sessions)
      ∙ ap (λ (n : ℕ). record s { sessions = old.list; opened = n }) (sym shows.opened)
      ∙ ap (λ (o : Open). record s { sessions = o.list; opened = o.opened }) (sym same)

  pub connects_ok : (version id : ℕ) → version ≡ length chain.records
      → IsSessionOpened version (open_part old) (open_part new) (Ok id)
      → Leads (OpenLineIn (store_kind w) s (machine.session id version))
      (ChangesAlike (held_of chain work pending old halted) (held_of chain work pending new halted) w s)
  connects_ok version id newest opens = record {
    next = record s { sessions = new.list; opened = new.opened };
    step = record {
      room = subst (λ (l : List Session). length l < 64) shows.sessions opens.0;
      id_is = opens.1 ∙ ap (λ (n : ℕ). n + 1) shows.opened;
      version_is = newest ∙ shows.versions;
      next = ap (λ (o : Open). record s { sessions = o.list; opened = o.opened }) opens.2
          ∙ ap (λ (l : List Session). record s { sessions = l ++ session id version ∷ []; opened = id }) shows.sessions;
    };
    now = alike (record s { sessions = new.list; opened = new.opened }) refl;
  }

  pub connects_err : (version : ℕ) (error : SessionError)
      → IsSessionOpened version (open_part old) (open_part new) (Err error)
      → Leads (OpenLineIn (store_kind w) s (session_answer (Err error)))
      (ChangesAlike (held_of chain work pending old halted) (held_of chain work pending new halted) w s)
  connects_err version session_error.Many opens =
      record {
        next = s;
        step = (subst (λ (l : List Session). 64 ≤ length l) shows.sessions opens.0, refl);
        now = alike s (same_state opens.1);
      }
  connects_err version session_error.Memory opens =
      record {
        next = s;
        step = (subst (λ (l : List Session). length l < 64) shows.sessions opens.0, refl);
        now = alike s (same_state opens.1);
      }

  pub disconnects : (id : ℕ) (result : Result Unit Unknown) → IsSessionClosed id (open_part old) (open_part new) result
      → Leads (CloseLineIn (store_kind w) s id (close_answer result))
      (ChangesAlike (held_of chain work pending old halted) (held_of chain work pending new halted) w s)
  disconnects id (Ok _) closes = record {
    next = record s { sessions = new.list; opened = new.opened };
    step = (
      subst (λ (l : List Session). IsSome (session_of id l)) shows.sessions closes.0,
      ap (λ (o : Open). record s { sessions = o.list; opened = o.opened }) closes.1
          ∙ ap (λ (l : List Session). record s { sessions = without id l; opened = old.opened }) shows.sessions
          ∙ ap (λ (n : ℕ). record s { sessions = without id s.sessions; opened = n }) shows.opened,
    );
    now = alike (record s { sessions = new.list; opened = new.opened }) refl;
  }
  disconnects id (Err _) closes =
      record {
        next = s;
        step = (ap (session_of id) (sym shows.sessions) ∙ closes.0, refl);
        now = alike s (same_state closes.1);
      }
