-- A session at the newest version.
use Rattle.std.proofs.Common.{rules, ◌≡◌, ℕ, List, [], ◌∷◌, ◌++◌, length, take, true, nat_eq, ℤ, None, Some, Result, Ok}
use Rattle.std.proofs.Common.{Err, refl, sym, ◌∙◌, ap, subst}
use Rattle.std.specs.Prelude.{All}
use Rattle.std.proofs.Math.Seq.{take-length}
use Rattle.cdb_grid.specs.declared.tile.Tile.{Tile}
use Rattle.cdb_source.specs.Reached.{Reached}
use Rattle.cdb_source.specs.declared.source.Source.{Source}
use Rattle.cdb_model.specs.KnownStore.{KnownState}
use Rattle.cdb_model.specs.Publications.{Publication, sources_of, sources_up_to, heads_of}
use Rattle.cdb_model.specs.Sessions.{session_of, without}
use Rattle.cdb_model.specs.Stores.{Kind, Which, known, store_kind}
use Rattle.cdb_model.specs.Transitions.{StateIn, OpenedIn, OpenLineIn, CloseLineIn}
use Rattle.cdb_model.specs.declared.session.Session.{Session}
use Rattle.cdb_model.proofs.ManySteps.{maybe}
use Rattle.cdb_sessions.specs.declared.errors.Unknown.{Unknown}
use Rattle.cdb_engine.specs.StoreAnswers.{session_answer, close_answer}
use Rattle.cdb_engine.specs.Tracks.{Leads}
use Rattle.cdb_sessions.specs.declared.errors.SessionError.{SessionError}
use Rattle.cdb_sessions.specs.declared.errors.SessionError.TheVariants as session_error
use Rattle.cdb_engine.specs.Populating.{IsAtRest}
use Rattle.cdb_engine.specs.inside.Populating.{LeavesState, IsOpenAt, LeadsAfter, LeadsToRest, Sums}
use Rattle.cdb_engine.specs.declared.errors.PopulateError.{PopulateError}
use Rattle.cdb_engine.specs.declared.errors.PopulateError.TheVariants.{Memory, Fault, Entries, Versions, Damaged}

same_number : (n : ℕ) → nat_eq n n ≡ true
same_number n = search rules

abbrev one : ℕ → ℕ → Session
one id version = record { id = id; version = version }

-- the only session is open, and none is left without it
pub open_one : (id version : ℕ) → session_of id (one id version ∷ []) ≡ Some (one id version)
open_one id version = rw (same_number id) refl

pub none_left : (id version : ℕ) → without id (one id version ∷ []) ≡ []
none_left id version = rw (same_number id) refl

-- a session was opened where none was open
module _ (k : Kind) (s next : StateIn k) (id version : ℕ) (at : IsAtRest k s)
    (opened : OpenedIn k s id version next) where
  pub sessions_are : next.sessions ≡ one id version ∷ []
  sessions_are = ap (λ (n : StateIn k). n.sessions) opened.next
      ∙ ap (λ (l : List Session). l ++ one id version ∷ []) at.sessions

  pub is_open : session_of id next.sessions ≡ Some (one id version)
  is_open = ap (session_of id) sessions_are ∙ open_one id version

  -- and it is closed
  pub closed : (r : Result Unit Unknown) (New : StateIn k → Type 0)
      → Leads (CloseLineIn k next id (close_answer r)) New → LeadsToRest k s.list New
  closed (Ok _) New led =
      let e = led.step.1 in record {
        next = led.next;
        list_is = ap (λ (n : StateIn k). n.list) (e
            ∙ ap (λ (n : StateIn k). record n { sessions = without id next.sessions }) opened.next);
        at_rest = record {
          pending = ap (λ (n : StateIn k). n.pending) (e
              ∙ ap (λ (n : StateIn k). record n { sessions = without id next.sessions }) opened.next) ∙ at.pending;
          going = ap (λ (n : StateIn k). n.going) (e
              ∙ ap (λ (n : StateIn k). record n { sessions = without id next.sessions }) opened.next) ∙ at.going;
          halted = ap (λ (n : StateIn k). n.halted) (e
              ∙ ap (λ (n : StateIn k). record n { sessions = without id next.sessions }) opened.next) ∙ at.halted;
          sessions = ap (λ (n : StateIn k). n.sessions) e ∙ ap (without id) sessions_are ∙ none_left id version;
        };
        now = led.now;
      }
  closed (Err _) New led = let no : Some (one id version) ≡ None = sym is_open ∙ led.step.0 in absurd (cc)

  -- what it leaves where the tiles can't be read
  pub after : (New : StateIn k → Type 0) → New next → LeadsAfter k s.list New
  after New now = record {
    next = next;
    after = record {
      list_is = ap (λ (n : StateIn k). n.list) opened.next;
      pending = ap (λ (n : StateIn k). n.pending) opened.next ∙ at.pending;
      going = ap (λ (n : StateIn k). n.going) opened.next ∙ at.going;
      halted = ap (λ (n : StateIn k). n.halted) opened.next ∙ at.halted;
    };
    now = now;
  }

-- no session was opened
pub refused : (k : Kind) (s : StateIn k) (e : SessionError) (New : StateIn k → Type 0) → IsAtRest k s
    → Leads (OpenLineIn k s (session_answer (Err e))) New → LeadsAfter k s.list New
refused k s session_error.Many New at led = record {
  next = s;
  after = record { list_is = refl; pending = at.pending; going = at.going; halted = at.halted };
  now = subst New led.step.1 led.now;
}
refused k s session_error.Memory New at led = record {
  next = s;
  after = record { list_is = refl; pending = at.pending; going = at.going; halted = at.halted };
  now = subst New led.step.1 led.now;
}

-- a tile couldn't be read
pub unread : (w : Which) (s next : StateIn (store_kind w)) (id version : ℕ) (at : IsAtRest (store_kind w) s)
    (opened : OpenedIn (store_kind w) s id version next) (e : PopulateError) (New : StateIn (store_kind w) → Type 0)
    → LeavesState {T = ℤ} w (Err e) (New next) → Sums w s.list (Err e) New
unread w s next id version at opened Memory New never = absurd never
unread w s next id version at opened Fault New now = after (store_kind w) s next id version at opened New now
unread w s next id version at opened (Entries count) New never = never
unread w s next id version at opened Versions New never = never
unread w s next id version at opened (Damaged expected found) New left =
    maybe w (New next) (LeadsAfter (store_kind w) s.list New) (after
    (store_kind w) s next id version at opened New) left

-- the newest version has all sources
pub all_sources : (list : List Publication) (version : ℕ) → version ≡ length list
    → sources_up_to version list ≡ sources_of list
all_sources list version e = ap (λ n. sources_of (take n list)) e ∙ ap sources_of (take-length list)

-- a session of it
pub open_at_newest : (s next : KnownState) (id version : ℕ) (tiles : List Tile) → IsAtRest (store_kind known) s
    → OpenedIn (store_kind known) s id version next
    → All (λ t. Reached (heads_of (sources_of s.list)) t) tiles → IsOpenAt next id version tiles
open_at_newest s next id version tiles at opened reached =
    let list : next.list ≡ s.list = ap (λ (n : KnownState). n.list) opened.next in
    let e : sources_up_to version next.list ≡ sources_of s.list = ap (sources_up_to version) list
    ∙ all_sources s.list version opened.version_is in
    record {
      session = one id version;
      is_open = is_open (store_kind known) s next id version at opened;
      version_is = refl;
      reached = subst (λ (ss : List Source). All (λ t. Reached (heads_of ss) t) tiles) (sym e) reached;
    }
