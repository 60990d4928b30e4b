-- Inside the crate: how the machine goes from one publication that is drawn to the next, over a store that is known and
-- over any.
use Rattle.std.specs.Prelude.{◌≡◌, ℕ, ◌<◌, ℤ, List, [], All, Option, None, Some, Result, Ok, Err}
use Rattle.cdb_grid.specs.declared.tile.Tile.{Tile}
use Rattle.cdb_source.specs.Reached.{Reached}
use Rattle.cdb_model.specs.KnownStore.{KnownState}
use Rattle.cdb_model.specs.Publications.{publication_of, sources_up_to, heads_of, Touches}
use Rattle.cdb_model.specs.Sessions.{session_of}
use Rattle.cdb_model.specs.declared.session.Session.{Session}
use Rattle.cdb_model.specs.Stores.{Kind, Which, store_kind}
use Rattle.cdb_model.specs.Transitions.{StateIn, HasEntriesIn, IsFullOfVersionsIn}
use Rattle.cdb_publish.specs.declared.errors.Progress.{Progress}
use Rattle.cdb_publish.specs.declared.errors.Progress.TheVariants as progress
use Rattle.cdb_sessions.specs.declared.errors.TileError.{TileError}
use Rattle.cdb_sessions.specs.declared.errors.TileError.TheVariants as tile
use Rattle.cdb_sessions.specs.declared.sessions.Reply.{Reply}
use Rattle.cdb_engine.specs.declared.errors.AdvanceError.{AdvanceError}
use Rattle.cdb_engine.specs.declared.errors.AdvanceError.TheVariants as advance
use Rattle.cdb_engine.specs.declared.errors.PublishError.{PublishError}
use Rattle.cdb_engine.specs.declared.errors.PublishError.TheVariants as publish
use Rattle.cdb_engine.specs.declared.reply.Begun.{Begun}
use Rattle.cdb_engine.specs.declared.errors.PopulateError.{PopulateError}
use Rattle.cdb_engine.specs.declared.errors.PopulateError.TheVariants.{Memory, Fault, Entries, Versions, Damaged}
use Rattle.cdb_engine.specs.Populating.{IsAtRest}

-- what is answered where one was to be begun of sources that are drawn
abbrev pub begun_of : Result Begun PublishError → Result Unit PopulateError
begun_of (Ok begun) = Ok tt
begun_of (Err (publish.Entries count)) = Err (Entries count)
begun_of (Err publish.Versions) = Err Versions
begun_of (Err _) = Err Memory

-- the pending sources are going, with all of their steps left
pub record IsGoingOf (w : Which) (s : StateIn (store_kind w)) (Now : StateIn (store_kind w) → Type 0) : Type 0 where
  pub tiles : List Tile
  pub touched : Touches (publication_of s.pending) tiles
  pub planned : (store_kind w).Planned
  pub left : ℕ
  pub starts : (store_kind w).Starts s.list s.pending tiles planned left
  pub some : 0 < left
  pub now : Now (record s { pending = []; going = Some record { publication = planned; left = left } })

abbrev pub BeginsDrawn : (w : Which) → StateIn (store_kind w) → Result Unit PopulateError
    → (StateIn (store_kind w) → Type 0) → Type 0
BeginsDrawn w s (Ok _) Now = IsGoingOf w s Now
BeginsDrawn w s (Err Memory) Now = Now s
BeginsDrawn w s (Err (Entries count)) Now = Now s × HasEntriesIn (store_kind w) s count
BeginsDrawn w s (Err Versions) Now = Now s × IsFullOfVersionsIn (store_kind w) s
BeginsDrawn w s (Err _) Now = ⊥

-- how they end with a step that was tried
abbrev pub ended_by : Result Progress AdvanceError → Option (Result Unit PopulateError)
ended_by (Ok progress.Going) = None
ended_by (Ok (progress.Published version)) = Some (Ok tt)
ended_by (Err advance.Halted) = Some (Ok tt)
ended_by (Err advance.Nothing) = Some (Ok tt)
ended_by (Err advance.Fault) = Some (Err Fault)
ended_by (Err (advance.Damaged expected found)) = Some (Err (Damaged expected found))

-- all that are left were made, or one of them failed
abbrev pub FinishesSteps : (w : Which) → StateIn (store_kind w) → (store_kind w).Planned → Result Unit PopulateError
    → (StateIn (store_kind w) → Type 0) → Type 0
FinishesSteps w s planned (Ok _) Now = Now (record s { list = (store_kind w).add s.list planned; going = None })
FinishesSteps w s planned (Err Fault) Now = Now (record s { going = None; halted = Some ((store_kind w).drop planned) })
FinishesSteps w s planned (Err (Damaged expected found)) Now =
    (store_kind w).Maybe (Now (record s { going = None; halted = Some ((store_kind w).drop planned) }))
FinishesSteps w s planned (Err _) Now = ⊥

-- what is answered to a request for a tile: its bytes are summed, and there are none where it has no file
abbrev pub asked_by : Result Reply TileError → Result Unit PopulateError
asked_by (Ok reply) = Ok tt
asked_by (Err tile.Unknown) = Ok tt
asked_by (Err tile.Fault) = Err Fault
asked_by (Err (tile.Damaged expected found)) = Err (Damaged expected found)

-- requests leave the state
abbrev pub LeavesState : {T : Type 0} → (w : Which) → Result T PopulateError → Type 0 → Type 0
LeavesState w (Ok sum) Now = Now
LeavesState w (Err Fault) Now = Now
LeavesState w (Err (Damaged expected found)) Now = (store_kind w).Maybe Now
LeavesState w (Err _) Now = ⊥

-- a session is open at a version, and some source up to it reaches each of these tiles
pub record IsOpenAt (s : KnownState) (id : ℕ) (version : ℕ) (tiles : List Tile) : Type 0 where
  pub session : Session
  pub is_open : session_of id s.sessions ≡ Some session
  pub version_is : session.version ≡ version
  pub reached : All (λ t. Reached (heads_of (sources_up_to version s.list)) t) tiles

-- a state with this list, in which nothing is pending or going, and the writer isn't halted
pub record IsAfter (k : Kind) (list : k.Listed) (s : StateIn k) : Type 0 where
  pub list_is : s.list ≡ list
  pub pending : s.pending ≡ []
  pub going : s.going ≡ None
  pub halted : s.halted ≡ None

pub record LeadsAfter (k : Kind) (list : k.Listed) (Now : StateIn k → Type 0) : Type 0 where
  pub next : StateIn k
  pub after : IsAfter k list next
  pub now : Now next

pub record LeadsToRest (k : Kind) (list : k.Listed) (Now : StateIn k → Type 0) : Type 0 where
  pub next : StateIn k
  pub list_is : next.list ≡ list
  pub at_rest : IsAtRest k next
  pub now : Now next

-- a session is opened, tiles are asked for in it, and it is closed
abbrev pub Sums : (w : Which) → (store_kind w).Listed → Result ℤ PopulateError → (StateIn (store_kind w) → Type 0)
    → Type 0
Sums w list (Ok sum) Now = LeadsToRest (store_kind w) list Now
Sums w list (Err Memory) Now = LeadsAfter (store_kind w) list Now
Sums w list (Err Fault) Now = LeadsAfter (store_kind w) list Now
Sums w list (Err (Damaged expected found)) Now = (store_kind w).Maybe (LeadsAfter (store_kind w) list Now)
Sums w list (Err _) Now = ⊥
