-- The machine that the program is: its state, and which answer and which next state an event may have. Of several
-- refusals that apply, the first in the stated order is the answer. One table serves a store of any kind.
use Rattle.std.specs.Prelude.{◌≡◌, ◌≢◌, ℕ, zero, suc, ◌+◌, ◌-◌, ◌≤◌, ◌<◌, ◌⊎◌, List, [], ◌∷◌, ◌++◌, length, Option, Some, None, IsSome}
use Rattle.cdb_grid.specs.declared.tile.Tile.{Tile}
use Rattle.cdb_source.specs.declared.source.Source.{Source}
use Rattle.cdb_source.specs.declared.limits.TheConstants.{MOST_LOAD}
use Rattle.cdb_tiff_base.specs.Numbers.{Bytes}
use Rattle.cdb_model.specs.Events as machine
use Rattle.cdb_model.specs.Events.{Event, Answer, IsLong, IsSyntax, IsName}
use Rattle.cdb_model.specs.Grammar.{InlineSource, FileSource}
use Rattle.cdb_model.specs.ImageFiles.{SpellsNone, HasImage, IsBig, IsBad, IsUnfit}
use Rattle.cdb_model.specs.Maps.{Content}
use Rattle.cdb_model.specs.Publications.{publication_of, HasLoad, Touches}
use Rattle.cdb_model.specs.Sessions.{session_of, without}
use Rattle.cdb_model.specs.Spelled.{SpellsSource, SpellsLoaded}
use Rattle.cdb_model.specs.Stores.{Kind}
use Rattle.cdb_model.specs.declared.session.Session.{Session}
use Rattle.cdb_model.specs.declared.limits.TheConstants.{MOST_VERSIONS}

-- ---- the state

-- a publication that is going, and how many of its steps are left
pub record GoingIn (k : Kind) : Type 0 where
  pub publication : k.Planned
  pub left : ℕ

-- what the program holds between two events
pub record StateIn (k : Kind) : Type 0 where
  -- the publications, oldest first
  pub list : k.Listed
  -- the sources that no publication has yet
  pub pending : List Source
  -- the publication that is going
  pub going : Option (GoingIn k)
  -- the publication that was given up: the writer is halted from then on
  pub halted : Option k.Dropped
  -- the open sessions, and how many were opened
  pub sessions : List Session
  pub opened : ℕ

module _ (k : Kind) where
  -- nothing is pending, going or open, and the writer isn't halted
  pub record IsFreshIn (s : StateIn k) : Type 0 where
    pub pending : s.pending ≡ []
    pub going : s.going ≡ None
    pub halted : s.halted ≡ None
    pub sessions : s.sessions ≡ []
    pub opened : s.opened ≡ 0

  -- the writer isn't halted, and no publication is going
  pub record IsIdleIn (s : StateIn k) : Type 0 where
    pub running : s.halted ≡ None
    pub idle : s.going ≡ None

  -- the writer isn't halted, and a publication is going
  pub record IsBusyIn (s : StateIn k) : Type 0 where
    pub running : s.halted ≡ None
    pub busy : IsSome s.going

  -- ---- a source is given

  -- nothing keeps a source from being given, and fewer than 64 sources are pending, or at least 64
  abbrev pub IsReadyIn : StateIn k → Type 0
  IsReadyIn s = IsIdleIn s × (length s.pending < 64)

  abbrev pub IsFullIn : StateIn k → Type 0
  IsFullIn s = IsIdleIn s × (64 ≤ length s.pending)

  -- a source that is spelled is pending now
  pub record GainsIn (Spelled : Source → Type 0) (old : StateIn k) (number : ℕ) (new : StateIn k) : Type 0 where
    pub ready : IsReadyIn old
    pub source : Source
    pub spelled : Spelled source
    pub number_is : number ≡ length old.pending + 1
    pub next : new ≡ record old { pending = old.pending ++ source ∷ [] }

  -- a source whose posts stand in the line: which answers it may have, and the next state
  abbrev pub InlineLineIn : StateIn k → InlineSource → Answer → StateIn k → Type 0
  InlineLineIn old w (machine.source n) new = GainsIn (SpellsSource w) old n new
  InlineLineIn old w machine.halted new = IsSome old.halted × (new ≡ old)
  InlineLineIn old w machine.busy new = IsBusyIn old × (new ≡ old)
  InlineLineIn old w machine.full new = IsFullIn old × (new ≡ old)
  InlineLineIn old w machine.range new = IsReadyIn old × SpellsNone (SpellsSource w) × (new ≡ old)
  InlineLineIn old w machine.memory new = IsIdleIn old × (new ≡ old)
  InlineLineIn old w _ new = ⊥

  -- a file that is read, of which a source of the words is made
  pub record LoadedIn (w : FileSource) (content : Content) (old : StateIn k) (number : ℕ) (new : StateIn k)
      : Type 0 where
    pub bytes : Bytes
    pub image : HasImage content bytes
    pub gains : GainsIn (SpellsLoaded w bytes) old number new

  -- the same of a source whose posts a file holds
  abbrev pub SourceLineIn : StateIn k → FileSource → Content → Answer → StateIn k → Type 0
  SourceLineIn old w content (machine.source n) new = LoadedIn w content old n new
  SourceLineIn old w content machine.halted new = IsSome old.halted × (new ≡ old)
  SourceLineIn old w content machine.busy new = IsBusyIn old × (new ≡ old)
  SourceLineIn old w content machine.full new = IsFullIn old × (new ≡ old)
  SourceLineIn old w content machine.shelf new = IsReadyIn old × (new ≡ old)
  SourceLineIn old w content machine.absent new = IsReadyIn old × (content ≡ None) × (new ≡ old)
  SourceLineIn old w content machine.too_big new = IsReadyIn old × IsBig content × (new ≡ old)
  SourceLineIn old w content (machine.input cause) new = IsReadyIn old × IsBad content cause × (new ≡ old)
  SourceLineIn old w content machine.range new = IsReadyIn old × IsUnfit w content × (new ≡ old)
  SourceLineIn old w content machine.memory new = IsIdleIn old × (new ≡ old)
  SourceLineIn old w content _ new = ⊥

  -- ---- a publication

  -- nothing keeps a publication from being begun, and some source is pending
  pub record IsPendingIn (s : StateIn k) : Type 0 where
    pub idle : IsIdleIn s
    pub some : s.pending ≢ []

  -- the pending sources have a load that is small enough, and touch these tiles; with them the records have so many
  -- tiles together
  pub record IsPlannedIn (s : StateIn k) (tiles : List Tile) (entries : ℕ) : Type 0 where
    pub pending : IsPendingIn s
    pub load : ℕ
    pub load_is : HasLoad (publication_of s.pending) load
    pub fits : load ≤ MOST_LOAD
    pub touched : Touches (publication_of s.pending) tiles
    pub earlier : ℕ
    pub earlier_is : k.HasEntries s.list earlier
    pub entries_are : entries ≡ earlier + length tiles

  -- the pending sources are published from now on: each tile that they touch has a file
  pub record BegunIn (old : StateIn k) (version files : ℕ) (new : StateIn k) : Type 0 where
    pub tiles : List Tile
    pub entries : ℕ
    pub planned : IsPlannedIn old tiles entries
    pub entries_fit : entries ≤ 1000000
    pub versions_fit : k.versions old.list < MOST_VERSIONS
    pub files_are : files ≡ length tiles
    pub version_is : version ≡ k.versions old.list + 1
    pub publication : k.Planned
    pub left : ℕ
    pub starts : k.Starts old.list old.pending tiles publication left
    pub next : new ≡ record old { pending = []; going = Some record { publication = publication; left = left } }

  -- the records would have too many tiles, or there are too many versions
  pub record HasEntriesIn (s : StateIn k) (entries : ℕ) : Type 0 where
    pub tiles : List Tile
    pub planned : IsPlannedIn s tiles entries
    pub many : 1000000 < entries

  pub record IsFullOfVersionsIn (s : StateIn k) : Type 0 where
    pub tiles : List Tile
    pub entries : ℕ
    pub planned : IsPlannedIn s tiles entries
    pub entries_fit : entries ≤ 1000000
    pub many : k.versions s.list ≡ MOST_VERSIONS

  -- a publication is asked for
  abbrev pub PublishLineIn : StateIn k → Answer → StateIn k → Type 0
  PublishLineIn old (machine.begun version files) new = BegunIn old version files new
  PublishLineIn old machine.halted new = IsSome old.halted × (new ≡ old)
  PublishLineIn old machine.busy new = IsBusyIn old × (new ≡ old)
  PublishLineIn old machine.nothing new = IsIdleIn old × (old.pending ≡ []) × (new ≡ old)
  PublishLineIn old (machine.large load) new =
      IsPendingIn old × HasLoad (publication_of old.pending) load × (MOST_LOAD < load) × (new ≡ old)
  PublishLineIn old (machine.entries count) new = HasEntriesIn old count × (new ≡ old)
  PublishLineIn old machine.full_of_versions new = IsFullOfVersionsIn old × (new ≡ old)
  PublishLineIn old machine.memory new = IsPendingIn old × (new ≡ old)
  PublishLineIn old _ new = ⊥

  -- a step was made, and some are left
  pub record MovedIn (old new : StateIn k) : Type 0 where
    pub now : GoingIn k
    pub going : old.going ≡ Some now
    pub running : old.halted ≡ None
    pub more : 1 < now.left
    pub next : new ≡ record old { going = Some record { publication = now.publication; left = now.left - 1 } }

  -- the last step was made: the publication that was going is the newest
  pub record PublishedIn (old : StateIn k) (version : ℕ) (new : StateIn k) : Type 0 where
    pub now : GoingIn k
    pub going : old.going ≡ Some now
    pub running : old.halted ≡ None
    pub last : now.left ≡ 1
    pub version_is : version ≡ k.versions old.list + 1
    pub next : new ≡ record old { list = k.add old.list now.publication; going = None }

  -- a step failed, or found a file damaged: the publication is given up, and the writer halted
  pub record GivenUpIn (old new : StateIn k) : Type 0 where
    pub now : GoingIn k
    pub going : old.going ≡ Some now
    pub running : old.halted ≡ None
    pub next : new ≡ record old { going = None; halted = Some (k.drop now.publication) }

  -- one step of the publication that is going
  abbrev pub AdvancesIn : StateIn k → Answer → StateIn k → Type 0
  AdvancesIn old machine.going new = MovedIn old new
  AdvancesIn old (machine.published version) new = PublishedIn old version new
  AdvancesIn old machine.fault new = GivenUpIn old new
  AdvancesIn old (machine.damaged expected found) new = k.Maybe (GivenUpIn old new)
  AdvancesIn old _ new = ⊥

  -- At most so many steps, one after another: none is left to make, or no publication is going; or the first of them is
  -- the last, by its answer; or it isn't, and the others follow. The answer is that of the last step that was made, or
  -- that the publication goes on.
  abbrev pub MakesIn : ℕ → StateIn k → Answer → StateIn k → Type 0
  MakesIn zero old answer new = (answer ≡ machine.going) × (new ≡ old)
  MakesIn (suc n) old answer new =
      ((old.going ≡ None) × (answer ≡ machine.going) × (new ≡ old)) ⊎
      (((answer ≢ machine.going) × AdvancesIn old answer new) ⊎
      ((mid : StateIn k) × AdvancesIn old machine.going mid × MakesIn n mid answer new))

  -- a publication is going, and these are its steps left
  abbrev pub HasLeftIn : Option (GoingIn k) → ℕ → Type 0
  HasLeftIn None n = ⊥
  HasLeftIn (Some now) n = n ≡ now.left

  -- so many steps are asked for
  abbrev pub StepLineIn : StateIn k → ℕ → Answer → StateIn k → Type 0
  StepLineIn old n machine.halted new = IsSome old.halted × (new ≡ old)
  StepLineIn old n machine.nothing new = IsIdleIn old × (new ≡ old)
  StepLineIn old n machine.range new = IsBusyIn old × (n ≡ 0) × (new ≡ old)
  StepLineIn old n answer new = IsBusyIn old × (0 < n) × MakesIn n old answer new

  -- all that are left are asked for
  abbrev pub StepAllLineIn : StateIn k → Answer → StateIn k → Type 0
  StepAllLineIn old machine.halted new = IsSome old.halted × (new ≡ old)
  StepAllLineIn old machine.nothing new = IsIdleIn old × (new ≡ old)
  StepAllLineIn old answer new = (n : ℕ) × IsBusyIn old × HasLeftIn old.going n × MakesIn n old answer new

  -- ---- sessions

  -- a session of the newest version is open now
  pub record OpenedIn (old : StateIn k) (id version : ℕ) (new : StateIn k) : Type 0 where
    pub room : length old.sessions < 64
    pub id_is : id ≡ old.opened + 1
    pub version_is : version ≡ k.versions old.list
    pub next : new ≡ record old { sessions = old.sessions ++ record { id = id; version = version } ∷ []; opened = id }

  -- a session is asked for
  abbrev pub OpenLineIn : StateIn k → Answer → StateIn k → Type 0
  OpenLineIn old (machine.session id version) new = OpenedIn old id version new
  OpenLineIn old machine.many new = (64 ≤ length old.sessions) × (new ≡ old)
  OpenLineIn old machine.memory new = (length old.sessions < 64) × (new ≡ old)
  OpenLineIn old _ new = ⊥

  -- the session is open, and these are the bytes of the tile's file at its version
  pub record ServedIn (s : StateIn k) (id : ℕ) (t : Tile) (bytes : List ℕ) : Type 0 where
    pub session : Session
    pub is_open : session_of id s.sessions ≡ Some session
    pub serves : k.Serves s.list session.version t bytes

  -- the session is open, and the tile has no file at its version
  pub record IsMissingIn (s : StateIn k) (id : ℕ) (t : Tile) : Type 0 where
    pub session : Session
    pub is_open : session_of id s.sessions ≡ Some session
    pub misses : k.Misses s.list session.version t

  -- a tile is asked for in a session
  abbrev pub TileLineIn : StateIn k → ℕ → Tile → Answer → StateIn k → Type 0
  TileLineIn old id t (machine.tile bytes) new = ServedIn old id t bytes × (new ≡ old)
  TileLineIn old id t machine.missing new = IsMissingIn old id t × (new ≡ old)
  TileLineIn old id t machine.unknown new = (session_of id old.sessions ≡ None) × (new ≡ old)
  TileLineIn old id t machine.fault new = IsSome (session_of id old.sessions) × (new ≡ old)
  TileLineIn old id t (machine.damaged expected found) new = k.Maybe (IsSome (session_of id old.sessions) × (new ≡ old))
  TileLineIn old id t _ new = ⊥

  -- a session is to be closed
  abbrev pub CloseLineIn : StateIn k → ℕ → Answer → StateIn k → Type 0
  CloseLineIn old id machine.closed new =
      IsSome (session_of id old.sessions) × (new ≡ record old { sessions = without id old.sessions })
  CloseLineIn old id machine.unknown new = (session_of id old.sessions ≡ None) × (new ≡ old)
  CloseLineIn old id _ new = ⊥

  -- ---- lines that leave the state

  -- the newest version is asked for
  abbrev pub VersionsLineIn : StateIn k → Answer → StateIn k → Type 0
  VersionsLineIn old (machine.versions count) new = (count ≡ k.versions old.list) × (new ≡ old)
  VersionsLineIn old _ new = ⊥

  -- an event may have this answer, and leads then from the old state to the new one
  abbrev pub StepIn : StateIn k → Event → Answer → StateIn k → Type 0
  StepIn old (machine.inline_line w) answer new = InlineLineIn old w answer new
  StepIn old (machine.source_line w content) answer new = SourceLineIn old w content answer new
  StepIn old machine.publish_line answer new = PublishLineIn old answer new
  StepIn old (machine.step_line n) answer new = StepLineIn old n answer new
  StepIn old machine.step_all_line answer new = StepAllLineIn old answer new
  StepIn old machine.open_line answer new = OpenLineIn old answer new
  StepIn old (machine.tile_line id t) answer new = TileLineIn old id t answer new
  StepIn old (machine.close_line id) answer new = CloseLineIn old id answer new
  StepIn old machine.versions_line answer new = VersionsLineIn old answer new
  StepIn old machine.overlong answer new = IsLong answer × (new ≡ old)
  StepIn old machine.unreadable answer new = IsSyntax answer × (new ≡ old)
  StepIn old (machine.misnamed place) answer new = IsName place answer × (new ≡ old)
