-- The machine over a store of which all publications are known.
use Rattle.std.specs.Prelude.{ℕ, List, [], Option, None}
use Rattle.cdb_grid.specs.declared.tile.Tile.{Tile}
use Rattle.cdb_model.specs.Events.{Event, Answer}
use Rattle.cdb_model.specs.Grammar.{InlineSource, FileSource}
use Rattle.cdb_model.specs.Maps.{Content}
use Rattle.cdb_model.specs.Publications.{Publication}
use Rattle.cdb_model.specs.Stores.{known_store}
use Rattle.cdb_model.specs.Transitions.{StateIn, GoingIn, IsIdleIn, IsBusyIn, IsPendingIn, IsPlannedIn, InlineLineIn, SourceLineIn, BegunIn, PublishLineIn, PublishedIn, GivenUpIn, HasLeftIn, StepLineIn, StepAllLineIn, OpenLineIn, TileLineIn, CloseLineIn, VersionsLineIn, StepIn}

abbrev pub KnownState : Type 0
KnownState = StateIn known_store

abbrev pub Going : Type 0
Going = GoingIn known_store

-- a store of these publications: nothing pending, nothing going, nothing open
abbrev pub start_at : List Publication → KnownState
start_at list = record { list = list; pending = []; going = None; halted = None; sessions = []; opened = 0 }

abbrev pub IsIdle : KnownState → Type 0
IsIdle = IsIdleIn known_store

abbrev pub IsBusy : KnownState → Type 0
IsBusy = IsBusyIn known_store

abbrev pub InlineLine : KnownState → InlineSource → Answer → KnownState → Type 0
InlineLine = InlineLineIn known_store

abbrev pub SourceLine : KnownState → FileSource → Content → Answer → KnownState → Type 0
SourceLine = SourceLineIn known_store

abbrev pub IsPending : KnownState → Type 0
IsPending = IsPendingIn known_store

abbrev pub IsPlanned : KnownState → List Tile → ℕ → Type 0
IsPlanned = IsPlannedIn known_store

abbrev pub Begun : KnownState → ℕ → ℕ → KnownState → Type 0
Begun = BegunIn known_store

abbrev pub PublishLine : KnownState → Answer → KnownState → Type 0
PublishLine = PublishLineIn known_store

abbrev pub Published : KnownState → ℕ → KnownState → Type 0
Published = PublishedIn known_store

abbrev pub GivenUp : KnownState → KnownState → Type 0
GivenUp = GivenUpIn known_store

abbrev pub HasLeft : Option Going → ℕ → Type 0
HasLeft = HasLeftIn known_store

abbrev pub StepLine : KnownState → ℕ → Answer → KnownState → Type 0
StepLine = StepLineIn known_store

abbrev pub StepAllLine : KnownState → Answer → KnownState → Type 0
StepAllLine = StepAllLineIn known_store

abbrev pub OpenLine : KnownState → Answer → KnownState → Type 0
OpenLine = OpenLineIn known_store

abbrev pub TileLine : KnownState → ℕ → Tile → Answer → KnownState → Type 0
TileLine = TileLineIn known_store

abbrev pub CloseLine : KnownState → ℕ → Answer → KnownState → Type 0
CloseLine = CloseLineIn known_store

abbrev pub VersionsLine : KnownState → Answer → KnownState → Type 0
VersionsLine = VersionsLineIn known_store

abbrev pub Step : KnownState → Event → Answer → KnownState → Type 0
Step = StepIn known_store
