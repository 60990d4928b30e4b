-- An engine tracks a state of the machine on a disk.
use Rattle.std.specs.Prelude.{◌≡◌, ℕ, ◌+◌, ◌≤◌, ◌<◌, List, [], ◌∷◌, ◌++◌, length, Option, Some, None, IfSome}
use Rattle.std.specs.List.{AllByRecursion}
use Rattle.cdb_source.specs.Reached.{Reached}
use Rattle.cdb_model.specs.Begun.{HasBegun}
use Rattle.cdb_model.specs.Causes.{Rose}
use Rattle.cdb_model.specs.Images.{Base, StandsFrom, StandsSince}
use Rattle.cdb_model.specs.KnownStore.{KnownState, Going}
use Rattle.cdb_model.specs.Maps.{FileMap}
use Rattle.cdb_model.specs.Publications.{Publication, sources_in, sources_of, heads_of, step_count}
use Rattle.cdb_model.specs.Stands.{Stands}
use Rattle.cdb_model.specs.TileFile.{tile_bytes}
use Rattle.cdb_files.specs.Disk as disk
use Rattle.cdb_files.specs.Disk.{IsImage}
use Rattle.cdb_crash.specs.Crash.{IsClean, IsEither}
use Rattle.cdb_chain.specs.Publications.{AreRecords}
use Rattle.cdb_chain.specs.Versions.{Versions}
use Rattle.cdb_publish.specs.Going.{Underway, left_of}
use Rattle.cdb_publish.specs.declared.publication.Publication as publish
use Rattle.cdb_sessions.specs.Cache.{Kept}
use Rattle.cdb_engine.specs.Held.{Held}

-- The engine works on the publication that is going: its steps that aren't left are made, the disk is where they lead,
-- and there is room for its record.
pub record IsGoing (list : List Publication) (now : Going) (work : publish.Publication) (chain : Versions)
    (d : disk.State) : Type 0 where
  pub made : ℕ
  pub underway : Underway work list now.publication made chain.records d
  pub count : made + now.left ≡ step_count list now.publication underway.work.plan.record.tiles
  pub left : left_of work ≡ now.left
  pub some_left : 0 < now.left
  pub room : work.files < chain.spare

-- What the disk is, by what is going and what was given up: clean for the list; in the middle of the publication that
-- is going; or such that a crash leaves the list, or the list and the publication that was given up.
abbrev pub Works : List Publication → Option Going → Option Publication → Option publish.Publication → Option ℕ
    → Versions → disk.State → Type 0
Works list None None None None chain d = IsClean Stands list d
Works list (Some now) None (Some work) None chain d = IsGoing list now work chain d
Works list None (Some given_up) None (Some faults) chain d =
    (m : FileMap) → IsImage d m → IsEither Stands list given_up m
Works list _ _ _ _ chain d = ⊥

-- A tile's file that is kept is that of a version of the list.
pub record IsFileOf (list : List Publication) (k : Kept) : Type 0 where
  pub earlier : List Publication
  pub x : Publication
  pub later : List Publication
  pub list_is : list ≡ earlier ++ x ∷ later
  pub version_is : k.pair.version ≡ length earlier + 1
  pub reached : Reached (heads_of (sources_in x)) k.pair.tile
  pub bytes_are : k.bytes ≡ tile_bytes (sources_of (earlier ++ x ∷ [])) k.pair.tile

pub record Tracks (held : Held) (d : disk.State) (s : KnownState) : Type 0 where
  pub records : AreRecords held.chain.records s.list
  pub pending : held.pending ≡ s.pending
  pub sessions : held.sessions ≡ s.sessions
  pub opened : held.opened ≡ s.opened
  pub works : Works s.list s.going s.halted held.work held.halted held.chain d
  pub kept : AllByRecursion (IsFileOf s.list) held.kept

-- What a run began with: the store, the clock at which its opening ended, and how many calls of the disk had failed.
pub record Origin : Type 0 where
  pub store : Base
  pub opened : ℕ
  pub faults : ℕ

-- The same of an engine whose run began so: whatever a crash since that moment may have left stands for the list
-- followed by the first of the publications begun, or, before opening ended, for one of the early lists; since opening
-- ended it stands for no early list. Where the engine was halted, calls of the disk had failed since the run began.
pub record Follows (tells : Type 0) (origin : Origin) (clock count : ℕ) (since : ℕ → FileMap → Type 0) (d : disk.State)
    (held : Held) (s : KnownState) : Type 0 where
  pub told : tells
  pub opened_after : origin.store.moment ≤ origin.opened
  pub earlier : origin.opened ≤ clock
  pub no_fewer : origin.faults ≤ count
  pub begun : List Publication
  pub has_begun : HasBegun origin.store.list s begun
  pub tracks : Tracks held d s
  pub images : (m : FileMap) → since origin.store.moment m → StandsSince origin.store begun m
  pub later_images : (m : FileMap) → since origin.opened m → StandsFrom origin.store.list begun m
  pub halt : IfSome held.halted (λ faults. Rose origin.faults faults)

-- What an event leads to: a next state, in which something holds again.
pub record Leads {S : Type 0} (Step : S → Type 0) (Now : S → Type 0) : Type 0 where
  pub next : S
  pub step : Step next
  pub now : Now next

-- What a crash may leave at the moments of a step, by what is going: the list, or in the last step the list and the
-- publication.
abbrev pub DuringStep : List Publication → Publication → ℕ → FileMap → Type 0
DuringStep list x left m = IsEither Stands list x m × (1 < left → Stands m list)

abbrev pub DuringNow : List Publication → Option Going → FileMap → Type 0
DuringNow list None m = ⊥
DuringNow list (Some now) m = DuringStep list now.publication now.left m
