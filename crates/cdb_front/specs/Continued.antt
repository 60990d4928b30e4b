-- The program over any number of runs of any mode, each over what a stop of the one before left, or without a stop on
-- the very disk that it left.
use Rattle.std.specs.Prelude.{◌≡◌, ◌⊎◌, List, [], ◌∷◌, ◌++◌, Some, Contains}
use Rattle.std.specs.List.{AllByRecursion}
use Rattle.cdb_model.specs.Images.{Base}
use Rattle.cdb_model.specs.Maps.{FileMap}
use Rattle.cdb_model.specs.Publications.{Publication}
use Rattle.cdb_crash.specs.Crash.{IsClear}
use Rattle.cdb_files.specs.Disk.{IsImage}
use Rattle.cdb_engine.specs.Store.{IsStore}
use Rattle.cdb_front.specs.Headline.{Devices, Life, Knows, Goes, AllMeet, Reopens, StopLeaves, amid, at_end}
use Rattle.cdb_front.specs.Headline.{begun_in, acked_in}

-- the next run begins on the disk as it was left, which is clear
pub record StaysOn (v : Devices) (life next : Life v) : Type 0 where
  pub same : v.state next.old ≡ v.state life.new
  pub clear : IsClear (v.state life.new)
  pub possible : IsImage (v.state life.new) (v.state life.new).present

-- the next run begins over what a stop left, or without a stop
pub data Succeeds (v : Devices) (life next : Life v) : Type 0 where
  stopped : Reopens v life next → Succeeds v life next
  unstopped : StaysOn v life next → Succeeds v life next

-- the store that a run begins with: its list, and the others that a crash may leave up to the end of opening
abbrev pub base_for : (v : Devices) → List Publication → List (List Publication) → Life v → Base
base_for v list early life = record { list = list; early = early; moment = v.clock life.old }

-- what a run acknowledged before a stop, or to its end. A stop within the run is one of another disk, whose calls fail
-- from there on
abbrev pub acked_at : (v : Devices) (life : Life v) (m : FileMap) (base : Base) → StopLeaves v life m
    → Knows v life (Some base) → Goes v life (Some base) → List Publication
acked_at v life m base (amid since) knows goes = []
acked_at v life m base (at_end image) knows goes = acked_in v life base life.task knows goes

abbrev pub acked_by : (v : Devices) (life next : Life v) → Succeeds v life next → (base : Base)
    → Knows v life (Some base) → Goes v life (Some base) → List Publication
acked_by v life next (stopped r) base knows goes = acked_at v life r.m base r.stop knows goes
acked_by v life next (unstopped s) base knows goes = acked_in v life base life.task knows goes

-- a list is the one that a run opened, followed by the first of the publications begun, with all that are to be kept
pub record Extends (opened begun kept list : List Publication) : Type 0 where
  pub first : List Publication
  pub later : List Publication
  pub more : List Publication
  pub joined : begun ≡ first ++ later
  pub holds : first ≡ kept ++ more
  pub list_is : list ≡ opened ++ first

-- a list is one of some
abbrev pub IsAmong : List (List Publication) → List Publication → Type 0
IsAmong [] list = ⊥
IsAmong (other ∷ others) list = (list ≡ other) ⊎ IsAmong others list

-- what a run may leave: that, or, where nothing is to be kept, one of the lists that a crash in opening may leave
abbrev pub MayLeave : Base → List Publication → List Publication → List Publication → Type 0
MayLeave base begun kept list = Extends base.list begun kept list ⊎ ((kept ≡ []) × IsAmong base.early list)

-- runs up to the last one, the latest first: the first is over this store, and each other succeeds the one before
abbrev pub Succession : (v : Devices) → List Publication → List (List Publication) → Life v → List (Life v) → Type 0
Succession v list early last [] = IsStore list early (v.state last.old)
Succession v list early last (life ∷ earlier) = Succeeds v life last × Succession v list early life earlier

-- a run opened a store, and each list that the next one may find is one that it may leave
pub record FindsLeft (v : Devices) (Before : List Publication → List (List Publication) → Type 0) (life next : Life v)
    (link : Succeeds v life next) (list : List Publication) (early : List (List Publication)) : Type 0 where
  pub opened : List Publication
  pub others : List (List Publication)
  pub before : Before opened others
  pub knows : Knows v life (Some (base_for v opened others life))
  pub goes : Goes v life (Some (base_for v opened others life))
  pub each : AllByRecursion (MayLeave (base_for v opened others life)
      (begun_in v life (base_for v opened others life) life.task knows goes)
      (acked_by v life next link (base_for v opened others life) knows goes)) (list ∷ early)

-- the last one finds this store: the one at first, or one that the run before may leave
abbrev pub FindsStore : (v : Devices) (list : List Publication) (early : List (List Publication)) (last : Life v)
    (earlier : List (Life v)) → Succession v list early last earlier → List Publication
    → List (List Publication) → Type 0
FindsStore v list early last [] line now others = (now ≡ list) × (others ≡ early)
FindsStore v list early last (life ∷ earlier) line now others =
    FindsLeft v (FindsStore v list early life earlier line.1) life last line.0 now others

-- a publication was acknowledged by one of the earlier runs
abbrev pub HasAcked : (v : Devices) (list : List Publication) (early : List (List Publication)) (last : Life v)
    (earlier : List (Life v)) (line : Succession v list early last earlier) (now : List Publication)
    (others : List (List Publication)) → FindsStore v list early last earlier line now others → Publication → Type 0
HasAcked v list early last [] line now others finds x = ⊥
HasAcked v list early last (life ∷ earlier) line now others finds x =
    Contains (acked_by v life last line.0 (base_for v finds.opened finds.others life) finds.knows finds.goes) x
    ⊎ HasAcked v list early life earlier line.1 finds.opened finds.others finds.before x

-- the last run finds a store, each list of which has every acknowledged publication; from there it goes on as the
-- program promises
pub record Carried (v : Devices) (list : List Publication) (early : List (List Publication)) (last : Life v)
    (earlier : List (Life v)) (line : Succession v list early last earlier) : Type 0 where
  pub now : List Publication
  pub others : List (List Publication)
  pub finds : FindsStore v list early last earlier line now others
  pub every : (x : Publication) → HasAcked v list early last earlier line now others finds x
      → AllByRecursion (λ l. Contains l x) (now ∷ others)
  pub store : IsStore now others (v.state last.old)
  pub goes : Goes v last (Some (base_for v now others last))

-- over devices of which the disk tells what it holds
abbrev pub Continues : Devices → Type 0
Continues v = v.disk_tells → (list : List Publication) (early : List (List Publication)) (last : Life v)
    (earlier : List (Life v)) (line : Succession v list early last earlier) → AllMeet v last earlier
    → Carried v list early last earlier line
