-- The program over any number of runs of any mode, each over what a stop of the one before left.
use Rattle.std.specs.Prelude.{◌≡◌, ◌⊎◌, ℕ, List, [], ◌∷◌, ◌++◌, Option, Some, Contains}
use Rattle.cdb_model.specs.Publications.{Publication}
use Rattle.cdb_model.specs.Maps.{Text, Content, FileMap}
use Rattle.cdb_model.specs.Stands.{Stands}
use Rattle.cdb_crash.specs.Crash.{IsWhole}
use Rattle.cdb_files.specs.Disk as disk
use Rattle.cdb_files.specs.Disk.{IsImage, Allows}
use Rattle.cdb_model.specs.Begun.{acknowledged}
use Rattle.cdb_model.specs.Images.{Base}
use Rattle.cdb_model.specs.Stores.{any_store}
use Rattle.cdb_model.specs.Transitions.{StateIn, IsFreshIn}
use Rattle.cdb_front.specs.Beginning.{BeginsAsRead, OpensBy}
use Rattle.cdb_front.specs.Checking.{Checks}
use Rattle.cdb_front.specs.EntryStore.{IsKnown}
use Rattle.cdb_front.specs.Failures.{EndsReading}
use Rattle.cdb_front.specs.Generating.{Fills}
use Rattle.cdb_front.specs.RunOutcome.{Outcome}
use Rattle.cdb_front.specs.declared.exit_status.Status.{Status}
use Rattle.cdb_front.specs.declared.exit_status.Status.TheVariants.{Done}

-- what is seen of a disk, a shelf, an input and an output
pub record Devices : Type 1 where
  pub D : Type 0
  pub H : Type 0
  pub I : Type 0
  pub O : Type 0
  pub disk_tells : Type 0
  pub state : D → disk.State
  pub clock : D → ℕ
  pub since : D → ℕ → FileMap → Type 0
  pub disk_faults : D → ℕ
  pub shelf_tells : Type 0
  pub files : H → FileMap
  pub shelf_faults : H → ℕ
  pub left : I → Option (List ℕ)
  pub failed_at : I → Option (List ℕ)
  pub input_faults : I → ℕ
  pub written : O → Option (List ℕ)

-- what a run is asked for: to read a script, with so many steps behind a line that asks for none; to check the store;
-- or to make so many publications of the generator that begins with a start
pub data Task : Type 0 where
  script : ℕ → Task
  check : Task
  fill : ℕ → ℕ → Task

-- one run of the program: its devices before and after, its task, and its status
pub record Life (v : Devices) : Type 0 where
  pub old : v.D
  pub new : v.D
  pub shelf : v.H
  pub shelf' : v.H
  pub input : v.I
  pub input' : v.I
  pub output : v.O
  pub output' : v.O
  pub task : Task
  pub status : Status

-- how many steps follow a line of a script
abbrev pub steps_behind : Task → ℕ
steps_behind (script most) = most
steps_behind task = 0

-- the store that it opened is known, or nothing is
abbrev pub Knows : (v : Devices) → Life v → Option Base → Type 0
Knows v life from = IsKnown v.disk_tells from (v.clock life.old) (v.state life.old)

-- how a run of a script went, from this store, and, whatever the disk held, from a state in which nothing is pending,
-- going or open; and the disk once opening had ended
pub record ReadsScript (v : Devices) (life : Life v) (from : Option Base) : Type 0 where
  pub opened : v.D
  pub opens : OpensBy v.clock v.since from life.old opened
  pub start : StateIn any_store
  pub fresh : IsFreshIn any_store start
  pub outcome : Outcome v.shelf_tells
      (record {
        files = v.files life.shelf;
        shelf = v.shelf_faults life.shelf;
        disk = v.disk_faults life.old;
        written = v.written life.output;
        from = from;
        opened = v.clock opened;
        start = start;
        most = steps_behind life.task;
      })
      (v.shelf_faults life.shelf') (v.disk_faults life.new) (v.left life.input) (v.left life.input')
      (v.written life.output') (v.clock life.new) (v.since life.new) (v.state life.new) life.status
  pub begins : BeginsAsRead v.disk_tells (v.state life.old).present start outcome.status
  pub reads : EndsReading outcome.status (v.input_faults life.input) (v.input_faults life.input') (v.left life.input')
      (v.failed_at life.input) (v.failed_at life.input')

-- how a run went, by its task
abbrev pub GoesBy : (v : Devices) → Life v → Option Base → Task → Type 0
GoesBy v life from (script most) = ReadsScript v life from
GoesBy v life from check = Checks v.disk_tells v.state v.clock v.since life.old life.new (v.written life.output)
    (v.written life.output') life.status
GoesBy v life from (fill start count) = Fills v.disk_tells v.state v.clock v.since start count life.old life.new
    (v.written life.output) (v.written life.output') life.status

abbrev pub Goes : (v : Devices) → Life v → Option Base → Type 0
Goes v life from = GoesBy v life from life.task

-- the run is as the program promises
abbrev pub Meets : (v : Devices) → Life v → Type 0
Meets v life = (from : Option Base) → Knows v life from → Goes v life from

-- the disk has this map, and a crash can leave no other
pub record IsOnly (m : FileMap) (d : disk.State) : Type 0 where
  pub present : (path : Text) → d.present path ≡ m path
  pub only : (path : Text) (c : Content) → Allows (d.may path) c → c ≡ m path

-- a stop leaves this map: before or within a file action of the run, or after its end
pub data StopLeaves (v : Devices) (life : Life v) (m : FileMap) : Type 0 where
  amid : v.since life.new (v.clock life.old) m → StopLeaves v life m
  at_end : IsImage (v.state life.new) m → StopLeaves v life m

-- the next run begins over what a stop left
pub record Reopens (v : Devices) (life next : Life v) : Type 0 where
  pub m : FileMap
  pub stop : StopLeaves v life m
  pub only : IsOnly m (v.state next.old)

abbrev pub whole_for : (v : Devices) → List Publication → Life v → Base
whole_for v list life = record { list = list; early = []; moment = v.clock life.old }

-- ---- what a run over a store began and acknowledged

-- the publications that it began: none where it checks
abbrev pub begun_in : (v : Devices) (life : Life v) (base : Base) (task : Task) → Knows v life (Some base)
    → GoesBy v life (Some base) task → List Publication
begun_in v life base (script most) knows goes = goes.outcome.run.begun
begun_in v life base check knows goes = []
begun_in v life base (fill start count) knows goes = (goes.store base knows).begun

-- all of them where the run is done
abbrev pub where_done : Status → List Publication → List Publication
where_done Done begun = begun
where_done status begun = []

-- those that it acknowledged at its end: what the answers that were written say to be complete; all that were made,
-- where the run is done, whose three lines say so, and else none
abbrev pub acked_in : (v : Devices) (life : Life v) (base : Base) (task : Task) → Knows v life (Some base)
    → GoesBy v life (Some base) task → List Publication
acked_in v life base (script most) knows goes =
    acknowledged goes.outcome.run.begun goes.outcome.transcript.answers goes.outcome.transcript.wrote
acked_in v life base check knows goes = []
acked_in v life base (fill start count) knows goes = where_done life.status (goes.store base knows).begun

-- what the run acknowledged before it stopped. A stop within the run is one of another disk, whose calls fail from
-- there on
abbrev pub acked : (v : Devices) (life : Life v) (m : FileMap) (opened : List Publication) → StopLeaves v life m
    → Knows v life (Some (whole_for v opened life)) → Goes v life (Some (whole_for v opened life)) → List Publication
acked v life m opened (amid since) knows goes = []
acked v life m opened (at_end image) knows goes =
    acked_in v life (whole_for v opened life) life.task knows goes

-- a run opened a list, and a stop left it followed by the first of the publications begun, with all that are
-- acknowledged
pub record LeavesAcknowledged (v : Devices) (life : Life v) (m : FileMap) (stop : StopLeaves v life m)
    (opened now : List Publication) : Type 0 where
  pub knows : Knows v life (Some (whole_for v opened life))
  pub goes : Goes v life (Some (whole_for v opened life))
  pub first : List Publication
  pub later : List Publication
  pub joined : begun_in v life (whole_for v opened life) life.task knows goes ≡ first ++ later
  pub more : List Publication
  pub holds : first ≡ acked v life m opened stop knows goes ++ more
  pub now_is : now ≡ opened ++ first

pub record AddsTo (v : Devices) (Before : List Publication → Type 0) (life : Life v) (m : FileMap)
    (stop : StopLeaves v life m) (now : List Publication) : Type 0 where
  pub opened : List Publication
  pub before : Before opened
  pub adds : LeavesAcknowledged v life m stop opened now

-- runs up to the last one, the latest first: the first is over a store of this list, and each other over what a stop
-- left
abbrev pub FollowStops : (v : Devices) → List Publication → Life v → List (Life v) → Type 0
FollowStops v list last [] = IsWhole Stands list (v.state last.old)
FollowStops v list last (life ∷ earlier) = Reopens v life last × FollowStops v list life earlier

-- each of them is as the program promises
abbrev pub AllMeet : (v : Devices) → Life v → List (Life v) → Type 0
AllMeet v last [] = Meets v last
AllMeet v last (life ∷ earlier) = Meets v last × AllMeet v life earlier

-- the last one opens this list: what was there at first, and what each run before added
abbrev pub Opens : (v : Devices) (list : List Publication) (last : Life v) (earlier : List (Life v))
    → FollowStops v list last earlier → List Publication → Type 0
Opens v list last [] follow now = now ≡ list
Opens v list last (life ∷ earlier) follow now = AddsTo v (Opens v list life earlier follow.1) life follow.0.m
    follow.0.stop now

-- a publication was acknowledged by one of the earlier runs
abbrev pub WasAcked : (v : Devices) (list : List Publication) (last : Life v) (earlier : List (Life v))
    (follow : FollowStops v list last earlier) (now : List Publication) → Opens v list last earlier follow now
    → Publication → Type 0
WasAcked v list last [] follow now opens x = ⊥
WasAcked v list last (life ∷ earlier) follow now opens x =
    Contains (acked v life follow.0.m opens.opened follow.0.stop opens.adds.knows opens.adds.goes) x
    ⊎ WasAcked v list life earlier follow.1 opens.opened opens.before x

-- reopening gives the list of the first store, followed run by run by the first of the publications begun, with every
-- acknowledged one; from there the last run goes on as the program promises
pub record KeepsPublications (v : Devices) (list : List Publication) (last : Life v) (earlier : List (Life v))
    (follow : FollowStops v list last earlier) : Type 0 where
  pub now : List Publication
  pub opens : Opens v list last earlier follow now
  pub every : (x : Publication) → WasAcked v list last earlier follow now opens x → Contains now x
  pub store : IsWhole Stands now (v.state last.old)
  pub goes : Goes v last (Some (whole_for v now last))

-- over devices of which the disk tells what it holds
abbrev pub Headline : Devices → Type 0
Headline v = v.disk_tells → (list : List Publication) (last : Life v) (earlier : List (Life v))
    (follow : FollowStops v list last earlier) → AllMeet v last earlier → KeepsPublications v list last earlier follow

-- ---- by what is seen of each device

abbrev pub devices_of : {D H I O : Type 0} → Type 0 → (D → disk.State) → (D → ℕ) → (D → ℕ → FileMap → Type 0) → (D → ℕ)
    → Type 0 → (H → FileMap) → (H → ℕ) → (I → Option (List ℕ)) → (I → Option (List ℕ)) → (I → ℕ)
    → (O → Option (List ℕ)) → Devices
devices_of {D = D} {H = H} {I = I} {O = O} disk_tells state clock since disk_faults shelf_tells files shelf_faults left
    failed_at input_faults written =
    record {
      D = D;
      H = H;
      I = I;
      O = O;
      disk_tells = disk_tells;
      state = state;
      clock = clock;
      since = since;
      disk_faults = disk_faults;
      shelf_tells = shelf_tells;
      files = files;
      shelf_faults = shelf_faults;
      left = left;
      failed_at = failed_at;
      input_faults = input_faults;
      written = written;
    }

abbrev pub life_of : (v : Devices) → v.D → v.D → v.H → v.H → v.I → v.I → v.O → v.O → Task → Status → Life v
life_of v old new shelf shelf' input input' output output' task status = record {
  old = old;
  new = new;
  shelf = shelf;
  shelf' = shelf';
  input = input;
  input' = input';
  output = output;
  output' = output';
  task = task;
  status = status;
}

-- the run is as the program promises, by its devices
abbrev pub MeetsOf : {D H I O : Type 0} → Type 0 → (D → disk.State) → (D → ℕ) → (D → ℕ → FileMap → Type 0) → (D → ℕ)
    → Type 0 → (H → FileMap) → (H → ℕ) → (I → Option (List ℕ)) → (I → Option (List ℕ)) → (I → ℕ)
    → (O → Option (List ℕ)) → D → D → H → H → I → I → O → O → Task → Status → Type 0
MeetsOf disk_tells state clock since disk_faults shelf_tells files shelf_faults left failed_at input_faults written old
    new shelf shelf' input input' output output' task status =
    Meets
    (devices_of disk_tells state clock since disk_faults shelf_tells files shelf_faults left failed_at input_faults
    written)
    (life_of
    (devices_of disk_tells state clock since disk_faults shelf_tells files shelf_faults left failed_at input_faults
    written)
    old new shelf shelf' input input' output output' task status)
