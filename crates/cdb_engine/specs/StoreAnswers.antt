-- Which answer of the machine each result of an engine over a disk is, and what a step leaves.
use Rattle.std.specs.Prelude.{◌≡◌, ℕ, List, [], length, Option, Some, None, Result, Ok, Err, IsSome}
use Rattle.cdb_model.specs.Causes.{Rose}
use Rattle.cdb_model.specs.Events as machine
use Rattle.cdb_model.specs.Events.{Answer}
use Rattle.cdb_model.specs.Stores.{Kind}
use Rattle.cdb_model.specs.Transitions.{StateIn, GoingIn, AdvancesIn, IsIdleIn}
use Rattle.cdb_publish.specs.Going.{left_of}
use Rattle.cdb_publish.specs.declared.errors.PlanError.{PlanError}
use Rattle.cdb_publish.specs.declared.errors.PlanError.TheVariants as plan
use Rattle.cdb_publish.specs.declared.errors.Progress.{Progress}
use Rattle.cdb_publish.specs.declared.errors.Progress.TheVariants as progress
use Rattle.cdb_publish.specs.declared.errors.StepError.{StepError}
use Rattle.cdb_publish.specs.declared.errors.StepError.TheVariants as made
use Rattle.cdb_publish.specs.declared.publication.Publication.{Publication}
use Rattle.cdb_sessions.specs.declared.errors.SessionError.{SessionError}
use Rattle.cdb_sessions.specs.declared.errors.SessionError.TheVariants as session
use Rattle.cdb_sessions.specs.declared.errors.TileError.{TileError}
use Rattle.cdb_sessions.specs.declared.errors.TileError.TheVariants as tile
use Rattle.cdb_sessions.specs.declared.errors.Unknown.{Unknown}
use Rattle.cdb_sessions.specs.declared.sessions.Reply.{Reply}
use Rattle.cdb_sessions.specs.declared.sessions.Reply.TheVariants.{Missing, Bytes}
use Rattle.cdb_engine.specs.Held.{Held}
use Rattle.cdb_engine.specs.declared.reply.Begun.{Begun}
use Rattle.cdb_engine.specs.declared.reply.Opened.{Opened}
use Rattle.cdb_engine.specs.declared.errors.AdvanceError.{AdvanceError}
use Rattle.cdb_engine.specs.declared.errors.AdvanceError.TheVariants as advance
use Rattle.cdb_engine.specs.declared.errors.PublishError.{PublishError}
use Rattle.cdb_engine.specs.declared.errors.PublishError.TheVariants as publish
use Rattle.cdb_engine.specs.declared.errors.ReadyError.{ReadyError}
use Rattle.cdb_engine.specs.declared.errors.ReadyError.TheVariants as ready

-- why no source can be submitted now
abbrev pub ready_answer : ReadyError → Answer
ready_answer ready.Halted = machine.halted
ready_answer ready.Busy = machine.busy
ready_answer ready.Full = machine.full

-- a publication was begun: its version and its files; or why not
abbrev pub publish_refusal : PublishError → Answer
publish_refusal publish.Halted = machine.halted
publish_refusal publish.Busy = machine.busy
publish_refusal publish.Nothing = machine.nothing
publish_refusal (publish.Large count) = machine.large count
publish_refusal (publish.Entries count) = machine.entries count
publish_refusal publish.Versions = machine.full_of_versions
publish_refusal publish.Memory = machine.memory

abbrev pub publish_answer : Result Begun PublishError → Answer
publish_answer (Ok begun) = machine.begun begun.version begun.files
publish_answer (Err error) = publish_refusal error

-- one step was made, or why not
abbrev pub advance_answer : Result Progress AdvanceError → Answer
advance_answer (Ok progress.Going) = machine.going
advance_answer (Ok (progress.Published version)) = machine.published version
advance_answer (Err advance.Halted) = machine.halted
advance_answer (Err advance.Nothing) = machine.nothing
advance_answer (Err advance.Fault) = machine.fault
advance_answer (Err (advance.Damaged expected found)) = machine.damaged expected found

-- a session was opened: its number and its version
abbrev pub session_answer : Result Opened SessionError → Answer
session_answer (Ok opened) = machine.session opened.id opened.version
session_answer (Err session.Many) = machine.many
session_answer (Err session.Memory) = machine.memory

-- a session was closed
abbrev pub close_answer : Result Unit Unknown → Answer
close_answer (Ok _) = machine.closed
close_answer (Err _) = machine.unknown

-- a tile was asked for: its bytes, where it has a file
abbrev pub tile_answer : Result Reply TileError → List ℕ → Answer
tile_answer (Ok Missing) bytes = machine.missing
tile_answer (Ok (Bytes count)) bytes = machine.tile bytes
tile_answer (Err tile.Unknown) bytes = machine.unknown
tile_answer (Err tile.Fault) bytes = machine.fault
tile_answer (Err (tile.Damaged expected found)) bytes = machine.damaged expected found

-- the bytes after a request for a tile: as many as the reply says, and none where it has no file
abbrev pub HasBytes : Result Reply TileError → List ℕ → Type 0
HasBytes (Ok (Bytes count)) bytes = count ≡ length bytes
HasBytes result bytes = bytes ≡ []

-- ---- one step

-- one step is tried: it is refused, since the writer is halted or nothing is going, or made
abbrev pub TriesIn : (k : Kind) → StateIn k → Answer → StateIn k → Type 0
TriesIn k old machine.halted new = IsSome old.halted × (old.going ≡ None) × (new ≡ old)
TriesIn k old machine.nothing new = IsIdleIn k old × (new ≡ old)
TriesIn k old answer new = AdvancesIn k old answer new

-- how many steps are left of what an engine works on
abbrev pub steps_left : Option Publication → ℕ
steps_left None = 0
steps_left (Some work) = left_of work

abbrev pub advance_of : Result Progress StepError → Result Progress AdvanceError
advance_of (Ok p) = Ok p
advance_of (Err made.Fault) = Err advance.Fault
advance_of (Err (made.Damaged expected found)) = Err (advance.Damaged expected found)

-- so many steps are left of what is going
abbrev pub LeftIn : (k : Kind) → Option (GoingIn k) → ℕ → Type 0
LeftIn k None n = n ≡ 0
LeftIn k (Some now) n = n ≡ now.left

-- which halt a step leaves: what was there, unless it answers that the disk failed or that a file is damaged
abbrev pub HaltsBy : Result Progress AdvanceError → Option ℕ → Option ℕ → ℕ → Type 0
HaltsBy (Err advance.Fault) old new faults = (old ≡ None) × (new ≡ Some faults)
HaltsBy (Err (advance.Damaged expected found)) old new faults = (old ≡ None) × (new ≡ Some faults)
HaltsBy _ old new faults = new ≡ old

-- a failure of the disk is answered only where its count rose
abbrev pub AdvanceCause : Result Progress AdvanceError → ℕ → ℕ → Type 0
AdvanceCause (Err advance.Fault) before now = Rose before now
AdvanceCause _ before now = Unit {0}

-- ---- a publication

-- why a plan was refused
abbrev pub refusal_of : PlanError → PublishError
refusal_of plan.Memory = publish.Memory
refusal_of (plan.Large count) = publish.Large count
refusal_of (plan.Entries count) = publish.Entries count
refusal_of plan.Versions = publish.Versions

-- an engine is as it was, but for the room for a further record
abbrev pub IsSameButRoom : Held → Held → Type 0
IsSameButRoom old new = new ≡ record old { chain = record { records = old.chain.records; spare = new.chain.spare } }
