-- The tiles that a run serves.
use Rattle.std.proofs.Common.{ℕ, List, [], ◌∷◌}
use Rattle.cdb_model.specs.Commands.{Command}
use Rattle.cdb_model.specs.Events as machine
use Rattle.cdb_model.specs.Events.{Event, Answer}
use Rattle.cdb_model.specs.KnownStore.{KnownState, start_at}
use Rattle.cdb_model.specs.Maps.{Content}
use Rattle.cdb_model.specs.Runs as run
use Rattle.cdb_model.specs.Runs.{Item, Run, Turn, Means}
use Rattle.cdb_model.specs.Stores.{known_store}
use Rattle.cdb_model.specs.Text.{Text}
use Rattle.cdb_model.specs.Transitions.{StepIn}
use Rattle.cdb_front.specs.Headline.{Devices}
use Rattle.cdb_front.specs.RunProgress.{Holds}
use Rattle.cdb_front.specs.Served.{IsServed, EachServed, ServesTiles}
use Rattle.cdb_front.proofs.Walk.{never}

module _ (Has : Text → Content → Type 0) (old new : KnownState) (command : Command) where
  tile_served : (bytes : List ℕ) (event : Event) → Means Has event command
      → StepIn known_store old event (machine.tile bytes) new → IsServed old command (machine.tile bytes)
  tile_served bytes (machine.tile_line id t) meant step = record {
    id = id;
    tile = t;
    session = step.0.session;
    asked = meant;
    is_open = step.0.is_open;
    holds = step.0.serves;
  }
  tile_served bytes (machine.step_line n) meant step =
      absurd (never known_store (machine.tile bytes) (λ s t a. a) (λ e. cc) n old new step.2)
  tile_served bytes machine.step_all_line meant step =
      absurd (never known_store (machine.tile bytes) (λ s t a. a) (λ e. cc) step.0 old new step.3)
  tile_served bytes machine.overlong meant step = absurd step.0
  tile_served bytes machine.unreadable meant step = absurd step.0
  tile_served bytes (machine.misnamed place) meant step = absurd step.0
  tile_served bytes (machine.inline_line w) meant step = absurd step
  tile_served bytes (machine.source_line w content) meant step = absurd step
  tile_served bytes machine.publish_line meant step = absurd step
  tile_served bytes machine.open_line meant step = absurd step
  tile_served bytes (machine.close_line id) meant step = absurd step
  tile_served bytes machine.versions_line meant step = absurd step

  missing_served : (event : Event) → Means Has event command → StepIn known_store old event machine.missing new
      → IsServed old command machine.missing
  missing_served (machine.tile_line id t) meant step = record {
    id = id;
    tile = t;
    session = step.0.session;
    asked = meant;
    is_open = step.0.is_open;
    holds = step.0.misses;
  }
  missing_served (machine.step_line n) meant step =
      absurd (never known_store machine.missing (λ s t a. a) (λ e. cc) n old new step.2)
  missing_served machine.step_all_line meant step =
      absurd (never known_store machine.missing (λ s t a. a) (λ e. cc) step.0 old new step.3)
  missing_served machine.overlong meant step = absurd step.0
  missing_served machine.unreadable meant step = absurd step.0
  missing_served (machine.misnamed place) meant step = absurd step.0
  missing_served (machine.inline_line w) meant step = absurd step
  missing_served (machine.source_line w content) meant step = absurd step
  missing_served machine.publish_line meant step = absurd step
  missing_served machine.open_line meant step = absurd step
  missing_served (machine.close_line id) meant step = absurd step
  missing_served machine.versions_line meant step = absurd step

  turn_served : (answer : Answer) → Turn Has old command answer new → IsServed old command answer
  turn_served (machine.tile bytes) turn = tile_served bytes turn.event turn.meant turn.step
  turn_served machine.missing turn = missing_served turn.event turn.meant turn.step
  turn_served _ turn = tt

each_served : (Has : Text → Content → Type 0) (old : KnownState) (items : List Item) (answers : List Answer)
    (new : KnownState)
    → (r : Run Has old items answers new) → EachServed Has old items answers new r
each_served Has old [] answers new r = tt
each_served Has old (run.line command ∷ items) answers new r =
    (turn_served Has old r.mid command r.passes.answer r.passes.turn, each_served Has r.mid items r.later new r.rest)
each_served Has old (run.late most ∷ items) answers new r = each_served Has r.mid items r.later new r.rest

pub serves_tiles : (v : Devices) → ServesTiles v
serves_tiles v life base goes =
    each_served (Holds v.shelf_tells (v.files life.shelf)) (start_at base.list) goes.outcome.transcript.items
    goes.outcome.transcript.answers goes.outcome.run.state goes.outcome.run.run
