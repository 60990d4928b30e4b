-- Runs of the machine over the lines of an input, and the steps that follow each line without being asked for.
use Rattle.std.specs.Prelude.{◌≡◌, ℕ, List, [], ◌∷◌, ◌++◌}
use Rattle.std.specs.List.{flat_map}
use Rattle.cdb_model.specs.Text.{Text}
use Rattle.cdb_model.specs.Maps.{Content}
use Rattle.cdb_model.specs.Names.{name}
use Rattle.cdb_model.specs.Grammar as grammar
use Rattle.cdb_model.specs.Commands as said
use Rattle.cdb_model.specs.Commands.{Command, line_command}
use Rattle.cdb_model.specs.Lines.{Misnames}
use Rattle.cdb_model.specs.Events as machine
use Rattle.cdb_model.specs.Events.{Event, Answer}
use Rattle.cdb_model.specs.Stores.{Kind, known_store}
use Rattle.cdb_model.specs.Transitions.{StateIn, StepIn, MakesIn}
use Rattle.cdb_model.specs.KnownStore.{KnownState}

-- a command is an event, where the shelf has this content at a path
abbrev pub Means : (Text → Content → Type 0) → Event → Command → Type 0
Means Has (machine.inline_line w) command = command ≡ said.said (grammar.inline w)
Means Has (machine.source_line w content) command = (command ≡ said.said (grammar.source w)) × Has w.path content
Means Has machine.publish_line command = command ≡ said.said grammar.publish
Means Has (machine.step_line n) command = command ≡ said.said (grammar.step n)
Means Has machine.step_all_line command = command ≡ said.said grammar.step_all
Means Has machine.open_line command = command ≡ said.said grammar.open_session
Means Has (machine.tile_line id t) command = command ≡ said.said (grammar.tile id (name t))
Means Has (machine.close_line id) command = command ≡ said.said (grammar.close id)
Means Has machine.versions_line command = command ≡ said.said grammar.versions
Means Has machine.overlong command = command ≡ said.overlong
Means Has machine.unreadable command = command ≡ said.unreadable
Means Has (machine.misnamed place) command = Misnames command place

-- ---- items

-- what a run goes through: a line, and the steps that are made after a line without being asked for, at most so many
pub data Item : Type 0 where
  line : Command → Item
  late : ℕ → Item

-- what is said of steps that no line asked for: nothing while the publication goes on
abbrev pub behind : Answer → List Answer
behind machine.going = []
behind machine.fault = machine.late_fault ∷ []
behind (machine.damaged expected found) = machine.late_damaged expected found ∷ []
behind answer = answer ∷ []

-- how many steps follow a line without being asked for: none follow `step`
abbrev pub due : ℕ → Command → ℕ
due most (said.said (grammar.step n)) = 0
due most (said.said grammar.step_all) = 0
due most command = most

-- the items of a line: blank lines are passed over
abbrev pub items_in : ℕ → Command → List Item
items_in most (said.said grammar.blank) = []
items_in most (said.said grammar.quit) = []
items_in most command = line command ∷ late (due most command) ∷ []

-- the items of lines, of which none but the last is `quit`
abbrev pub items_of : ℕ → List Text → List Item
items_of most lines = flat_map (λ l. items_in most (line_command l)) lines

-- ---- runs

module _ (k : Kind) where
  -- a command is an event of the machine, with its answer and the next state
  pub record TurnIn (Has : Text → Content → Type 0) (old : StateIn k) (command : Command) (answer : Answer)
      (new : StateIn k) : Type 0 where
    pub event : Event
    pub meant : Means Has event command
    pub step : StepIn k old event answer new

  -- a line has one answer
  pub record RepliesIn (Has : Text → Content → Type 0) (old : StateIn k) (command : Command) (answers : List Answer)
      (new : StateIn k) : Type 0 where
    pub answer : Answer
    pub answers_are : answers ≡ answer ∷ []
    pub turn : TurnIn Has old command answer new

  -- steps that no line asked for have one answer or none
  pub record TrailsIn (old : StateIn k) (most : ℕ) (answers : List Answer) (new : StateIn k) : Type 0 where
    pub answer : Answer
    pub answers_are : answers ≡ behind answer
    pub makes : MakesIn k most old answer new

  abbrev pub PassesIn : (Text → Content → Type 0) → StateIn k → Item → List Answer → StateIn k → Type 0
  PassesIn Has old (line command) answers new = RepliesIn Has old command answers new
  PassesIn Has old (late most) answers new = TrailsIn old most answers new

  -- the first item of some, with its answers, and where the others begin
  pub record FirstIn (Has : Text → Content → Type 0) (Rest : StateIn k → List Answer → Type 0) (old : StateIn k)
      (item : Item) (answers : List Answer) : Type 0 where
    pub mid : StateIn k
    pub now : List Answer
    pub later : List Answer
    pub answers_are : answers ≡ now ++ later
    pub passes : PassesIn Has old item now mid
    pub rest : Rest mid later

  -- items in turn, with their answers
  abbrev pub RunIn : (Text → Content → Type 0) → StateIn k → List Item → List Answer → StateIn k → Type 0
  RunIn Has old [] answers new = (answers ≡ []) × (new ≡ old)
  RunIn Has old (item ∷ items) answers new = FirstIn Has (λ mid later. RunIn Has mid items later new) old item answers

-- over a store of which all publications are known
abbrev pub Turn : (Text → Content → Type 0) → KnownState → Command → Answer → KnownState → Type 0
Turn = TurnIn known_store

abbrev pub Passes : (Text → Content → Type 0) → KnownState → Item → List Answer → KnownState → Type 0
Passes = PassesIn known_store

abbrev pub Run : (Text → Content → Type 0) → KnownState → List Item → List Answer → KnownState → Type 0
Run = RunIn known_store
