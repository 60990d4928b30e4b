-- The publications that a run began, and those that what was written acknowledges.
use Rattle.std.specs.Prelude.{◌≡◌, ℕ, List, [], ◌∷◌, ◌++◌, length, take, drop, Option, Some, None, nat_eq, if◌then◌else◌, option_to_list}
use Rattle.std.specs.List.{starts_with}
use Rattle.cdb_model.specs.Text.{Text}
use Rattle.cdb_model.specs.Maps.{Content}
use Rattle.cdb_model.specs.Publications.{Publication, publication_of}
use Rattle.cdb_model.specs.Events as machine
use Rattle.cdb_model.specs.Events.{Answer}
use Rattle.cdb_model.specs.KnownStore.{KnownState, Going}
use Rattle.cdb_model.specs.Runs.{Item, Passes}
use Rattle.cdb_model.specs.AnswerTexts.{text_of_answer, tally}

-- ---- by the last state

-- the publication that was begun and isn't complete: the one that is going, or the one that was given up
abbrev pub unfinished : Option Going → Option Publication → List Publication
unfinished (Some now) given_up = now.publication ∷ []
unfinished None given_up = option_to_list given_up

-- all publications that a state knows of: those that are complete, and the one that isn't
abbrev pub begun_by : KnownState → List Publication
begun_by s = s.list ++ unfinished s.going s.halted

-- the publications begun by a run that came from one list to a state, in order
pub record HasBegun (from : List Publication) (s : KnownState) (begun : List Publication) : Type 0 where
  -- those that are complete
  pub complete : List Publication
  pub list_is : s.list ≡ from ++ complete
  pub begun_is : begun ≡ complete ++ unfinished s.going s.halted

-- ---- by the accepted lines `publish`

-- the publication that an answer begins: the sources that were pending
abbrev pub begins : KnownState → Answer → List Publication
begins s (machine.begun version files) = publication_of s.pending ∷ []
begins s _ = []

abbrev pub begins_first : KnownState → List Answer → List Publication
begins_first s [] = []
begins_first s (answer ∷ answers) = begins s answer

-- the publications of the lines `publish` that a run accepts, in order
pub record BeginsFirst (Has : Text → Content → Type 0) (Rest : KnownState → List Answer → List Publication → Type 0)
    (old : KnownState) (item : Item) (answers : List Answer) (begun : List Publication) : Type 0 where
  pub mid : KnownState
  pub now : List Answer
  pub later : List Answer
  pub answers_are : answers ≡ now ++ later
  pub passes : Passes Has old item now mid
  pub others : List Publication
  pub begun_are : begun ≡ begins_first old now ++ others
  pub rest : Rest mid later others

abbrev pub RunBegins : (Text → Content → Type 0) → KnownState → List Item → List Answer → List Publication
    → KnownState → Type 0
RunBegins Has old [] answers begun new = (answers ≡ []) × (begun ≡ []) × (new ≡ old)
RunBegins Has old (item ∷ items) answers begun new =
    BeginsFirst Has (λ mid later others. RunBegins Has mid items later others new) old item answers begun

-- ---- acknowledged

-- how many publications an answer says to be complete
abbrev pub completes : Answer → ℕ
completes (machine.published version) = 1
completes _ = 0

-- the first answers whose texts stand whole, one after another, at the head of what was written
abbrev pub whole_answers : List Answer → Text → List Answer
whole_answers [] written = []
whole_answers (answer ∷ answers) written =
    if starts_with nat_eq written (text_of_answer answer)
    then answer ∷ whole_answers answers (drop (length (text_of_answer answer)) written)
    else []

-- the publications that what was written acknowledges: the first of those begun, as many as there are answers among
-- these that say so
abbrev pub acknowledged : List Publication → List Answer → Text → List Publication
acknowledged begun answers written = take (tally completes (whole_answers answers written)) begun
