-- How far a run has come: what was read, answered and written.
use Rattle.std.specs.Prelude.{◌≡◌, ◌≢◌, ℕ, List, [], ◌∷◌, ◌++◌, Option, None, Some}
use Rattle.std.specs.Io.KnownBytes.{Appends}
use Rattle.std.specs.List.{AllByRecursion}
use Rattle.cdb_model.specs.Text.{Text}
use Rattle.cdb_model.specs.Maps.{Content, FileMap}
use Rattle.cdb_model.specs.Commands as said
use Rattle.cdb_model.specs.Commands.{line_command}
use Rattle.cdb_model.specs.Lines.{Cut, HaveNoQuit}
use Rattle.cdb_model.specs.Events as machine
use Rattle.cdb_model.specs.Stores.{Kind, Which, known, any, store_kind, any_store}
use Rattle.cdb_model.specs.Transitions.{StateIn}
use Rattle.cdb_model.specs.KnownStore.{KnownState, start_at}
use Rattle.cdb_model.specs.Runs.{Item, Run, RunIn, PassesIn, items_of}
use Rattle.cdb_model.specs.AnswerTexts.{text_of_answer, texts_of, shelf_fault, disk_fault}
use Rattle.cdb_model.specs.Images.{Base}
use Rattle.cdb_engine.specs.Tracks.{Origin, Leads}
use Rattle.cdb_front.specs.DamagedSizes.{AnswerFindsOther}
use Rattle.cdb_front.specs.Kept.{kept_of}
use Rattle.cdb_front.specs.Stepping.{Counts}
use Rattle.cdb_front.specs.declared.fed.Fed.{Fed}
use Rattle.cdb_front.specs.declared.fed.Fed.TheVariants as fed

-- states of a known store, and of any
abbrev pub Sight : Type 1
Sight = (w : Which) → StateIn (store_kind w) → Type 0

-- what a run began with: the files of the shelf, the counts of failures of shelf and disk, what was written before, the
-- store on the disk, where that is known, the moment at which opening ended, the state that the machine had, whatever
-- the disk holds, and how many steps follow a line
pub record RunStart : Type 0 where
  pub files : FileMap
  pub shelf : ℕ
  pub disk : ℕ
  pub written : Option (List ℕ)
  pub from : Option Base
  pub opened : ℕ
  pub start : StateIn any_store
  pub most : ℕ

-- the store, or an empty one
abbrev pub base_of : Option Base → Base
base_of None = record { list = []; early = []; moment = 0 }
base_of (Some base) = base

-- the store and the moment at which opening ended; which calls of the disk had failed isn't asked
abbrev pub origin_of : RunStart → Origin
origin_of e = record { store = base_of e.from; opened = e.opened; faults = 0 }

-- the state that the machine began with: that of the list of the store, or the one whatever the disk holds
abbrev pub first_state : RunStart → (w : Which) → StateIn (store_kind w)
first_state e known = start_at (base_of e.from).list
first_state e any = e.start

-- the shelf has this content at a path, where it tells
abbrev pub Holds : Type 0 → FileMap → Text → Content → Type 0
Holds tells files path content = tells → content ≡ files path

-- where the store is known, the answers are those of a run from its list over these items, to a state of now
abbrev pub Runs : (Text → Content → Type 0) → Option Base → List Item → List machine.Answer
    → (KnownState → Type 0) → Type 0
Runs Has None items answers Now = Unit {0}
Runs Has (Some base) items answers Now = Leads (Run Has (start_at base.list) items answers) Now

-- whatever the disk holds, the answers are those of a run from its beginning over these items, to a state of now
abbrev pub Ordered : (Text → Content → Type 0) → StateIn any_store → List Item → List machine.Answer
    → (StateIn any_store → Type 0) → Type 0
Ordered Has start items answers Now = Leads (RunIn any_store Has start items answers) Now

-- a run over items came to a state by the last of them, which gave the last answer alone; the items before it gave the
-- answers before that
pub record EndsByAnswer (k : Kind) (Has : Text → Content → Type 0) (old : StateIn k) (items : List Item)
    (answers : List machine.Answer) (new : StateIn k) : Type 0 where
  pub before : List Item
  pub item : Item
  pub items_are : items ≡ before ++ item ∷ []
  pub whole : List machine.Answer
  pub answer : machine.Answer
  pub answers_are : answers ≡ whole ++ answer ∷ []
  pub mid : StateIn k
  pub run : RunIn k Has old before whole mid
  pub passes : PassesIn k Has mid item (answer ∷ []) new

-- states of now to which a run came so
abbrev pub ByAnswer : Type 0 → RunStart → List Item → List machine.Answer → Sight → (w : Which)
    → StateIn (store_kind w) → Type 0
ByAnswer tells e items answers Now w s =
    Now w s × EndsByAnswer (store_kind w) (Holds tells e.files) (first_state e w) items answers s

-- items were gone through and their answers written
pub record Told (tells : Type 0) (e : RunStart) (items : List Item) (written : Option (List ℕ)) (shelf disk : ℕ)
    (Now : Sight) : Type 0 where
  pub answers : List machine.Answer
  pub run : Runs (Holds tells e.files) e.from items answers (Now known)
  pub order : Ordered (Holds tells e.files) e.start items answers (Now any)
  pub shelf_counted : Counts shelf_fault e.shelf shelf answers
  pub disk_counted : Counts disk_fault e.disk disk answers
  pub other : AllByRecursion AnswerFindsOther answers
  pub appended : Appends e.written written (texts_of answers)

-- the same, but for a part of the last answer, which the last item gave
pub record Torn (tells : Type 0) (e : RunStart) (items : List Item) (written : Option (List ℕ)) (shelf disk : ℕ)
    (Now : Sight) : Type 0 where
  pub whole : List machine.Answer
  pub answer : machine.Answer
  pub run : Runs (Holds tells e.files) e.from items (whole ++ answer ∷ [])
      (ByAnswer tells e items (whole ++ answer ∷ []) Now known)
  pub order : Ordered (Holds tells e.files) e.start items (whole ++ answer ∷ [])
      (ByAnswer tells e items (whole ++ answer ∷ []) Now any)
  pub shelf_counted : Counts shelf_fault e.shelf shelf (whole ++ answer ∷ [])
  pub disk_counted : Counts disk_fault e.disk disk (whole ++ answer ∷ [])
  pub other : AllByRecursion AnswerFindsOther (whole ++ answer ∷ [])
  pub part : Text
  pub unwritten : Text
  pub joined : text_of_answer answer ≡ part ++ unwritten
  pub short : unwritten ≢ []
  pub appended : Appends e.written written (texts_of whole ++ part)

-- whole lines were read and answered, and the beginning of the next line is kept
pub record RunSoFar (tells : Type 0) (e : RunStart) (read : Text) (written : Option (List ℕ))
    (shelf disk : ℕ) (Now : Sight)
    (kept : Option (List ℕ)) : Type 0 where
  pub lines : List Text
  pub rest : Text
  pub cut : Cut read lines rest
  pub no_quit : HaveNoQuit lines
  pub told : Told tells e (items_of e.most lines) written shelf disk Now
  pub kept_is : kept ≡ kept_of rest

-- what was read is answered whole, its last line too, which is `quit` or isn't
pub record Answered (tells : Type 0) (e : RunStart) (P : Text → Type 0) (read : Text) (written : Option (List ℕ))
    (shelf disk : ℕ) (Now : Sight) : Type 0 where
  pub lines : List Text
  pub rest : Text
  pub cut : Cut read lines rest
  pub no_quit : HaveNoQuit lines
  pub told : Told tells e (items_of e.most (lines ++ rest ∷ [])) written shelf disk Now
  pub last : P rest

abbrev pub IsQuit : Text → Type 0
IsQuit line = line_command line ≡ said.quit

abbrev pub IsNotQuit : Text → Type 0
IsNotQuit line = line_command line ≢ said.quit

-- all items of the lines before the last one had their turn, and at least the first of the last one
pub record ReachesLast (most : ℕ) (lines : List Text) (items : List Item) : Type 0 where
  pub first : Item
  pub made : List Item
  pub items_are : items ≡ items_of most lines ++ first ∷ made

-- the last answer to what was read wasn't written whole; some items of the last line may not have come to their turn
pub record Broken (tells : Type 0) (e : RunStart) (read : Text) (written : Option (List ℕ)) (shelf disk : ℕ)
    (Now : Sight) : Type 0 where
  pub lines : List Text
  pub rest : Text
  pub cut : Cut read lines rest
  pub no_quit : HaveNoQuit lines
  pub items : List Item
  pub unmade : List Item
  pub items_are : items_of e.most (lines ++ rest ∷ []) ≡ items ++ unmade
  pub reaches : ReachesLast e.most lines items
  pub torn : Torn tells e items written shelf disk Now

-- a line was taken
abbrev pub TakesLine : Type 0 → RunStart → Fed → Text → Option (List ℕ) → ℕ → ℕ → Sight → Type 0
TakesLine tells e fed.More read written shelf disk Now = Answered tells e IsNotQuit read written shelf disk Now
TakesLine tells e fed.Quit read written shelf disk Now = Answered tells e IsQuit read written shelf disk Now
TakesLine tells e fed.Failed read written shelf disk Now = Broken tells e read written shelf disk Now

-- a piece was taken up to a line feed of it
pub record UpTo (piece : Text) (X : Text → Type 0) : Type 0 where
  pub front : Text
  pub back : Text
  pub joined : piece ≡ front ++ 10 ∷ back
  pub reached : X front

abbrev pub TakesPiece : Type 0 → RunStart → Fed → Text → Text → Option (List ℕ) → ℕ → ℕ → Sight
    → Option (List ℕ) → Type 0
TakesPiece tells e fed.More read piece written shelf disk Now kept = RunSoFar tells e (read ++ piece) written
    shelf disk Now kept
TakesPiece tells e fed.Quit read piece written shelf disk Now kept = UpTo piece
    (λ front. Answered tells e IsQuit (read ++ front) written shelf disk Now)
TakesPiece tells e fed.Failed read piece written shelf disk Now kept = UpTo piece
    (λ front. Broken tells e (read ++ front) written shelf disk Now)

-- ---- a line and the steps after it
