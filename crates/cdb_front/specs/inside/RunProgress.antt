-- Inside the crate: how far a run has come: what was read, answered and written.
use Rattle.std.specs.Prelude.{◌≡◌, ℕ, List, [], ◌∷◌, ◌++◌, Option}
use Rattle.std.specs.Io.KnownBytes.{Appends}
use Rattle.std.specs.List.{AllByRecursion}
use Rattle.cdb_model.specs.Text.{Text}
use Rattle.cdb_model.specs.Maps.{FileMap}
use Rattle.cdb_model.specs.Events as machine
use Rattle.cdb_model.specs.Stores.{Which, store_kind}
use Rattle.cdb_model.specs.Transitions.{StateIn}
use Rattle.cdb_model.specs.Runs.{Item, PassesIn}
use Rattle.cdb_model.specs.AnswerTexts.{text_of_answer, texts_of, shelf_fault, disk_fault}
use Rattle.cdb_front.specs.DamagedSizes.{AnswerFindsOther}
use Rattle.cdb_front.specs.Devices.{WritesPart}
use Rattle.cdb_engine.specs.Tracks.{Leads}
use Rattle.cdb_front.specs.Stepping.{Counts}
use Rattle.cdb_front.specs.declared.fed.Fed.{Fed}
use Rattle.cdb_front.specs.declared.fed.Fed.TheVariants as fed
use Rattle.cdb_front.specs.RunProgress.{Answered, Broken, Holds, IsQuit, RunSoFar, RunStart, Sight, Told, Torn}

-- one item was gone through and its answers written, or a part of its one answer
pub record Speaks (tells : Type 0) (files : FileMap) (item : Item) (before now : Option (List ℕ))
    (shelf shelf' disk disk' : ℕ) (Old New : Sight) : Type 0 where
  pub answers : List machine.Answer
  pub passes : (w : Which) (s : StateIn (store_kind w)) → Old w s
      → Leads (PassesIn (store_kind w) (Holds tells files) s item answers) (New w)
  pub shelf_counted : Counts shelf_fault shelf shelf' answers
  pub disk_counted : Counts disk_fault disk disk' answers
  pub other : AllByRecursion AnswerFindsOther answers
  pub written : Appends before now (texts_of answers)

pub record Stammers (tells : Type 0) (files : FileMap) (item : Item) (before now : Option (List ℕ))
    (shelf shelf' disk disk' : ℕ) (Old New : Sight) : Type 0 where
  pub answer : machine.Answer
  pub passes : (w : Which) (s : StateIn (store_kind w)) → Old w s
      → Leads (PassesIn (store_kind w) (Holds tells files) s item (answer ∷ [])) (New w)
  pub shelf_counted : Counts shelf_fault shelf shelf' (answer ∷ [])
  pub disk_counted : Counts disk_fault disk disk' (answer ∷ [])
  pub other : AnswerFindsOther answer
  pub written : WritesPart before now (text_of_answer answer)

abbrev pub SpeaksFed : Type 0 → FileMap → Fed → Item → Option (List ℕ) → Option (List ℕ) → ℕ → ℕ → ℕ → ℕ → Sight
    → Sight → Type 0
SpeaksFed tells files fed.More item before now shelf shelf' disk disk' Old New = Speaks tells files item before now
    shelf shelf' disk disk' Old New
SpeaksFed tells files fed.Failed item before now shelf shelf' disk disk' Old New = Stammers tells files item before now
    shelf shelf' disk disk' Old New
SpeaksFed tells files fed.Quit item before now shelf shelf' disk disk' Old New = ⊥

-- a byte was taken
abbrev pub TakesByte : Type 0 → RunStart → Fed → Text → ℕ → Option (List ℕ) → ℕ → ℕ → Sight → Option (List ℕ) → Type 0
TakesByte tells e fed.More read byte written shelf disk Now kept = RunSoFar tells e (read ++ byte ∷ []) written
    shelf disk Now kept
TakesByte tells e fed.Quit read byte written shelf disk Now kept = Answered tells e IsQuit read written shelf disk Now
TakesByte tells e fed.Failed read byte written shelf disk Now kept = Broken tells e read written shelf disk Now

-- a line was answered, but for a part of the last answer
pub record TornIn (tells : Type 0) (e : RunStart) (items more : List Item) (written : Option (List ℕ)) (shelf disk : ℕ)
    (Now : Sight) : Type 0 where
  pub first : Item
  pub made : List Item
  pub unmade : List Item
  pub joined : more ≡ first ∷ made ++ unmade
  pub torn : Torn tells e (items ++ first ∷ made) written shelf disk Now

abbrev pub TellsFed : Type 0 → RunStart → Fed → List Item → List Item → Option (List ℕ) → ℕ → ℕ → Sight → Type 0
TellsFed tells e fed.More items more written shelf disk Now = Told tells e (items ++ more) written shelf disk Now
TellsFed tells e fed.Quit items more written shelf disk Now = ⊥
TellsFed tells e fed.Failed items more written shelf disk Now = TornIn tells e items more written shelf disk Now
