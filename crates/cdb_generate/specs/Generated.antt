-- What a generator leaves in a store and writes, by the list that the store had and by its start.
use Rattle.std.specs.Prelude.{◌≡◌, ℕ, ◌+◌, ◌≤◌, ℤ, List, [], ◌∷◌, ◌++◌, length, codes}
use Rattle.std.specs.Fmt.{signed_decimal}
use Rattle.cdb_model.specs.Text.{Text, ended, numbered}
use Rattle.cdb_model.specs.Maps.{FileMap}
use Rattle.cdb_model.specs.Publications.{Publication, IsEntryCount}
use Rattle.cdb_model.specs.Stands.{Stands}
use Rattle.cdb_model.specs.Images.{Base, StandsSince}
use Rattle.cdb_generate.specs.Generator.{AreDrawn, passed}
use Rattle.cdb_generate.specs.Sums.{IsSum}

-- ---- the lines

-- the newest version, how many files of tiles were made, and the sum of the values in them
abbrev pub versions_line : ℕ → Text
versions_line newest = ended (numbered (codes "versions") (newest ∷ []))

abbrev pub files_line : ℕ → Text
files_line files = ended (numbered (codes "files") (files ∷ []))

abbrev pub sum_line : ℤ → Text
sum_line sum = ended (codes "sum " ++ signed_decimal sum)

abbrev pub summary_text : ℕ → ℕ → ℤ → Text
summary_text newest files sum = versions_line newest ++ files_line files ++ sum_line sum

-- ---- the publications

-- publications begun are the first of the generator's, and at most so many; whatever a crash leaves since the beginning
-- stands for the list followed by the first of them
pub record Generates (base : Base) (start count : ℕ) (Since : FileMap → Type 0) (made : List Publication) : Type 0 where
  pub drawn : AreDrawn start made
  pub few : length made ≤ count
  pub since : (m : FileMap) → Since m → StandsSince base made m

-- the lines for so many publications after a list: the newest version, the files and the sum
pub record TellsLines (from made : List Publication) (count : ℕ) (wrote : Text) : Type 0 where
  pub files : ℕ
  pub files_are : IsEntryCount made files
  pub sum : ℤ
  pub sum_is : IsSum from made sum
  pub lines : wrote ≡ summary_text (length from + count) files sum

-- all of them are made, a crash leaves them all, and the lines tell of them
pub record Summary (from made : List Publication) (count : ℕ) (Left : FileMap → Type 0) (wrote : Text) : Type 0 where
  pub all : length made ≡ count
  pub at_exit : (m : FileMap) → Left m → Stands m (from ++ made)
  pub tells : TellsLines from made count wrote

-- between two publications: so many are made and complete, with their files and their sum
pub record GeneratedSoFar (from : List Publication) (start state done files : ℕ) (sum : ℤ)
    (list : List Publication) : Type 0 where
  pub made : List Publication
  pub list_is : list ≡ from ++ made
  pub counted : length made ≡ done
  pub state_is : state ≡ passed done start
  pub drawn : AreDrawn start made
  pub files_are : IsEntryCount made files
  pub sum_is : IsSum from made sum
