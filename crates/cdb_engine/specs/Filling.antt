-- What a generator's publications leave in a store, one after another.
use Rattle.std.specs.Prelude.{◌≡◌, ◌⊎◌, ℕ, ◌+◌, ◌<◌, ℤ, List, [], ◌∷◌, ◌++◌, length, Result, Ok, Err, IfOk, IfErr}
use Rattle.cdb_model.specs.Images.{Base, StandsFrom}
use Rattle.cdb_model.specs.Maps.{FileMap}
use Rattle.cdb_model.specs.Publications.{Publication, IsEntryCount}
use Rattle.cdb_model.specs.Stands.{Stands}
use Rattle.cdb_model.specs.Stores.{Which, known, any, store_kind}
use Rattle.cdb_model.specs.Transitions.{StateIn}
use Rattle.cdb_generate.specs.Generated.{Generates, GeneratedSoFar}
use Rattle.cdb_generate.specs.Generator.{AreDrawn, passed}
use Rattle.cdb_generate.specs.Sums.{IsSum}
use Rattle.cdb_engine.specs.Populating.{IsAtRest, StopsBy}
use Rattle.cdb_engine.specs.declared.errors.PopulateError.{PopulateError}
use Rattle.cdb_engine.specs.declared.errors.PopulateError.TheVariants.{Memory, Damaged}
use Rattle.cdb_engine.specs.declared.filling.Made.{Made}

-- ---- a store that is known, and any

-- the first publications that are drawn from a start, so many, touch so many tiles together
pub record IsDrawnFileCount (start count files : ℕ) : Type 0 where
  pub drawn : List Publication
  pub are_drawn : AreDrawn start drawn
  pub number : length drawn ≡ count
  pub files_are : IsEntryCount drawn files

-- so many publications of the generator came after a list, with so many files and their sum; the sum is known where
-- the publications of the list are
abbrev pub ComeAfter : (w : Which) → (store_kind w).Listed → ℕ → ℕ → ℕ → ℤ → (store_kind w).Listed → Type 0
ComeAfter known from start done files sum list = GeneratedSoFar from start (passed done start) done files sum list
ComeAfter any from start done files sum list =
    (list.versions ≡ from.versions + done) × (list.entries ≡ from.entries + files) × IsDrawnFileCount start done files

-- they are complete, and nothing is pending, going or open
pub record AreMade (w : Which) (old : StateIn (store_kind w)) (start done files : ℕ) (sum : ℤ)
    (new : StateIn (store_kind w)) : Type 0 where
  pub follow : ComeAfter w old.list start done files sum new.list
  pub at_rest : IsAtRest (store_kind w) new

-- fewer than were wanted are complete; why there is no further one, and how far that came
pub record StopsAfter (w : Which) (old : StateIn (store_kind w)) (start count : ℕ) (error : PopulateError)
    (new : StateIn (store_kind w)) : Type 0 where
  pub done : ℕ
  pub fewer : done < count
  pub files : ℕ
  pub sum : ℤ
  pub mid : StateIn (store_kind w)
  pub made : AreMade w old start done files sum mid
  pub stops : StopsBy w mid (passed done start) error new

-- all of them are made, and the newest version is told; or there was no memory to begin with, or they stopped
abbrev pub PopulatesIn : (w : Which) → StateIn (store_kind w) → ℕ → ℕ → Result Made PopulateError
    → StateIn (store_kind w) → Type 0
PopulatesIn w old start count (Ok made) new =
    AreMade w old start count made.files made.sum new × (made.versions ≡ (store_kind w).versions new.list)
PopulatesIn w old start count (Err error) new =
    ((error ≡ Memory) × (new ≡ old)) ⊎ StopsAfter w old start count error new

-- ---- a store that is known, from its beginning

-- all are made, a crash leaves them all, and their number, their files and their sum are those that are told
pub record FillsWith (base : Base) (count : ℕ) (Left : FileMap → Type 0) (list : List Publication) (made : Made)
    : Type 0 where
  pub all : length list ≡ count
  pub at_exit : (m : FileMap) → Left m → Stands m (base.list ++ list)
  pub versions_are : made.versions ≡ length base.list + count
  pub files_are : IsEntryCount list made.files
  pub sum_is : IsSum base.list list made.sum

-- no file of it is damaged
abbrev pub IsUndamaged : PopulateError → Type 0
IsUndamaged (Damaged expected found) = ⊥
IsUndamaged _ = Unit {0}

-- a map stands for a list followed by all publications that were begun, or by all but the last
pub data StandsButLast (from begun : List Publication) (m : FileMap) : Type 0 where
  with_all : Stands m (from ++ begun) → StandsButLast from begun m
  but_last : (first : List Publication) (last : Publication) → begun ≡ first ++ last ∷ [] → Stands m (from ++ first)
      → StandsButLast from begun m

-- whatever came of it, the publications begun are the first of the generator's; whatever a crash since opening ended
-- leaves stands for the list followed by the first of them, and whatever it leaves now, by all but at most the last
pub record Populates (base : Base) (start count : ℕ) (Since SinceOpened Left : FileMap → Type 0)
    (result : Result Made PopulateError) : Type 0 where
  pub begun : List Publication
  pub generates : Generates base start count Since begun
  pub later_images : (m : FileMap) → SinceOpened m → StandsFrom base.list begun m
  pub left : (m : FileMap) → Left m → StandsButLast base.list begun m
  pub filled : IfOk result (FillsWith base count Left begun)
  pub undamaged : IfErr result IsUndamaged
