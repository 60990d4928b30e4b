-- What the maps of files that a crash may leave stand for, in a run and at its end.
use Rattle.std.specs.Prelude.{◌≡◌, ◌⊎◌, ℕ, List, [], ◌∷◌, ◌++◌}
use Rattle.cdb_model.specs.Maps.{FileMap}
use Rattle.cdb_model.specs.Publications.{Publication}
use Rattle.cdb_model.specs.Stands.{Stands}

-- a map stands for a list followed by the first of the publications begun
pub record StandsFrom (from begun : List Publication) (m : FileMap) : Type 0 where
  pub first : List Publication
  pub later : List Publication
  pub joined : begun ≡ first ++ later
  pub stands : Stands m (from ++ first)

-- the same, with all that were to be kept among the first
pub record StandsKept (from begun kept : List Publication) (m : FileMap) : Type 0 where
  pub first : List Publication
  pub later : List Publication
  pub more : List Publication
  pub joined : begun ≡ first ++ later
  pub holds : first ≡ kept ++ more
  pub stands : Stands m (from ++ first)

-- a map stands for one of some lists
abbrev pub StandsForOne : List (List Publication) → FileMap → Type 0
StandsForOne [] m = ⊥
StandsForOne (list ∷ lists) m = Stands m list ⊎ StandsForOne lists m

-- one of two lists has one publication more than the other
abbrev pub IsNext : List Publication → Publication → List Publication → List Publication → Type 0
IsNext shorter x list other =
    ((list ≡ shorter) × (other ≡ shorter ++ x ∷ [])) ⊎ ((list ≡ shorter ++ x ∷ []) × (other ≡ shorter))

-- what a run began with: the list that the store has, the other lists that a crash may leave up to the end of opening,
-- and the moment
pub record Base : Type 0 where
  pub list : List Publication
  pub early : List (List Publication)
  pub moment : ℕ

-- whatever a crash leaves since the moment stands for the list followed by the first of the publications begun; before
-- the end of opening it may stand for one of the early lists
abbrev pub StandsSince : Base → List Publication → FileMap → Type 0
StandsSince base begun m = StandsFrom base.list begun m ⊎ StandsForOne base.early m
