-- The files that a step needs, and the first of them that has another size.
use Rattle.std.specs.Prelude.{◌≡◌, ◌≢◌, ℕ, ◌⊎◌, List, [], ◌∷◌, Option, Some, Result, Ok, Err}
use Rattle.cdb_model.specs.Maps.{Text, FileMap, size_of}
use Rattle.cdb_publish.specs.declared.errors.StepError.{StepError}
use Rattle.cdb_publish.specs.declared.errors.StepError.TheVariants.{Fault, Damaged}

-- A file, and the size that its form gives.
pub record Need : Type 0 where
  pub path : Text
  pub size : ℕ

-- Each is there and has this size.
abbrev pub AreSized : FileMap → List Need → Type 0
AreSized m [] = Unit {0}
AreSized m (need ∷ needs) = (size_of (m need.path) ≡ Some need.size) × AreSized m needs

-- The first that isn't so should have one size, and is found with another, or absent.
abbrev pub IsFirstOff : FileMap → List Need → ℕ → Option ℕ → Type 0
IsFirstOff m [] expected found = ⊥
IsFirstOff m (need ∷ needs) expected found =
    ((expected ≡ need.size) × (found ≡ size_of (m need.path)) × (found ≢ Some need.size))
    ⊎ ((size_of (m need.path) ≡ Some need.size) × IsFirstOff m needs expected found)

-- What an answer says of the sizes of these files.
abbrev pub TellsError : FileMap → List Need → StepError → Type 0
TellsError m needs Fault = Unit {0}
TellsError m needs (Damaged expected found) = IsFirstOff m needs expected found

abbrev pub TellsSizes : {T : Type 0} → FileMap → List Need → Result T StepError → Type 0
TellsSizes m needs (Ok v) = AreSized m needs
TellsSizes m needs (Err e) = TellsError m needs e

-- On any disk, a size that is told isn't the one that was expected.
abbrev pub IsDamage : StepError → Type 0
IsDamage Fault = Unit {0}
IsDamage (Damaged expected found) = found ≢ Some expected
