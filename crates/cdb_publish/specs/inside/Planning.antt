-- Inside the crate: when a publication may begin, and which refusal it has else.
use Rattle.std.specs.Prelude.{ℕ, ◌+◌, ◌<◌, List, [], ◌∷◌, ◌++◌, map, zero, suc, if◌then◌else◌}
use Rattle.std.specs.List.{list_any}
use Rattle.std.specs.Str.{bytes_eq}
use Rattle.cdb_grid.specs.declared.tile.Tile.{Tile}
use Rattle.cdb_source.specs.Reached.{IsLoad}
use Rattle.cdb_source.specs.declared.head.SourceHead.{SourceHead}
use Rattle.cdb_source.specs.declared.limits.TheConstants.{MOST_LOAD}
use Rattle.cdb_model.specs.Maps.{Text}
use Rattle.cdb_model.specs.Names.{source_path, path}
use Rattle.cdb_publish.specs.declared.errors.PlanError.{PlanError}
use Rattle.cdb_publish.specs.declared.errors.PlanError.TheVariants.{Memory, Large, Entries, Versions}

-- What the first refusals say.
abbrev pub IsTooHeavy : List SourceHead → PlanError → Type 0
IsTooHeavy heads Memory = Unit {0}
IsTooHeavy heads (Large count) = IsLoad heads count × (MOST_LOAD < count)
IsTooHeavy heads (Entries count) = ⊥
IsTooHeavy heads Versions = ⊥

-- The paths of a publication's files but its record's, by their numbers.
abbrev pub source_paths_from : ℕ → ℕ → ℕ → List Text
source_paths_from version from zero = []
source_paths_from version from (suc count) = source_path version from ∷ source_paths_from version (from + 1) count

abbrev pub paths_in : ℕ → ℕ → List Tile → List Text
paths_in version sources tiles = source_paths_from version 1 sources ++ map (path version) tiles

-- A text more at the end, where it isn't among them.
abbrev pub once_more : List Text → Text → List Text
once_more texts text = if list_any (λ other. bytes_eq other text) texts then texts else texts ++ text ∷ []
