-- When a publication may begin, and which refusal it has else.
use Rattle.std.specs.Prelude.{◌≡◌, ℕ, ◌+◌, ◌<◌, ◌≤◌, List, length}
use Rattle.cdb_grid.specs.declared.tile.Tile.{Tile}
use Rattle.cdb_source.specs.Reached.{IsTouched, IsLoad}
use Rattle.cdb_source.specs.declared.head.SourceHead.{SourceHead}
use Rattle.cdb_source.specs.declared.limits.TheConstants.{MOST_LOAD}
use Rattle.cdb_manifest.specs.declared.record_.Record.{Record}
use Rattle.cdb_publish.specs.Entries.{entries_in}
use Rattle.cdb_publish.specs.declared.errors.PlanError.{PlanError}
use Rattle.cdb_publish.specs.declared.errors.PlanError.TheVariants.{Memory, Large, Entries, Versions}
use Rattle.cdb_model.specs.declared.limits.TheConstants.{MOST_VERSIONS}

-- The load of these sources is within its limit.
pub record IsLight (heads : List SourceHead) : Type 0 where
  pub load : ℕ
  pub load_is : IsLoad heads load
  pub fits : load ≤ MOST_LOAD

-- With them the entries are so many.
pub record MakesEntries (kept : List Record) (heads : List SourceHead) (count : ℕ) : Type 0 where
  pub tiles : List Tile
  pub touched : IsTouched heads tiles
  pub count_is : count ≡ entries_in kept + length tiles

-- What a refusal says, each behind those before it.
abbrev pub RefusesPlan : List Record → List SourceHead → PlanError → Type 0
RefusesPlan kept heads Memory = Unit {0}
RefusesPlan kept heads (Large count) = IsLoad heads count × (MOST_LOAD < count)
RefusesPlan kept heads (Entries count) = IsLight heads × MakesEntries kept heads count × (1000000 < count)
RefusesPlan kept heads Versions = IsLight heads × ((count : ℕ) × MakesEntries kept heads count × (count ≤ 1000000))
    × (length kept ≡ MOST_VERSIONS)

-- What none of them applies to.
abbrev pub IsAccepted : List Record → List SourceHead → Type 0
IsAccepted kept heads = IsLight heads × ((count : ℕ) × MakesEntries kept heads count × (count ≤ 1000000))
    × (length kept < MOST_VERSIONS)
