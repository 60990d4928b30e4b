-- The files that a step needs, and what its answer says of them.
use Rattle.std.specs.Prelude.{◌≡◌, ℕ, ◌+◌, ◌<◌, ◌≤◌, List, [], length, slice_get, Some, Result}
use Rattle.cdb_grid.specs.declared.tile.Tile.{Tile}
use Rattle.cdb_manifest.specs.declared.record_.Record.{Record}
use Rattle.cdb_model.specs.Maps.{FileMap}
use Rattle.cdb_publish.specs.Needs.{Need, TellsSizes}
use Rattle.cdb_publish.specs.TileFiles.{TileNeeds}
use Rattle.cdb_publish.specs.declared.errors.StepError.{StepError}
use Rattle.cdb_publish.specs.declared.plan.Plan.{Plan}

-- The files that the step of this number needs, of which a fact holds: those of its tile, or none.
pub data StepNeeds (p : Plan) (kept : List Record) (number : ℕ) (Fact : List Need → Type 0) : Type 0 where
  none : ((i : ℕ) → number ≡ length p.record.heads + i → i < length p.record.tiles → ⊥) → Fact []
      → StepNeeds p kept number Fact
  of_tile : (i : ℕ) (t : Tile) → number ≡ length p.record.heads + i → slice_get p.record.tiles i ≡ Some t
      → TileNeeds p kept t Fact → StepNeeds p kept number Fact

-- What a step's answer says of the sizes of these files, where the disk tells, and how often it reads.
abbrev pub SizesTold : {T : Type 0} → Type 0 → FileMap → Plan → List Record → ℕ → ℕ → ℕ → Result T StepError → Type 0
SizesTold Tells m p kept number before after result =
    StepNeeds p kept number (λ needs. (Tells → TellsSizes m needs result) × (after ≤ before + length needs))
