-- A file that is called damaged has another size than the one that is expected of it, or isn't there, whatever the disk
-- holds and whether it tells it.
use Rattle.std.specs.Prelude.{◌≢◌, Some}
use Rattle.cdb_sessions.specs.declared.errors.TileError.{TileError}
use Rattle.cdb_sessions.specs.declared.errors.TileError.TheVariants as tile
use Rattle.cdb_engine.specs.declared.errors.AdvanceError.{AdvanceError}
use Rattle.cdb_engine.specs.declared.errors.AdvanceError.TheVariants as advance
use Rattle.cdb_engine.specs.declared.errors.PopulateError.{PopulateError}
use Rattle.cdb_engine.specs.declared.errors.PopulateError.TheVariants as populate

-- a file that a step needs
abbrev pub StepFindsOther : AdvanceError → Type 0
StepFindsOther (advance.Damaged expected found) = found ≢ Some expected
StepFindsOther _ = Unit {0}

-- the file of a tile that is asked for
abbrev pub TileFindsOther : TileError → Type 0
TileFindsOther (tile.Damaged expected found) = found ≢ Some expected
TileFindsOther _ = Unit {0}

-- a file that is read while publications of the generator are made
abbrev pub FillFindsOther : PopulateError → Type 0
FillFindsOther (populate.Damaged expected found) = found ≢ Some expected
FillFindsOther _ = Unit {0}
