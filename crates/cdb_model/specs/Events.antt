-- What a line asks of the program, and what the program says to it and of the steps after it.
use Rattle.std.specs.Prelude.{◌≡◌, ℕ, List, Option}
use Rattle.cdb_grid.specs.declared.tile.Tile.{Tile}
use Rattle.cdb_tiff_base.specs.declared.tiff_cause.TiffCause.{TiffCause}
use Rattle.cdb_model.specs.Grammar.{InlineSource, FileSource}
use Rattle.cdb_model.specs.Maps.{Content}

-- what a line asks
pub data Event : Type 0 where
  -- a source whose posts stand in the line
  inline_line : InlineSource → Event
  -- a source whose posts a file holds, and what the file has, if it is there
  source_line : FileSource → Content → Event
  publish_line : Event
  -- so many steps of the publication that is going, or all that are left
  step_line : ℕ → Event
  step_all_line : Event
  open_line : Event
  tile_line : ℕ → Tile → Event
  close_line : ℕ → Event
  versions_line : Event
  -- lines that ask nothing: of more than 4,096 bytes, not of the grammar, with a file name whose first wrong field
  -- begins at a place
  overlong : Event
  unreadable : Event
  misnamed : ℕ → Event

-- what is said to a line
pub data Answer : Type 0 where
  source : ℕ → Answer
  begun : ℕ → ℕ → Answer
  -- a publication goes on
  going : Answer
  published : ℕ → Answer
  session : ℕ → ℕ → Answer
  missing : Answer
  tile : List ℕ → Answer
  closed : Answer
  versions : ℕ → Answer
  -- the refusals, in their order
  long : Answer
  syntax : Answer
  name : ℕ → Answer
  halted : Answer
  busy : Answer
  unknown : Answer
  many : Answer
  nothing : Answer
  full : Answer
  shelf : Answer
  absent : Answer
  too_big : Answer
  input : TiffCause → Answer
  range : Answer
  large : ℕ → Answer
  entries : ℕ → Answer
  full_of_versions : Answer
  fault : Answer
  damaged : ℕ → Option ℕ → Answer
  -- memory is wanting, which may stand in the place of some of these
  memory : Answer
  -- what is said of a step that no line asked for
  late_fault : Answer
  late_damaged : ℕ → Option ℕ → Answer

-- the answers to lines that ask nothing
abbrev pub IsLong : Answer → Type 0
IsLong long = Unit {0}
IsLong _ = ⊥

abbrev pub IsSyntax : Answer → Type 0
IsSyntax syntax = Unit {0}
IsSyntax _ = ⊥

abbrev pub IsName : ℕ → Answer → Type 0
IsName place (name at) = at ≡ place
IsName place _ = ⊥
