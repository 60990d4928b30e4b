-- The lines of an input, and the line that misnames a tile.
use Rattle.std.specs.Prelude.{◌≡◌, ◌≢◌, ℕ, List, [], ◌∷◌, ◌++◌}
use Rattle.std.specs.List.{flat_map}
use Rattle.cdb_model.specs.Text.{Text, ended}
use Rattle.cdb_model.specs.Names.{name_fields, FirstWrong}
use Rattle.cdb_model.specs.Grammar as grammar
use Rattle.cdb_model.specs.Commands as said
use Rattle.cdb_model.specs.Commands.{Command, line_command}

abbrev pub HasNoFeed : Text → Type 0
HasNoFeed [] = Unit {0}
HasNoFeed (c ∷ rest) = (c ≢ 10) × HasNoFeed rest

abbrev pub HaveNoFeed : List Text → Type 0
HaveNoFeed [] = Unit {0}
HaveNoFeed (line ∷ lines) = HasNoFeed line × HaveNoFeed lines

-- bytes cut at their line feeds: the whole lines, and what stands after the last line feed
pub record Cut (bytes : Text) (lines : List Text) (rest : Text) : Type 0 where
  pub joined : bytes ≡ flat_map ended lines ++ rest
  pub whole : HaveNoFeed lines
  pub open_end : HasNoFeed rest

abbrev pub HaveNoQuit : List Text → Type 0
HaveNoQuit [] = Unit {0}
HaveNoQuit (line ∷ lines) = (line_command line ≢ said.quit) × HaveNoQuit lines

-- a request for a tile whose file name isn't one: the name's first wrong field begins at this place
pub record Misnames (command : Command) (place : ℕ) : Type 0 where
  pub id : ℕ
  pub file : Text
  pub says : command ≡ said.said (grammar.tile id file)
  pub wrong : FirstWrong name_fields file place
