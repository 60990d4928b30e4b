-- What a line of the script says to the machine.
use Rattle.std.specs.Prelude.{Option, Some, None, length, nat_le, if◌then◌else◌}
use Rattle.cdb_model.specs.Grammar as grammar
use Rattle.cdb_model.specs.Grammar.{Sentence, line_of}
use Rattle.cdb_model.specs.Text.{Text}

-- what a line says: a sentence of the grammar, or why it is none
pub data Command : Type 0 where
  said : Sentence → Command
  -- a line that isn't of the grammar
  unreadable : Command
  -- a line of more than 4,096 bytes
  overlong : Command

-- a blank line, and the line that ends the script
abbrev pub blank_line : Command
blank_line = said grammar.blank

abbrev pub quit : Command
quit = said grammar.quit

-- what a line of at most 4,096 bytes says by its reading, and what any line says
abbrev pub spoken : Option Sentence → Command
spoken None = unreadable
spoken (Some sentence) = said sentence

unfoldable pub line_command : Text → Command
line_command line = if nat_le (length line) 4096 then spoken (line_of line) else overlong
