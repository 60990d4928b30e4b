-- A line of the script is one thing to the program: a sentence with a tile's file name where it has one, a request for
-- a tile whose file name is first wrong at a place, or no line of the grammar. So it is one event of the machine.
use Rattle.std.specs.Prelude.{◌≡◌, Some, Result, Ok, Err}
use Rattle.cdb_model.specs.Grammar.{line_of, sentence_in, IsRefused}
use Rattle.cdb_model.specs.declared.line.Line.{Line}
use Rattle.cdb_model.specs.declared.line_error.LineError.{LineError}
use Rattle.cdb_model.specs.Commands.{Command}
use Rattle.cdb_model.specs.Events.{Event}
use Rattle.cdb_model.specs.Maps.{Content, FileMap}
use Rattle.cdb_model.specs.Runs.{Means}
use Rattle.cdb_model.specs.Text.{Text}

-- what the bytes of a line may be read as
abbrev pub IsReading : Text → Result Line LineError → Type 0
IsReading line (Ok read) = line_of line ≡ Some (sentence_in read)
IsReading line (Err error) = IsRefused error line

-- two readings are the same: they say the same sentence, or refuse for the same reason, at the same place
abbrev pub AreSame : Result Line LineError → Result Line LineError → Type 0
AreSame (Ok a) (Ok b) = sentence_in a ≡ sentence_in b
AreSame (Err a) (Err b) = a ≡ b
AreSame _ _ = ⊥

-- a line has one reading
abbrev pub OneReading : Type 0
OneReading = (line : Text) (a b : Result Line LineError) → IsReading line a → IsReading line b → AreSame a b

-- ---- events

-- the files have this content at the path
abbrev pub has : FileMap → Text → Content → Type 0
has files path content = files path ≡ content

-- what a line says is one event, with the file of a source among these files
abbrev pub OneEvent : Type 0
OneEvent = (files : FileMap) (command : Command) (a b : Event) → Means (has files) a command
    → Means (has files) b command → a ≡ b
