-- What the program hears in a line.
use Rattle.std.specs.Prelude.{◌≡◌}
use Rattle.cdb_model.specs.Commands as said
use Rattle.cdb_model.specs.Commands.{Command}
use Rattle.cdb_model.specs.Grammar.{sentence_in}
use Rattle.cdb_model.specs.Lines.{Misnames}
use Rattle.cdb_model.specs.declared.line.Line.{Line}
use Rattle.cdb_model.specs.declared.line.Line.TheVariants as line
use Rattle.cdb_front.specs.declared.heard.Asked.{Asked}
use Rattle.cdb_front.specs.declared.heard.Asked.TheVariants as asked
use Rattle.cdb_front.specs.declared.heard.Heard.{Heard}
use Rattle.cdb_front.specs.declared.heard.Heard.TheVariants as heard

-- a line that is neither blank nor `quit`
abbrev pub IsEvent : Line → Type 0
IsEvent line.Blank = ⊥
IsEvent line.Quit = ⊥
IsEvent _ = Unit {0}

abbrev pub IsAnswered : Asked → Type 0
IsAnswered (asked.Line l) = IsEvent l
IsAnswered _ = Unit {0}

-- the command that a line is that is answered
abbrev pub SaysAsked : Asked → Command → Type 0
SaysAsked (asked.Line l) command = command ≡ said.said (sentence_in l)
SaysAsked asked.Long command = command ≡ said.overlong
SaysAsked asked.Syntax command = command ≡ said.unreadable
SaysAsked (asked.Name place) command = Misnames command place

-- the command that a line is
abbrev pub HearsCommand : Heard → Command → Type 0
HearsCommand heard.Blank command = command ≡ said.blank_line
HearsCommand heard.Quit command = command ≡ said.quit
HearsCommand (heard.Event a) command = SaysAsked a command

abbrev pub IsHeard : Heard → Type 0
IsHeard (heard.Event a) = IsAnswered a
IsHeard _ = Unit {0}
