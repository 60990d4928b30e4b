-- What is left of a line while it is read, as a list of words.
use Rattle.std.specs.Prelude.{List, [], Option, Some, None, option_map, option_copied}
use Rattle.cdb_model.specs.Text.{Text}
use Rattle.cdb_model.specs.Words.{words}
use Rattle.cdb_commands.specs.declared.words.Words.{Words}

-- the words of a text that is left, if one is
abbrev pub words_in : Option Text → List Text
words_in None = []
words_in (Some text) = words text

-- the words that are left
abbrev pub left : Words → List Text
left w = words_in (option_copied w.rest)

-- what was read, and the words that are left after it
abbrev pub read_before : {X : Type 0} → Option (X × Words) → Option (X × List Text)
read_before r = option_map (λ p. (p.0, left p.1)) r
