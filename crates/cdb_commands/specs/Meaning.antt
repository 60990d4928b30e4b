-- What is read of a line says, in the words of the grammar.
use Rattle.cdb_model.specs.Grammar.{Head, Sentence, tile, sentence_in}
use Rattle.cdb_model.specs.declared.line.Line.{Line}
use Rattle.cdb_model.specs.declared.line.Line.TheVariants as line
use Rattle.cdb_commands.specs.declared.head.Head.{Head as HeadWords}
use Rattle.cdb_commands.specs.declared.parsed.Parsed.{Parsed}
use Rattle.cdb_commands.specs.declared.parsed.Parsed.TheVariants.{Whole, Named}

abbrev pub head_in : HeadWords → Head
head_in h = record { kind = h.kind; level = h.level; lat = h.lat; lon = h.lon; dlat = h.dlat; dlon = h.dlon }

-- what a line says of which the file name is still to be read
abbrev pub parsed_in : Parsed → Sentence
parsed_in (Whole l) = sentence_in l
parsed_in (Named id file) = tile id file.now

-- it asks for no tile
abbrev pub HasNoName : Line → Type 0
HasNoName (line.Tile id t) = ⊥
HasNoName _ = Unit {0}

-- each request for a tile is one of which the file name is still to be read
abbrev pub IsUnread : Parsed → Type 0
IsUnread (Whole l) = HasNoName l
IsUnread (Named id file) = Unit {0}
