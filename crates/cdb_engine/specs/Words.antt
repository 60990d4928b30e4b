-- The words of a source's head, and a source whose rows come one after another.
use Rattle.std.specs.Prelude.{ℕ}
use Rattle.cdb_source.specs.declared.head.SourceHead.{SourceHead}
use Rattle.cdb_model.specs.Grammar.{Head}
use Rattle.cdb_model.specs.Spelled.{SpellsHead}
use Rattle.cdb_engine.specs.declared.head_words.HeadWords.{HeadWords}

-- what the words of a head say
abbrev pub head_of_words : HeadWords → Head
head_of_words w = record { kind = w.kind; level = w.level; lat = w.lat; lon = w.lon; dlat = w.dlat; dlon = w.dlon }

-- words give no head of so many rows and columns
abbrev pub SpellsNoHead : Head → ℕ → ℕ → Type 0
SpellsNoHead w rows cols = (head : SourceHead) → SpellsHead w rows cols head → ⊥
