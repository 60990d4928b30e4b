-- A line that asks for no tile says so.
use Rattle.std.proofs.Common.{◌≡◌, ℕ, Option, Some}
use Rattle.cdb_model.specs.declared.line.Line.{Line}
use Rattle.cdb_model.specs.declared.line.Line.TheVariants as line
use Rattle.cdb_model.specs.Text.{Text}
use Rattle.cdb_model.specs.Grammar.{Sentence, tile, sentence_in}
use Rattle.cdb_commands.specs.Meaning.{HasNoName}

pub no_tile : (l : Line) (id : ℕ) (file : Text) → HasNoName l → sentence_in l ≡ tile id file → ⊥
no_tile (line.Tile n t) id file h e = h
no_tile (line.Inline w) id file h e = cc
no_tile (line.Source w) id file h e = cc
no_tile line.Publish id file h e = cc
no_tile (line.Step n) id file h e = cc
no_tile line.StepAll id file h e = cc
no_tile line.Open id file h e = cc
no_tile (line.Close n) id file h e = cc
no_tile line.Versions id file h e = cc
no_tile line.Quit id file h e = cc
no_tile line.Blank id file h e = cc

pub not_a_tile : (l : Line) (id : ℕ) (file : Text) (o : Option Sentence) → HasNoName l → Some (sentence_in l) ≡ o
    → o ≡ Some (tile id file) → ⊥
not_a_tile l id file o h e f = let s : sentence_in l ≡ tile id file = cc in no_tile l id file h s
