-- A line has one reading.
use Rattle.std.proofs.Common.{◌≡◌, ℕ, Option, Some, None, Ok, Err, refl, ap, sym, subst, ◌∙◌}
use Rattle.std.proofs.lemmas.Option.{same_Some}
use Rattle.cdb_model.specs.declared.line.Line.{Line}
use Rattle.cdb_model.specs.declared.line.Line.TheVariants as line
use Rattle.cdb_model.specs.declared.line_error.LineError.TheVariants.{Syntax, Name}
use Rattle.cdb_model.specs.Grammar.{Sentence, tile, line_of, sentence_in, IsMisnamed}
use Rattle.cdb_model.specs.Names.{name, name_fields, FirstWrong}
use Rattle.cdb_model.specs.Text.{Text}
use Rattle.cdb_names.proofs.NameResults.{one_wrong_in_name, none_in_name}
use Rattle.cdb_commands.specs.Settled.{OneReading}
use Rattle.cdb_commands.proofs.LineLemmas.{no_tile}

same_sentence : (o : Option Sentence) (a b : Sentence) → o ≡ Some a → o ≡ Some b → a ≡ b
same_sentence o a b p q = same_Some a b (sym p ∙ q)

some_none : (o : Option Sentence) (a : Sentence) → o ≡ Some a → o ≡ None → ⊥
some_none o a p q = let both : Some a ≡ None = sym p ∙ q in cc both

-- requests for a tile by the same sentence have the same file name
same_file : (id k : ℕ) (file other : Text) → tile id file ≡ tile k other → file ≡ other
same_file id k file other e = cc

-- a line whose file name is wrong at a place isn't read as a line
not_read : (l : Line) (id : ℕ) (file : Text) (place : ℕ) → sentence_in l ≡ tile id file
    → FirstWrong name_fields file place → ⊥
not_read (line.Tile n t) id file place e w =
    none_in_name t place (subst (λ (x : Text). FirstWrong name_fields x place) (sym (same_file n id (name t) file e)) w)
not_read (line.Inline w) id file place e x = no_tile (line.Inline w) id file tt e
not_read (line.Source w) id file place e x = no_tile (line.Source w) id file tt e
not_read line.Publish id file place e x = no_tile line.Publish id file tt e
not_read (line.Step n) id file place e x = no_tile (line.Step n) id file tt e
not_read line.StepAll id file place e x = no_tile line.StepAll id file tt e
not_read line.Open id file place e x = no_tile line.Open id file tt e
not_read (line.Close n) id file place e x = no_tile (line.Close n) id file tt e
not_read line.Versions id file place e x = no_tile line.Versions id file tt e
not_read line.Quit id file place e x = no_tile line.Quit id file tt e
not_read line.Blank id file place e x = no_tile line.Blank id file tt e

-- a line misnames a tile at one place
pub one_misnaming : (line : Text) (p q : ℕ) → IsMisnamed line p → IsMisnamed line q → p ≡ q
one_misnaming line p q a b =
    let file =
    same_file a.id b.id a.file b.file (same_sentence (line_of line) (tile a.id a.file) (tile b.id b.file)
    a.says b.says) in
    one_wrong_in_name a.file p q a.wrong (subst (λ (x : Text). FirstWrong name_fields x q) (sym file) b.wrong)

pub one_reading : OneReading
one_reading line (Ok a) (Ok b) p q = same_sentence (line_of line) (sentence_in a) (sentence_in b) p q
one_reading line (Ok a) (Err Syntax) p q = some_none (line_of line) (sentence_in a) p q
one_reading line (Ok a) (Err (Name place)) p q =
    not_read a q.id q.file place (same_sentence (line_of line) (sentence_in a) (tile q.id q.file) p q.says) q.wrong
one_reading line (Err Syntax) (Ok b) p q = some_none (line_of line) (sentence_in b) q p
one_reading line (Err (Name place)) (Ok b) p q =
    not_read b p.id p.file place (same_sentence (line_of line) (sentence_in b) (tile p.id p.file) q p.says) p.wrong
one_reading line (Err Syntax) (Err Syntax) p q = refl
one_reading line (Err Syntax) (Err (Name place)) p q = absurd (some_none (line_of line) (tile q.id q.file) q.says p)
one_reading line (Err (Name place)) (Err Syntax) p q = absurd (some_none (line_of line) (tile p.id p.file) p.says q)
one_reading line (Err (Name a)) (Err (Name b)) p q = ap Name (one_misnaming line a b p q)
