-- The line that is kept while it is read.
use Rattle.std.proofs.Common.{◌≡◌, Bool, true, false, cond, length, None, Some, nat_le, refl, ap, subst}
use Rattle.cdb_model.specs.Text.{Text}
use Rattle.cdb_model.specs.Commands as said
use Rattle.cdb_model.specs.Commands.{Command, spoken, line_command}
use Rattle.cdb_model.specs.Grammar.{line_of}
use Rattle.cdb_front.specs.Hearing.{HearsCommand}
use Rattle.cdb_front.specs.Kept.{kept_of}
use Rattle.cdb_front.specs.declared.heard.Heard.{Heard}

-- what is kept says what the line says
kept_said : (kept text : Text) → Some kept ≡ kept_of text → spoken (line_of kept) ≡ line_command text
unfolding line_command
kept_said kept text e = by (nat_le (length text) 4096) e
  where
    by : (b : Bool) → Some kept ≡ cond b (Some text) None
        → spoken (line_of kept) ≡ cond b (spoken (line_of text)) said.overlong
    by true e = let same : kept ≡ text = cc in ap (λ (l : Text). spoken (line_of l)) same
    by false e = cc

-- a line that isn't kept is too long
pub too_long : (text : Text) → None ≡ kept_of text → said.overlong ≡ line_command text
unfolding line_command
too_long text e = by (nat_le (length text) 4096) e
  where
    by : (b : Bool) → None ≡ cond b (Some text) None → said.overlong ≡ cond b (spoken (line_of text)) said.overlong
    by true e = cc
    by false e = refl

-- what is heard in what is kept is heard in the line
pub kept_says : (kept text : Text) (h : Heard) → HearsCommand h (spoken (line_of kept)) → Some kept ≡ kept_of text
    → HearsCommand h (line_command text)
kept_says kept text h says e = subst (HearsCommand h) (kept_said kept text e) says
