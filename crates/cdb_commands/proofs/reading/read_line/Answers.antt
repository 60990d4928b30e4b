use Rattle.std.proofs.Common.{sym, subst}
use Rattle.cdb_model.specs.Names.{name}
use Rattle.cdb_model.specs.Text.{Text}
use Rattle.cdb_model.specs.Grammar.{line_of, sentence_in, tile}
use Rattle.cdb_model.specs.Writing.{IsSentence}
use Rattle.cdb_commands.proofs.LineLemmas.{not_a_tile}
use Rattle.cdb_commands.proofs.ReadForms.{line_form}
use Rattle.cdb_commands.proofs.reading.read_line.Goals as goal

pub returns-in-Some-Whole-clause-named : goal.returns-in-Some-Whole-clause-named
returns-in-Some-Whole-clause-named c =
    λ id t h. absurd (not_a_tile c.in-Some-Whole.line id (name t) (line_of c.args.bytes.now)
    (rw c.in-Some-Whole.field-0-is at c.in-Some-Whole.ensures.unread)
    (rw c.in-Some-Whole.field-0-is at c.in-Some-Whole.ensures.said) h)

pub returns-in-Some-Whole-clause-formed : goal.returns-in-Some-Whole-clause-formed
returns-in-Some-Whole-clause-formed c =
    let said = rw c.in-Some-Whole.field-0-is at c.in-Some-Whole.ensures.said in
    line_form c.args.bytes.now (sentence_in c.in-Some-Whole.line) (sym said)

pub returns-in-Ok-clause-formed : goal.returns-in-Ok-clause-formed
returns-in-Ok-clause-formed c =
    let said = rw c.in-Some-Named.field-0-is at c.in-Some-Named.ensures.said in
    let formed : IsSentence (tile c.in-Some-Named.id c.in-Some-Named.file.now) =
    line_form c.args.bytes.now (tile c.in-Some-Named.id c.in-Some-Named.file.now) (sym said) in
    subst (λ (file : Text). IsSentence (tile c.in-Some-Named.id file)) c.in-Ok.ensures.found formed
