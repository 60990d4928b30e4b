use Rattle.std.proofs.Common.{sym, ◌∙◌}
use Rattle.cdb_front.proofs.Lines.{kept_says, too_long}
use Rattle.cdb_front.proofs.read_kept.read_kept.Goals as goal

pub returns-in-Some-clause-said : goal.returns-in-Some-clause-said
returns-in-Some-clause-said c = λ text e. kept_says c.in-Some.bytes.now text c.hear.result c.hear.ensures.said
    (c.in-Some.ensures ∙ e)

pub returns-in-None-clause-said : goal.returns-in-None-clause-said
returns-in-None-clause-said c = λ text e. sym (too_long text (c.in-None.ensures ∙ e))
