use Rattle.std.proofs.Common.{subst, ◌∙◌}
use Rattle.std.specs.Io.KnownBytes.{Appends}
use Rattle.cdb_front.specs.Devices.{WritesPart}
use Rattle.cdb_front.specs.RunOutcome.{is_whole, is_part}
use Rattle.cdb_front.proofs.end_run.end.Goals as goal

pub returns-in-Ok-clause-ends : goal.returns-in-Ok-clause-ends
returns-in-Ok-clause-ends g c =
    is_whole (subst (Appends (g.O.Output.written c.args.output.now) (g.O.Output.written c.write_all.new.output))
    (c.as_bytes.ensures.value ∙ c.as_str.ensures.value ∙ c.line_of-line.ensures) c.in-Ok.ensures.ok)

pub returns-in-Err-clause-ends : goal.returns-in-Err-clause-ends
returns-in-Err-clause-ends g c =
    is_part (subst (WritesPart (g.O.Output.written c.args.output.now) (g.O.Output.written c.write_all.new.output))
    (c.as_bytes.ensures.value ∙ c.as_str.ensures.value ∙ c.line_of-line.ensures) c.in-Err.ensures.err)
