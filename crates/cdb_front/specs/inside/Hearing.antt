-- Inside the crate: what the program hears in a line.
use Rattle.cdb_model.specs.declared.line.Line.{Line}
use Rattle.cdb_model.specs.declared.line.Line.TheVariants as line
use Rattle.cdb_front.specs.Hearing.{IsEvent}

-- nor asks for steps
abbrev pub IsStepless : Line → Type 0
IsStepless (line.Step n) = ⊥
IsStepless line.StepAll = ⊥
IsStepless l = IsEvent l
