use Rattle.cdb_publish.proofs.StepCounts.{counted}
use Rattle.cdb_publish.proofs.laws.steps_are_counted.Goals as goal

pub returns : goal.returns
returns c = counted
