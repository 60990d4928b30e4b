use Rattle.cdb_model.proofs.ManySteps as law
use Rattle.cdb_model.proofs.laws.many_steps.Goals as goal

pub returns : goal.returns
returns c = law.many_steps
