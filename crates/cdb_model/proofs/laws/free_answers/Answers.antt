use Rattle.cdb_model.proofs.AnswerLaws as law
use Rattle.cdb_model.proofs.laws.free_answers.Goals as goal

pub returns : goal.returns
returns c = law.free_answers
