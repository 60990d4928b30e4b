use Rattle.cdb_model.proofs.AnswerLaws as law
use Rattle.cdb_model.proofs.laws.one_answer.Goals as goal

pub returns : goal.returns
returns c = law.one_answer
