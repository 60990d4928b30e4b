use Rattle.cdb_engine.proofs.BeginLaws.{begins_by}
use Rattle.cdb_engine.proofs.drawn_publication.begin_drawn.Goals as goal

pub returns-clause-begins : goal.returns-clause-begins
returns-clause-begins g c = λ w origin s x stays running idle drawn.
    begins_by w s x _ running idle drawn c.publish.result c.begin_error.result c.begin_error.ensures.begun
    (c.publish.ensures.begins w origin s stays)
