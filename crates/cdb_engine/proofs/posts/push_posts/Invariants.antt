use Rattle.cdb_model.specs.Spelled.{spelled_row}
use Rattle.cdb_engine.specs.inside.Words.{HasRows}
use Rattle.cdb_engine.proofs.posts.push_posts.Given as goal

abbrev pub invariant-loop-row : goal.invariant-loop-row
invariant-loop-row l = HasRows l.initial.maker.head l.fn.novalue (spelled_row l.cols l.posts) l.row l.maker
