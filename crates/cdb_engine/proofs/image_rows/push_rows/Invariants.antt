use Rattle.cdb_model.specs.Spelled.{row_of_pixels}
use Rattle.cdb_engine.specs.inside.Words.{HasRows}
use Rattle.cdb_engine.proofs.image_rows.push_rows.Given as goal

abbrev pub invariant-loop-r : goal.invariant-loop-r
invariant-loop-r l = HasRows l.initial.maker.head l.fn.novalue (row_of_pixels l.bytes) l.r l.maker
