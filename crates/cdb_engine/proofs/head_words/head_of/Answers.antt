use Rattle.cdb_engine.specs.Words.{head_of_words}
use Rattle.cdb_engine.proofs.HeadLaws.{head_given}
use Rattle.cdb_engine.proofs.head_words.head_of.Goals as goal

pub returns-in_err-level : goal.returns-in_err-level
returns-in_err-level c = rw c.from_residual.ensures (λ head s. c.in_err-level.ensures head.level s.level)

pub returns : goal.returns
returns c =
    head_given (head_of_words c.args.words.now) c.args.rows c.args.cols c.in_ok-level.level c.in_ok-lat.lat
    c.in_ok-lon.lon c.in_ok-dlat.dlat c.in_ok-dlon.dlon
    c.in_ok-level.ensures c.in_ok-lat.ensures c.in_ok-lon.ensures c.in_ok-dlat.ensures c.in_ok-dlon.ensures
    c.new.result c.new.ensures
