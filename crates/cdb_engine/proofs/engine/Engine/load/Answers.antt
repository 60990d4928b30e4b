use Rattle.std.proofs.Common.{subst, List, ℕ}
use Rattle.cdb_model.specs.Grammar.{file_in}
use Rattle.cdb_engine.specs.Loading.{IsMadeOf}
use Rattle.cdb_engine.proofs.FileLaws.{made_of_file}
use Rattle.cdb_engine.proofs.engine.Engine.load.Goals as goal

pub returns-clause-loads : goal.returns-clause-loads
returns-clause-loads g c =
    made_of_file _ _
    (file_in c.args.order.now) c.in_ok-bytes.bytes.items c.source_of.result c.in_ok-bytes.ensures.reads
    (subst (λ (bytes : List ℕ). IsMadeOf (file_in c.args.order.now) bytes c.source_of.result)
    c.deref.ensures.value c.source_of.ensures)
