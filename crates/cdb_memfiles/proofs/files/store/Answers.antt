use Rattle.std.proofs.Common.{Some, None, sym}
use Rattle.cdb_memfiles.specs.Files.{content}
use Rattle.cdb_memfiles.proofs.FileLaws.{content-update, content-entries, content-found, absent_there}
use Rattle.cdb_memfiles.proofs.files.store.Goals as goal

pub returns-in-Ok-clause-ok : goal.returns-in-Ok-clause-ok
returns-in-Ok-clause-ok c = content-update c.args.files.now c.insert.new.self c.args.path.now (Some c.args.bytes)
    c.in-Ok.ensures.updates

pub returns-clause-err : goal.returns-clause-err
returns-clause-err c = content-entries c.args.files.now c.insert.new.self c.in-Err.ensures.err

pub returns-clause-there : goal.returns-clause-there
returns-clause-there c there =
    absurd (absent_there (content c.args.files.now c.args.path.now.bytes)
    (content-found c.args.files.now c.args.path.now None (sym c.in-Err.ensures.absent)) there)
