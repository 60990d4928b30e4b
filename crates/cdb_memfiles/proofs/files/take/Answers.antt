use Rattle.std.proofs.Common.{None, ap}
use Rattle.cdb_memfiles.specs.Files.{content, bytes_of}
use Rattle.cdb_memfiles.proofs.FileLaws.{content-update}
use Rattle.cdb_memfiles.proofs.files.take.Goals as goal

pub returns-clause-value : goal.returns-clause-value
unfolding content
returns-clause-value c = ap bytes_of c.remove.ensures.value

pub returns-clause-rest : goal.returns-clause-rest
returns-clause-rest c = content-update c.args.files.now c.remove.new.self c.args.path.now None c.remove.ensures.updates
