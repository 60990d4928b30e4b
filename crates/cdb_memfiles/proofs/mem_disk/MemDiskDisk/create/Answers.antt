use Rattle.cdb_memfiles.specs.declared.call.Call.TheVariants.{Create}
use Rattle.cdb_memfiles.proofs.MomentLaws.{changes_push}
use Rattle.cdb_memfiles.proofs.mem_disk.MemDiskDisk.create.Goals as goal

pub returns-in-Ok-clause-changes : goal.returns-in-Ok-clause-changes
returns-in-Ok-clause-changes c = changes_push (Create c.args.path.now) c.in-Ok.ensures.ok
