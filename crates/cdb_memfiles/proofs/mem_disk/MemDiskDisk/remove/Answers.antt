use Rattle.cdb_memfiles.specs.declared.call.Call.TheVariants.{Remove}
use Rattle.cdb_memfiles.proofs.MomentLaws.{changes_push}
use Rattle.cdb_memfiles.proofs.mem_disk.MemDiskDisk.remove.Goals as goal

pub returns-in-Ok-clause-changes : goal.returns-in-Ok-clause-changes
returns-in-Ok-clause-changes c = changes_push (Remove c.args.path.now) c.in-Ok.ensures.ok
