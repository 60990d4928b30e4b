use Rattle.cdb_memfiles.specs.declared.call.Call.TheVariants.{Rename}
use Rattle.cdb_memfiles.proofs.MomentLaws.{changes_push}
use Rattle.cdb_memfiles.proofs.mem_disk.MemDiskDisk.rename.Goals as goal

pub returns-in-Ok-clause-changes : goal.returns-in-Ok-clause-changes
returns-in-Ok-clause-changes c = changes_push (Rename c.args.from.now c.args.to.now) c.in-Ok.ensures.ok
