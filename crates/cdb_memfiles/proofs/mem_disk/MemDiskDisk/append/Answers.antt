use Rattle.cdb_memfiles.proofs.MomentLaws.{changes_append}
use Rattle.cdb_memfiles.proofs.mem_disk.MemDiskDisk.append.Goals as goal

pub returns-in-Ok-clause-changes : goal.returns-in-Ok-clause-changes
returns-in-Ok-clause-changes c = let more = c.in-Ok.ensures.ok in
    changes_append c.args.path.now c.args.piece.now more.0 more.1 more.2
