use Rattle.cdb_memfiles.specs.declared.call.Call.TheVariants.{SyncDir}
use Rattle.cdb_memfiles.proofs.MomentLaws.{changes_push}
use Rattle.cdb_memfiles.proofs.mem_disk.MemDiskDisk.sync_dir.Goals as goal
use Rattle.cdb_files.proofs.StateLaws.{sync_dir-present}

pub note-requires : goal.note-requires
note-requires c = sync_dir-present c.args.folder.now.bytes

pub returns-in-Ok-clause-changes : goal.returns-in-Ok-clause-changes
returns-in-Ok-clause-changes c = changes_push (SyncDir c.args.folder.now) c.in-Ok.ensures.ok
