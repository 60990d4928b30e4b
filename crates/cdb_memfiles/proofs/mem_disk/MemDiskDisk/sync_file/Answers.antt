use Rattle.cdb_memfiles.specs.declared.call.Call.TheVariants.{SyncFile}
use Rattle.cdb_memfiles.proofs.MomentLaws.{changes_push}
use Rattle.cdb_memfiles.proofs.mem_disk.MemDiskDisk.sync_file.Goals as goal
use Rattle.cdb_files.proofs.StateLaws.{sync_file-present}

pub note-requires : goal.note-requires
note-requires c = sync_file-present c.args.path.now.bytes

pub returns-in-Ok-clause-changes : goal.returns-in-Ok-clause-changes
returns-in-Ok-clause-changes c = changes_push (SyncFile c.args.path.now) c.in-Ok.ensures.ok
