use Rattle.std.proofs.Common.{refl, ap, rules}
use Rattle.cdb_files.specs.Disk.{FailsMakeDir, after_make_dir}
use Rattle.cdb_files.proofs.StateLaws.{make_dir-present}
use Rattle.cdb_memfiles.specs.History.{replay}
use Rattle.cdb_memfiles.specs.declared.call.Call.TheVariants.{MakeDir}
use Rattle.cdb_memfiles.proofs.MomentLaws.{changes_push, changes_none, fails_make_dir-same}
use Rattle.cdb_memfiles.proofs.mem_disk.MemDiskDisk.make_dir.Goals as goal

pub note-requires : goal.note-requires
note-requires c = make_dir-present c.args.folder.now.bytes

pub returns-in-Ok-clause-changes : goal.returns-in-Ok-clause-changes
returns-in-Ok-clause-changes c = changes_push (MakeDir c.args.folder.now) c.in-Ok.ensures.ok

pub returns-in_err-begin-clause-changes : goal.returns-in_err-begin-clause-changes
returns-in_err-begin-clause-changes c =
    let s = replay c.args.self.now.record.calls.items in
    let fails : FailsMakeDir s (after_make_dir c.args.folder.now.bytes s) s =
    fails_make_dir-same c.args.folder.now.bytes s s refl in
    search rules

pub returns-in-Err-clause-changes : goal.returns-in-Err-clause-changes
returns-in-Err-clause-changes c =
    let e = c.in-Err.ensures.err in
    changes_none e
    (fails_make_dir-same c.args.folder.now.bytes (replay c.args.self.now.record.calls.items)
    (replay c.note.new.self.calls.items) (ap replay e))
