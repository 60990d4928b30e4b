use Rattle.std.proofs.Common.{◌∙◌, refl, ap, None}
use Rattle.cdb_model.specs.Maps.{put}
use Rattle.cdb_files.specs.Disk.{with_piece}
use Rattle.cdb_memfiles.specs.declared.call.Call.TheVariants.{MakeDir, Create, Append, SyncFile, SyncDir, Rename, Remove, Restore}
use Rattle.cdb_memfiles.specs.Standing.{Shown, shown}
use Rattle.cdb_memfiles.proofs.CrashLaws.{shows-call, shows-create, shows-append, shows-sync_file, shows-sync_dir, shows-rename, shows-remove, shows-make_dir, shows-restore}
use Rattle.cdb_memfiles.proofs.crash.follow.Goals as goal

pub returns-in-MakeDir : goal.returns-in-MakeDir
returns-in-MakeDir c s h =
    shows-call (shown c.args.table.now) (shown c.args.table.now) s c.args.call (MakeDir c.in-MakeDir.field-0)
    c.in-MakeDir.is refl (shows-make_dir (shown c.args.table.now) s c.in-MakeDir.field-0.bytes h)

pub returns-in-SyncDir : goal.returns-in-SyncDir
returns-in-SyncDir c s h =
    shows-call (shown c.sync_dir.new.table) (shown c.sync_dir.new.table) s c.args.call (SyncDir c.in-SyncDir.folder)
    c.in-SyncDir.is refl
    (shows-sync_dir (shown c.args.table.now) (shown c.sync_dir.new.table)
    s c.in-SyncDir.folder.bytes c.sync_dir.ensures h)

pub returns-in_ok-create-in-Create : goal.returns-in_ok-create-in-Create
returns-in_ok-create-in-Create c s h =
    shows-call (shown c.create.new.table) _ s c.args.call (Create c.in-Create.path)
    c.in-Create.is c.in_ok-create-in-Create.ensures
    (shows-create (shown c.args.table.now) s c.in-Create.path.bytes h)

pub returns-in_ok-append-in-Append : goal.returns-in_ok-append-in-Append
returns-in_ok-append-in-Append c s h =
    let p = c.in-Append.path.bytes in let old = shown c.args.table.now in
    shows-call (shown c.append.new.table) (put old p (with_piece c.in-Append.piece.items (old p).0, None))
    s c.args.call (Append c.in-Append.path c.in-Append.piece) c.in-Append.is
    (c.in_ok-append-in-Append.ensures ∙ ap (λ xs. let x : Shown = (with_piece xs (old p).0, None) in put old p x)
    c.as_slice.ensures.value)
    (shows-append old s p c.in-Append.piece.items h)

pub returns-in_ok-sync_file-in-SyncFile : goal.returns-in_ok-sync_file-in-SyncFile
returns-in_ok-sync_file-in-SyncFile c s h =
    shows-call (shown c.sync_file.new.table) _ s c.args.call (SyncFile c.in-SyncFile.path)
    c.in-SyncFile.is c.in_ok-sync_file-in-SyncFile.ensures
    (shows-sync_file (shown c.args.table.now) s c.in-SyncFile.path.bytes h)

pub returns-in_ok-rename-in-Rename : goal.returns-in_ok-rename-in-Rename
returns-in_ok-rename-in-Rename c s h =
    shows-call (shown c.rename.new.table) _ s c.args.call (Rename c.in-Rename.from c.in-Rename.to)
    c.in-Rename.is c.in_ok-rename-in-Rename.ensures
    (shows-rename (shown c.args.table.now) s c.in-Rename.from.bytes c.in-Rename.to.bytes h)

pub returns-in_ok-remove-in-Remove : goal.returns-in_ok-remove-in-Remove
returns-in_ok-remove-in-Remove c s h =
    shows-call (shown c.remove.new.table) _ s c.args.call (Remove c.in-Remove.path)
    c.in-Remove.is c.in_ok-remove-in-Remove.ensures
    (shows-remove (shown c.args.table.now) s c.in-Remove.path.bytes h)

pub returns-in_ok-restore-in-Restore : goal.returns-in_ok-restore-in-Restore
returns-in_ok-restore-in-Restore c s h =
    shows-call (shown c.restore.new.table) _ s c.args.call (Restore c.in-Restore.path c.in-Restore.bytes)
    c.in-Restore.is c.in_ok-restore-in-Restore.ensures
    (shows-restore (shown c.args.table.now) s c.in-Restore.path.bytes c.in-Restore.bytes.items h)
