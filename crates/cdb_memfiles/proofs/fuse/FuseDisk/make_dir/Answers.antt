use Rattle.std.proofs.Common.{refl, rules}
use Rattle.cdb_files.specs.Disk.{FailsMakeDir, after_make_dir}
use Rattle.cdb_memfiles.proofs.MomentLaws.{fails_make_dir-same}
use Rattle.cdb_memfiles.proofs.fuse.FuseDisk.make_dir.Goals as goal

pub returns-in_err-spend-clause-changes : goal.returns-in_err-spend-clause-changes
returns-in_err-spend-clause-changes g c told =
    let s = g.D.Disk.state c.args.self.now.disk in
    let fails : FailsMakeDir s (after_make_dir c.args.folder.now.bytes s) s =
    fails_make_dir-same c.args.folder.now.bytes s s refl in
    search rules
