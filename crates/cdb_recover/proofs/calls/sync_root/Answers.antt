use Rattle.std.proofs.Common.{ap, ◌∙◌}
use Rattle.cdb_files.specs.Disk.{State}
use Rattle.cdb_recover.proofs.Removals.{sync_dir-made}
use Rattle.cdb_recover.proofs.calls.sync_root.Goals as goal

pub returns-in_err-sync_dir-clause-folders : goal.returns-in_err-sync_dir-clause-folders
returns-in_err-sync_dir-clause-folders g c told = ap (λ (s : State). s.made) (c.in_err-sync_dir.ensures.err told)

pub returns-clause-folders : goal.returns-clause-folders
returns-clause-folders g c told =
    ap (λ (s : State). s.made) (c.in_ok-sync_dir.ensures.ok told)
    ∙ sync_dir-made c.root_folder-folder.result.bytes (g.D.Disk.state c.args.disk.now)
