use Rattle.std.proofs.Common.{◌∙◌, Some, sym, ap, refl}
use Rattle.cdb_check.proofs.SourceLaws.{file_gives, unread_gives}
use Rattle.cdb_check.specs.inside.Expected.{source_file}
use Rattle.cdb_check.proofs.files.check_source.Goals as goal

pub returns-in-Ok-clause-gives : goal.returns-in-Ok-clause-gives
returns-in-Ok-clause-gives g c = λ told.
    let m = (g.D.Disk.state c.args.disk.now).present in
    file_gives m (source_file c.args.version c.args.number c.args.head.now) c.as_slice.result.now c.source_of.result
    (ap m (sym c.source_path-path.ensures) ∙ c.in-Ok.ensures.read told ∙ ap Some (sym c.as_slice.ensures.value))
    c.source_of.ensures.gives

pub returns-in-Err-clause-gives : goal.returns-in-Err-clause-gives
returns-in-Err-clause-gives g c = λ told.
    unread_gives (g.D.Disk.state c.args.disk.now).present (source_file c.args.version c.args.number c.args.head.now)
    c.source_path-path.result.bytes _ c.in-Err.error
    c.source_path-path.ensures refl (c.in-Err.ensures.unread told)
