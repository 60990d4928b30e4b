use Rattle.std.proofs.Common.{◌∙◌, sym, ap}
use Rattle.cdb_files.specs.Disk.{after_make_dir}
use Rattle.cdb_files.proofs.StateLaws.{make_dir-present}
use Rattle.cdb_memfiles.specs.Crash.{only_made}
use Rattle.cdb_memfiles.specs.History.{apply}
use Rattle.cdb_memfiles.specs.declared.call.Call.TheVariants.{MakeDir}
use Rattle.cdb_memfiles.proofs.CrashLaws.{made-make_dir, made-other}
use Rattle.cdb_memfiles.proofs.MomentLaws.{state_push}
use Rattle.cdb_memfiles.proofs.crash.note_folder.Goals as goal

pub note-requires : goal.note-requires
note-requires c = make_dir-present c.in-MakeDir.folder.bytes

pub returns-in_ok-note : goal.returns-in_ok-note
returns-in_ok-note c s e =
    let f = c.in-MakeDir.folder in
    state_push c.args.folders.now.calls.items c.note.new.self.calls.items (MakeDir f) c.in_ok-note.ensures.ok
    ∙ ap (after_make_dir f.bytes) e ∙ made-make_dir f.bytes s
    ∙ ap (λ call. only_made (apply call s)) (sym c.in-MakeDir.is)

pub returns-in_default : goal.returns-in_default
returns-in_default c s e = e ∙ made-other c.args.call.now s c.in_default.not-MakeDir
