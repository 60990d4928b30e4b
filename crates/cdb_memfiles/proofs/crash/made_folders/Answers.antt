use Rattle.std.proofs.Common.{◌∙◌, get_or, take, [], refl, sym, ap}
use Rattle.std.proofs.lemmas.List.{take_more}
use Rattle.cdb_memfiles.specs.Crash.{only_made}
use Rattle.cdb_memfiles.specs.History.{replay, apply}
use Rattle.cdb_memfiles.specs.inside.HistoryLaws.{replay-push}
use Rattle.cdb_memfiles.proofs.CrashLaws.{replay-empty}
use Rattle.cdb_memfiles.proofs.crash.made_folders.Goals as goal

pub calls-init : goal.calls-init
calls-init c = replay-empty c.new-folders.result.calls.items c.new-folders.ensures
    ∙ ap only_made (sym (replay-empty [] refl))

pub calls-preserved : goal.calls-preserved
calls-preserved c =
    let all = c.args.calls.now in let i = c.calls.call-index in let call = c.call-item.result in
    c.in_ok-note_folder.ensures (replay (take i all)) c.calls.invariant
    ∙ ap only_made
    (sym (ap replay (take_more all i call c.calls-test.true) ∙ replay-push (take i all) (get_or all i call)
    ∙ ap (λ x. apply x (replay (take i all))) (sym c.call-item.is)))
