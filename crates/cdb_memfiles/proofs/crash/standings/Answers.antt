use Rattle.std.proofs.Common.{[], refl, sym, subst}
use Rattle.cdb_files.specs.Disk.{State}
use Rattle.cdb_memfiles.specs.History.{replay}
use Rattle.cdb_memfiles.specs.inside.HistoryLaws.{replay-push}
use Rattle.cdb_memfiles.specs.Standing.{shown, ShowsFiles}
use Rattle.cdb_memfiles.proofs.CrashLaws.{replay-empty, shows-empty}
use Rattle.cdb_memfiles.proofs.StandingLaws.{shown-empty}
use Rattle.cdb_memfiles.proofs.crash.standings.Goals as goal

pub calls-init : goal.calls-init
calls-init c =
    let t = shown c.new-table.result in
    let P : State → Type 0 = ShowsFiles t in
    subst P (sym (replay-empty [] refl)) (shows-empty t (shown-empty c.new-table.result c.new-table.ensures.empty))

pub calls-preserved : goal.calls-preserved
calls-preserved c =
    let P : State → Type 0 = ShowsFiles (shown c.follow.new.table) in
    subst P (sym (replay-push c.calls.yielded c.in-Some.call))
    (c.in_ok-follow.ensures (replay c.calls.yielded) c.calls.invariant)
