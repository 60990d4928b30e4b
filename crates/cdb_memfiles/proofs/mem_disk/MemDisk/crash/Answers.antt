use Rattle.std.proofs.Common.{◌∙◌, sym, ap, subst}
use Rattle.cdb_model.specs.Maps.{FileMap}
use Rattle.cdb_files.specs.Disk.{State, IsImage}
use Rattle.cdb_memfiles.specs.History.{replay}
use Rattle.cdb_memfiles.specs.inside.HistoryLaws.{present_is_possible}
use Rattle.cdb_memfiles.specs.Standing.{shown}
use Rattle.cdb_memfiles.proofs.CrashLaws.{picked-shown, picked-image}
use Rattle.cdb_memfiles.proofs.mem_disk.MemDisk.crash.Goals as goal
use mathlib.Core.Path.{fun_ext}

pub returns-clause-crashed : goal.returns-clause-crashed
returns-clause-crashed c =
    let s = replay c.args.self.record.calls.items in
    record {
      map = fun_ext (λ q. c.in_ok-restore_paths.ensures.present q
          ∙ picked-shown c.args.pick (shown c.in_ok-table.table) s c.in_ok-table.ensures q);
      only = c.in_ok-restore_paths.ensures.only;
      made = c.in_ok-restore_paths.ensures.made ∙ ap (λ (t : State). t.made) c.in_ok-folders.ensures
          ∙ ap (λ cs. (replay cs).made) c.as_slice.ensures.value;
    }

pub returns-clause-image : goal.returns-clause-image
returns-clause-image c =
    let calls = c.args.self.record.calls.items in
    let s = replay calls in
    let P : FileMap → Type 0 = IsImage s in
    subst P (sym
    (fun_ext (λ q. c.in_ok-restore_paths.ensures.present q
    ∙ picked-shown c.args.pick (shown c.in_ok-table.table) s c.in_ok-table.ensures q)))
    (picked-image c.args.pick s (present_is_possible calls))
