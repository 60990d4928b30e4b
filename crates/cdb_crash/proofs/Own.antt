-- The laws over the store's own files, as other crates cite them.
use Rattle.std.proofs.Common.{refl, Some}
use Rattle.cdb_model.specs.ByteLaws.{BytesByReaching}
use Rattle.cdb_model.specs.Maps.{put, folder_above}
use Rattle.cdb_model.specs.Names.{head_path, new_head_path}
use Rattle.cdb_model.specs.Records.{head_file_text}
use Rattle.cdb_model.specs.Stands.{Stands}
use Rattle.cdb_files.specs.Whole.{after_write}
use Rattle.cdb_crash.specs.Leftovers.{HasNext}
use Rattle.cdb_crash.specs.Laws.{OwnPaths, OneList, EmptyStore, FolderCalls, LeftoverCalls, ClearStays, Room, BeginsClean, FileStep, FolderStep, RecordStep, ReadyStep, HeadStep, PlanSteps, Publishes, EveryList, WholeStays, Clearing, Recovers, AfterFault, AfterStop}
use Rattle.cdb_crash.specs.StepLaws.{StepNumbers, NewestFiles, FilledHead, FailedWrites}
use Rattle.cdb_crash.proofs.OneList as one
use Rattle.cdb_crash.proofs.EmptyLaws as empty
use Rattle.cdb_crash.proofs.CallLaws as calls
use Rattle.cdb_crash.proofs.ClearLaws as clears
use Rattle.cdb_crash.proofs.HeadLaws as heads
use Rattle.cdb_crash.proofs.Steps as steps
use Rattle.cdb_crash.proofs.RecoveryLaws as recovery
use Rattle.cdb_crash.proofs.RunLaws as runs
use Rattle.cdb_crash.proofs.Barrier.{barrier_old, barrier_new, whole_alone}
use Rattle.cdb_crash.proofs.Clearing.{clearing_room, from_whole, goes, at_last, whole_without_new_head}
use Rattle.cdb_crash.proofs.Law.{stands_but, whole_room}
use Rattle.cdb_crash.proofs.Paths.{versions_apart, not_head, not_new_head}
use Rattle.cdb_crash.proofs.PlanLaws.{plan_keeps}
use Rattle.cdb_crash.proofs.PlanNumbers.{numbers}
use Rattle.cdb_crash.proofs.NewestFiles as newest
use Rattle.cdb_crash.proofs.FailedWrites as failed
use Rattle.cdb_crash.proofs.HeadSteps.{filled-there, filled-settled}
use Rattle.cdb_crash.proofs.Steps.{mid_room, write_step, whole_synced}
use Rattle.cdb_crash.proofs.StoreLaws.{store_layout, file_under, next_local}

pub own_paths : OwnPaths
own_paths = record {
  files = λ earlier sources tiles path bytes le. file_under earlier sources tiles path bytes;
  apart = λ j k path a b. versions_apart j k path;
  head = λ k le under. not_head k head_path under refl;
  new_head = λ k le under. not_new_head k new_head_path under refl;
}

pub one_list : OneList Stands
one_list = one.one_list

pub empty_store : EmptyStore Stands
empty_store = empty.empty_store

pub folder_calls : FolderCalls
folder_calls = calls.folder_calls

pub leftover_calls : LeftoverCalls Stands
leftover_calls = λ P path s here leftover room. calls.path_calls (λ m. Stands m P) path s
    (stands_but Stands HasNext head_file_text store_layout P s path here room leftover)

pub room : Room Stands
room = record {
  whole = whole_room Stands HasNext head_file_text store_layout;
  middle = mid_room Stands HasNext head_file_text store_layout;
  clearing = clearing_room Stands HasNext head_file_text store_layout;
}

pub begins_clean : BeginsClean Stands
begins_clean = record { begins = calls.begins_clean Stands; back = calls.back_clean Stands }

pub file_step : FileStep Stands
file_step = write_step Stands HasNext head_file_text store_layout

pub folder_step : FolderStep Stands
folder_step = steps.folder_step Stands HasNext head_file_text store_layout

pub record_step : RecordStep Stands
record_step = λ P files synced s path bytes here mid few under fresh.
    steps.folder_step Stands HasNext head_file_text store_layout P (put files path (Some bytes)) synced
    (after_write (folder_above path) path bytes s) (folder_above path)
    (calls.write-here (folder_above path) path bytes s here)
    (write_step Stands HasNext head_file_text store_layout P files synced s (folder_above path) path bytes here mid
    few under fresh)

pub ready_step : ReadyStep Stands HasNext
ready_step = λ P x files synced s here mid few all complete.
    steps.ready_step Stands HasNext head_file_text store_layout P x files synced s here mid few all
    (λ m same. next_local P x files m complete same)

pub head_step : HeadStep Stands HasNext head_file_text
head_step = heads.head_step Stands HasNext head_file_text store_layout

pub plan_steps : PlanSteps
plan_steps = plan_keeps

pub publishes : Publishes
publishes = runs.publishes

pub every_list : EveryList
every_list = runs.every_list

pub whole_stays : WholeStays Stands
whole_stays =
    record {
      synced = whole_synced Stands HasNext head_file_text store_layout;
      new_head = whole_without_new_head Stands HasNext head_file_text store_layout;
    }

pub clearing : Clearing Stands
clearing = record {
  begins = from_whole Stands HasNext head_file_text store_layout;
  goes = goes Stands HasNext head_file_text store_layout;
  ends = at_last Stands HasNext head_file_text store_layout;
}

pub after_fault : AfterFault Stands
after_fault =
    record {
      old = barrier_old Stands HasNext head_file_text store_layout;
      new = barrier_new Stands HasNext head_file_text store_layout;
    }

pub after_stop : AfterStop Stands
after_stop =
    record {
      alone = whole_alone Stands;
      again = λ P s m new whole image alone. whole_alone Stands P m new
          (whole.stands m image) alone;
    }

pub step_numbers : StepNumbers
step_numbers = numbers

pub newest_files : BytesByReaching → NewestFiles
newest_files = newest.newest_files

pub filled_head : FilledHead
filled_head = record { there = filled-there; settled = filled-settled }

pub failed_writes : FailedWrites
failed_writes = failed.failed_writes

pub clear_stays : ClearStays
clear_stays = clears.clear_stays

pub recovers : Recovers
recovers = recovery.recovers
