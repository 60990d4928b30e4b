-- What the check of a store answers by the list that an engine tracks, and which records are those of a store that was
-- opened.
use Rattle.std.specs.Prelude.{◌≡◌, List, length, Result, Ok, Err}
use Rattle.cdb_model.specs.Maps.{FileMap}
use Rattle.cdb_model.specs.Publications.{Publication}
use Rattle.cdb_manifest.specs.declared.record_.Record.{Record}
use Rattle.cdb_recover.specs.Answers.{IsAnswer, KeepsStore}
use Rattle.cdb_chain.specs.Opening.{AreRead}
use Rattle.cdb_check.specs.Laws.{IsFileCount}
use Rattle.cdb_check.specs.declared.outcome.Agreed.{Agreed}
use Rattle.cdb_check.specs.declared.outcome.CheckError.{CheckError}
use Rattle.cdb_check.specs.declared.outcome.CheckError.TheVariants.{Memory, Fault, Differs}

-- all files agree, and are as many as the list has; no file differs
abbrev pub AgreesWith : List Publication → Result Agreed CheckError → Type 0
AgreesWith list (Ok agreed) = (agreed.versions ≡ length list) × IsFileCount list agreed.files
AgreesWith list (Err Memory) = Unit {0}
AgreesWith list (Err Fault) = Unit {0}
AgreesWith list (Err (Differs path)) = ⊥

-- the files that were there name this many versions, recovery leaves their files, and each record is read of its own
pub record AreOpened (before now : FileMap) (records : List Record) : Type 0 where
  pub newest : IsAnswer before (Ok (length records))
  pub kept : KeepsStore before now
  pub read : AreRead (Unit {0}) now records
