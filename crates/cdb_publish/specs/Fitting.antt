-- Which publication a value of the program stands for, and how far it is.
use Rattle.std.specs.Prelude.{◌≡◌, ℕ, ◌+◌, ◌≤◌, List, [], ◌∷◌, ◌++◌, length, drop, map, reverse}
use Rattle.std.specs.Prelude.{Option, Some, None, ◌-◌}
use Rattle.cdb_source.specs.Reached.{IsTouched}
use Rattle.cdb_source.specs.declared.source.Source.{Source}
use Rattle.cdb_model.specs.Publications.{heads_of}
use Rattle.cdb_model.specs.Records.{record_text}
use Rattle.cdb_model.specs.Stands.{ArePublications}
use Rattle.cdb_crash.specs.Plan.{files_of, folders_of}
use Rattle.cdb_publish.specs.Ready.{IsReady}
use Rattle.cdb_publish.specs.declared.plan.Plan.{Plan}
use Rattle.cdb_publish.specs.declared.work.Work.{Work}

-- A plan is that of the publication x after P: its record, the record's bytes, and the folders of its other files.
pub record Plans (p : Plan) (P : List (List Source)) (x : List Source) : Type 0 where
  pub list : ArePublications (P ++ x ∷ [])
  pub version : p.record.version ≡ length P + 1
  pub heads : p.record.heads ≡ heads_of x
  pub touched : IsTouched (heads_of x) p.record.tiles
  pub bytes : p.bytes.items ≡ record_text (length P + 1) (heads_of x) p.record.tiles
  pub folders : map (λ folder. folder.bytes) p.folders.keys ≡ folders_of (files_of P x p.record.tiles)

-- How many steps come before the head's.
abbrev pub steps_before_head : Plan → ℕ
steps_before_head p = length p.record.heads + length p.record.tiles + length p.folders.keys + 1

-- So many of its steps are made, and the sources whose step isn't made are there, the last one first.
pub record Fits (w : Work) (P : List (List Source)) (x : List Source) (number : ℕ) : Type 0 where
  pub plan : Plans w.plan P x
  pub done : w.done ≡ number
  pub sources : reverse w.sources.items ≡ drop number x

-- What holds of the numbers of any publication that is going: the folders are no more than the files, a source is there
-- for each source's step that isn't made,
-- some step isn't made, and the frames are long enough.
pub record IsSound (w : Work) : Type 0 where
  pub few : length w.plan.folders.keys ≤ length w.plan.record.heads + length w.plan.record.tiles
  pub sources : length w.plan.record.heads ≤ w.done + length w.sources.items
  pub left : w.done ≤ steps_before_head w.plan
  pub ready : IsReady w.plan w.frames

-- The same with its version, and with the number of its tiles.
pub record IsSoundFor (version files : ℕ) (w : Work) : Type 0 where
  pub sound : IsSound w
  pub version_is : w.plan.record.version ≡ version
  pub files_are : length w.plan.record.tiles ≡ files

-- How many steps are left.
abbrev pub left_in : Option Work → ℕ
left_in None = 0
left_in (Some w) = steps_before_head w.plan + 1 - w.done
