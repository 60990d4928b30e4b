-- What the answer of a step tells of the files that the step needs.
use Rattle.std.specs.Prelude.{◌≡◌, ℕ, ◌<◌, List, Some, Result, IfErr}
use Rattle.cdb_manifest.specs.declared.record_.Record.{Record}
use Rattle.cdb_model.specs.Maps.{FileMap}
use Rattle.cdb_publish.specs.Going.{left_of}
use Rattle.cdb_publish.specs.Needs.{IsDamage}
use Rattle.cdb_publish.specs.Reads.{SizesTold}
use Rattle.cdb_publish.specs.declared.errors.Progress.{Progress}
use Rattle.cdb_publish.specs.declared.errors.StepError.{StepError}
use Rattle.cdb_publish.specs.declared.errors.StepError.TheVariants.{Fault}
use Rattle.cdb_publish.specs.declared.publication.Publication.{Publication}
use Rattle.cdb_publish.specs.declared.work.Work.{Work}
use Rattle.cdb_engine.specs.StoreAnswers.{advance_of}
use Rattle.cdb_engine.specs.declared.errors.AdvanceError.{AdvanceError}

-- It is that of the publication's step. Where the disk tells, a file is damaged exactly where one that it needs
-- isn't there or has another size, and the sizes are those of the first such file. The last step reads no file.
pub record TellsStep (Tells : Type 0) (present : FileMap) (work : Publication) (records : List Record)
    (before after : ℕ) (result : Result Progress AdvanceError) : Type 0 where
  pub made : Result Progress StepError
  pub answer : result ≡ advance_of made
  pub sizes : (w : Work) → work.work ≡ Some w → 1 < left_of work
      → SizesTold Tells present w.plan records w.done before after made
  pub last : left_of work ≡ 1 → IfErr made (λ e. e ≡ Fault)
  pub last_reads : left_of work ≡ 1 → after ≡ before
  pub damage : IfErr made IsDamage
