-- What a run says where no device fails.
use Rattle.std.specs.Prelude.{◌≡◌, ◌≢◌, ◌⊎◌, ◌<◌, ◌^◌, ℕ, List, Some, IfSome, length, All}
use Rattle.cdb_model.specs.Causes.{Rose}
use Rattle.cdb_model.specs.Images.{Base}
use Rattle.cdb_model.specs.RunLaws.{IsOfNoFailure}
use Rattle.cdb_model.specs.Events as machine
use Rattle.cdb_front.specs.Failures.{Still}
use Rattle.cdb_front.specs.RunOutcome.{QuitsInTime}
use Rattle.cdb_front.specs.Headline.{Devices, Life, ReadsScript}
use Rattle.cdb_front.specs.declared.exit_status.Status.TheVariants.{Done, Memory, Usage, InputFault, OutputFault}
use Rattle.cdb_front.specs.declared.exit_status.Status.TheVariants.{StoreFault, TooLong}

-- no device fails in the run, a status that blames one has its cause, and the words are accepted
pub record IsUndisturbed (v : Devices) (output_faults : v.O → ℕ) (life : Life v) : Type 0 where
  pub disk : Still (v.disk_faults life.old) (v.disk_faults life.new)
  pub shelf : Still (v.shelf_faults life.shelf) (v.shelf_faults life.shelf')
  pub input : Still (v.input_faults life.input) (v.input_faults life.input')
  pub output : Still (output_faults life.output) (output_faults life.output')
  pub words : life.status ≢ Usage
  pub input_failed : life.status ≡ InputFault → Rose (v.input_faults life.input) (v.input_faults life.input')
  pub store_failed : life.status ≡ StoreFault → Rose (v.disk_faults life.old) (v.disk_faults life.new)
  pub output_failed : life.status ≡ OutputFault → Rose (output_faults life.output) (output_faults life.output')

-- the run is done, or stopped for want of memory, or as its input is too long; it isn't too long where it has few
-- bytes, or `quit` among the first; each answer is one of the machine's table or want of memory
pub record IsComplete (v : Devices) (life : Life v) (answers : List machine.Answer) : Type 0 where
  pub ends : (life.status ≡ Done) ⊎ ((life.status ≡ Memory) ⊎ (life.status ≡ TooLong))
  pub few : IfSome (v.left life.input) (λ bytes. length bytes < 2 ^ 32 → life.status ≢ TooLong)
  pub quits : IfSome (v.left life.input) (λ bytes. QuitsInTime bytes → life.status ≢ TooLong)
  pub plain : All IsOfNoFailure answers

-- where no device fails, a run over a store is complete
abbrev pub RunsAreComplete : (v : Devices) → (v.O → ℕ) → Type 0
RunsAreComplete v output_faults = (life : Life v) (base : Base) (goes : ReadsScript v life (Some base))
    → IsUndisturbed v output_faults life → IsComplete v life goes.outcome.transcript.answers
