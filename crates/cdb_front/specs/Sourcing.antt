-- What a line that gives a source leads to.
use Rattle.cdb_model.specs.Events as machine
use Rattle.cdb_model.specs.Grammar.{FileSource}
use Rattle.cdb_model.specs.Maps.{Content, FileMap}
use Rattle.cdb_model.specs.Stores.{Kind}
use Rattle.cdb_model.specs.Transitions.{StateIn, SourceLineIn}
use Rattle.cdb_engine.specs.declared.errors.InlineError.{InlineError}
use Rattle.cdb_engine.specs.declared.errors.InlineError.TheVariants as inline
use Rattle.cdb_engine.specs.declared.errors.LoadError.{LoadError}
use Rattle.cdb_engine.specs.declared.errors.LoadError.TheVariants as load
use Rattle.cdb_front.specs.RunProgress.{Holds}

-- why the posts of a line made no source
abbrev pub inline_answer : InlineError → machine.Answer
inline_answer inline.Memory = machine.memory
inline_answer inline.Range = machine.range

-- why a file of the shelf made no source
abbrev pub load_answer : LoadError → machine.Answer
load_answer load.Memory = machine.memory
load_answer load.Shelf = machine.shelf
load_answer load.Absent = machine.absent
load_answer (load.Big size) = machine.too_big
load_answer (load.Input error) = machine.input error.cause
load_answer load.Range = machine.range

-- a source is given whose posts a file holds: some content, which is the file where the shelf tells
pub record LoadsFrom (k : Kind) (tells : Type 0) (files : FileMap) (old : StateIn k) (w : FileSource)
    (answer : machine.Answer) (new : StateIn k) : Type 0 where
  pub content : Content
  pub holds : Holds tells files w.path content
  pub step : SourceLineIn k old w content answer new
