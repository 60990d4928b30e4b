-- Inside the crate: what a generator's publications leave in a store, one after another.
use Rattle.std.specs.Prelude.{ℕ, Result, Ok, Err}
use Rattle.cdb_model.specs.Stores.{Which, store_kind}
use Rattle.cdb_model.specs.Transitions.{StateIn}
use Rattle.cdb_engine.specs.declared.errors.PopulateError.{PopulateError}
use Rattle.cdb_engine.specs.declared.drawn_publication.Published.{Published}
use Rattle.cdb_engine.specs.Filling.{AreMade, StopsAfter}

abbrev pub FillsIn : (w : Which) → StateIn (store_kind w) → ℕ → ℕ → Result Published PopulateError
    → StateIn (store_kind w) → Type 0
FillsIn w old start count (Ok made) new = AreMade w old start count made.files made.sum new
FillsIn w old start count (Err error) new = StopsAfter w old start count error new
