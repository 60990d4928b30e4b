-- How the machine goes from one publication that is drawn to the next, over a store that is known and over any.
use Rattle.std.specs.Prelude.{◌≡◌, ℕ, ℤ, List, [], length, None, Some, Result, Ok, Err}
use Rattle.cdb_grid.specs.declared.tile.Tile.{Tile}
use Rattle.cdb_source.specs.declared.source.Source.{Source}
use Rattle.cdb_model.specs.Publications.{publication_of, sources_of, Touches}
use Rattle.cdb_model.specs.Stores.{Kind, Which, known, any, store_kind}
use Rattle.cdb_model.specs.Transitions.{StateIn, HasEntriesIn, IsFullOfVersionsIn}
use Rattle.cdb_generate.specs.Generator.{PublicationDrawn}
use Rattle.cdb_generate.specs.Sums.{tiles_sum}
use Rattle.cdb_engine.specs.declared.errors.PopulateError.{PopulateError}
use Rattle.cdb_engine.specs.declared.errors.PopulateError.TheVariants.{Memory, Fault, Entries, Versions, Damaged}
use Rattle.cdb_engine.specs.declared.drawn_publication.Published.{Published}

-- nothing is pending, going or open, and the writer isn't halted
pub record IsAtRest (k : Kind) (s : StateIn k) : Type 0 where
  pub pending : s.pending ≡ []
  pub going : s.going ≡ None
  pub halted : s.halted ≡ None
  pub sessions : s.sessions ≡ []

-- the sum of the values of tiles at the newest version, where the publications are known
abbrev pub IsSumAt : (w : Which) → (store_kind w).Listed → List Tile → ℤ → Type 0
IsSumAt known list tiles sum = sum ≡ tiles_sum (sources_of list) tiles
IsSumAt any list tiles sum = Unit {0}

-- the publication that is drawn next, and its plan
pub record IsDrawnNext (w : Which) (old : StateIn (store_kind w)) (x : ℕ) : Type 0 where
  pub sources : List Source
  pub drawn : PublicationDrawn x sources
  pub tiles : List Tile
  pub touched : Touches (publication_of sources) tiles
  pub planned : (store_kind w).Planned
  pub left : ℕ
  pub starts : (store_kind w).Starts old.list sources tiles planned left

-- it is complete
pub record IsWholePublication (w : Which) (old : StateIn (store_kind w)) (x : ℕ) (published : Published) (new : StateIn
    (store_kind w)) : Type 0 where
  pub next : IsDrawnNext w old x
  pub list_is : new.list ≡ (store_kind w).add old.list next.planned
  pub at_rest : IsAtRest (store_kind w) new
  pub files_are : published.files ≡ length next.tiles
  pub sum_is : IsSumAt w new.list next.tiles published.sum

-- how far it came: it wasn't begun, it was given up, or it is complete
pub data CameTo (w : Which) (old : StateIn (store_kind w)) (x : ℕ) (new : StateIn (store_kind w)) : Type 0 where
  not_begun : new.list ≡ old.list → new.going ≡ None → new.halted ≡ None → CameTo w old x new
  given_up : (next : IsDrawnNext w old x) → new.list ≡ old.list → new.going ≡ None
      → new.halted ≡ Some ((store_kind w).drop next.planned) → CameTo w old x new
  complete : (next : IsDrawnNext w old x) → new.list ≡ (store_kind w).add old.list next.planned → new.going ≡ None
      → new.halted ≡ None → CameTo w old x new

-- its sources are pending
pub record HasPending (w : Which) (old : StateIn (store_kind w)) (x : ℕ) (new : StateIn (store_kind w)) : Type 0 where
  pub sources : List Source
  pub drawn : PublicationDrawn x sources
  pub state : new ≡ record old { pending = sources }

-- why the store has no further publication
abbrev pub StopsBy : (w : Which) → StateIn (store_kind w) → ℕ → PopulateError → StateIn (store_kind w) → Type 0
StopsBy w old x Memory new = CameTo w old x new
StopsBy w old x Fault new = CameTo w old x new
StopsBy w old x (Entries count) new = HasPending w old x new × HasEntriesIn (store_kind w) new count
StopsBy w old x Versions new = HasPending w old x new × IsFullOfVersionsIn (store_kind w) new
StopsBy w old x (Damaged expected found) new = (store_kind w).Maybe (CameTo w old x new)

abbrev pub PublishesIn : (w : Which) → StateIn (store_kind w) → ℕ → Result Published PopulateError
    → StateIn (store_kind w) → Type 0
PublishesIn w old x (Ok published) new = IsWholePublication w old x published new
PublishesIn w old x (Err error) new = StopsBy w old x error new
