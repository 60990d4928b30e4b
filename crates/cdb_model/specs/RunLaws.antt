-- Laws of whole runs, over a store whose publications are known.
use Rattle.std.specs.Prelude.{◌≡◌, ◌⊎◌, ℕ, ◌≤◌, List, [], ◌++◌, All, Some, None, IsSome}
use Rattle.cdb_model.specs.Text.{Text}
use Rattle.cdb_model.specs.Maps.{Content}
use Rattle.cdb_model.specs.Publications.{Publication, sources_up_to}
use Rattle.cdb_model.specs.Sessions.{session_of}
use Rattle.cdb_model.specs.declared.session.Session.{Session}
use Rattle.cdb_model.specs.Events as machine
use Rattle.cdb_model.specs.Events.{Answer}
use Rattle.cdb_model.specs.KnownStore.{KnownState, start_at}
use Rattle.cdb_model.specs.Runs.{Item, Run}
use Rattle.cdb_model.specs.AnswerTexts.{shelf_fault, disk_fault, tally}
use Rattle.cdb_model.specs.Begun.{begun_by, HasBegun, RunBegins, acknowledged}

-- a shelf of which nothing is known: a run over any shelf is one over it
abbrev pub AnyShelf : Text → Content → Type 0
AnyShelf path content = Unit {0}

-- ---- the publications begun

-- each run begins some publications by its lines `publish`, and these are what its last state knows of more than its
-- first one
abbrev pub BegunInOrder : (Text → Content → Type 0) → Type 0
BegunInOrder Has = (old new : KnownState) (items : List Item) (answers : List Answer) → Run Has old items answers new
    → (begun : List Publication) × RunBegins Has old items answers begun new × (begun_by new ≡ begun_by old ++ begun)

-- those of a run from a store: the complete ones, which follow the store's own, and the one that isn't complete
abbrev pub BegunFromStore : (Text → Content → Type 0) → Type 0
BegunFromStore Has = (from : List Publication) (s : KnownState) (items : List Item) (answers : List Answer)
    → Run Has (start_at from) items answers s
    → (begun : List Publication) × RunBegins Has (start_at from) items answers begun s × HasBegun from s begun

-- whatever was written of a run, what it acknowledges is the first of the complete ones
abbrev pub AcknowledgedComplete : (Text → Content → Type 0) → Type 0
AcknowledgedComplete Has =
    (from : List Publication) (s : KnownState) (items : List Item) (answers : List Answer)
    (begun : List Publication) (written : Text)
    → Run Has (start_at from) items answers s → HasBegun from s begun
    → (rest : List Publication) × (s.list ≡ from ++ (acknowledged begun answers written ++ rest))

-- ---- the halt

-- a run leaves the halt as it was, or the writer wasn't halted and some answer says that the disk failed
abbrev pub HaltsByFault : (Text → Content → Type 0) → Type 0
HaltsByFault Has = (old new : KnownState) (items : List Item) (answers : List Answer) → Run Has old items answers new
    → (new.halted ≡ old.halted) ⊎ ((old.halted ≡ None) × (1 ≤ tally disk_fault answers))

-- a halted writer stays halted, and begins no publication
abbrev pub HaltedBeginsNone : (Text → Content → Type 0) → Type 0
HaltedBeginsNone Has = (old new : KnownState) (items : List Item) (answers : List Answer) (begun : List Publication)
    → RunBegins Has old items answers begun new → IsSome old.halted
    → (begun ≡ []) × (new.halted ≡ old.halted) × (new.list ≡ old.list)

-- ---- sessions

-- a session that is open before and after a run is the same one and answers from the same sources: those of the first
-- so many publications, whatever was published since
abbrev pub SessionsStay : (Text → Content → Type 0) → Type 0
SessionsStay Has = (from : List Publication) (s t : KnownState) (before after : List Item) (said later : List Answer)
    → Run Has (start_at from) before said s → Run Has s after later t → (id : ℕ) (x y : Session)
    → session_of id s.sessions ≡ Some x → session_of id t.sessions ≡ Some y
    → (y ≡ x) × (sources_up_to x.version t.list ≡ sources_up_to x.version s.list)

-- ---- no failures

-- an answer that no failure of a device gives, at once or later: those of the table, and want of memory
abbrev pub IsOfNoFailure : Answer → Type 0
IsOfNoFailure machine.halted = ⊥
IsOfNoFailure machine.shelf = ⊥
IsOfNoFailure machine.fault = ⊥
IsOfNoFailure (machine.damaged expected found) = ⊥
IsOfNoFailure machine.late_fault = ⊥
IsOfNoFailure (machine.late_damaged expected found) = ⊥
IsOfNoFailure _ = Unit {0}

-- where no answer says that a device failed, all are plain
abbrev pub PlainAnswers : (Text → Content → Type 0) → Type 0
PlainAnswers Has = (old new : KnownState) (items : List Item) (answers : List Answer) → Run Has old items answers new
    → old.halted ≡ None → tally disk_fault answers ≡ 0 → tally shelf_fault answers ≡ 0 → All IsOfNoFailure answers
