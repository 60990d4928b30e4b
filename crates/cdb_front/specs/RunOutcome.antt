-- How a run ended, and what it wrote.
use Rattle.std.specs.Prelude.{◌≡◌, ◌≢◌, ◌⊎◌, ℕ, ◌<◌, ◌≤◌, ◌^◌, List, [], ◌∷◌, ◌++◌, length, Option, None, Some}
use Rattle.std.specs.Io.KnownBytes.{Appends, Consumes, IsAtEnd}
use Rattle.std.specs.List.{flat_map, AllByRecursion}
use Rattle.cdb_model.specs.Text.{Text, ended}
use Rattle.cdb_model.specs.Maps.{Content, FileMap}
use Rattle.cdb_model.specs.Commands as said
use Rattle.cdb_model.specs.Commands.{line_command}
use Rattle.cdb_model.specs.Lines.{Cut, HaveNoFeed, HaveNoQuit}
use Rattle.cdb_model.specs.Publications.{Publication}
use Rattle.cdb_model.specs.Stands.{Stands}
use Rattle.cdb_model.specs.Stores.{Kind, Which, known, any, store_kind, known_store, any_store}
use Rattle.cdb_model.specs.KnownStore.{KnownState, start_at}
use Rattle.cdb_model.specs.Events as machine
use Rattle.cdb_model.specs.Transitions.{StateIn}
use Rattle.cdb_model.specs.Runs.{Item, Run, items_of}
use Rattle.cdb_model.specs.AnswerTexts.{text_of_answer, texts_of, shelf_fault, disk_fault}
use Rattle.cdb_model.specs.Begun.{HasBegun, acknowledged}
use Rattle.cdb_model.specs.Images.{Base, StandsFrom, StandsKept, StandsForOne, StandsSince}
use Rattle.cdb_crash.specs.Crash.{IsClear, IsWhole, IsFaulted}
use Rattle.cdb_files.specs.Disk as disk
use Rattle.cdb_files.specs.Disk.{IsImage}
use Rattle.cdb_manifest.specs.declared.record_.Record.{Record}
use Rattle.cdb_chain.specs.declared.open_error.OpenError.{OpenError}
use Rattle.cdb_chain.specs.declared.open_error.OpenError.TheVariants as refused
use Rattle.cdb_engine.specs.Checks.{AreOpened}
use Rattle.cdb_engine.specs.Store.{IsNoStore}
use Rattle.cdb_front.specs.DamagedSizes.{AnswerFindsOther}
use Rattle.cdb_front.specs.Devices.{WritesPart}
use Rattle.cdb_front.specs.RunProgress.{Sight, RunStart, Holds, Runs, Ordered, EndsByAnswer, ReachesLast, first_state}
use Rattle.cdb_front.specs.StatusCodes.{status_line}
use Rattle.cdb_front.specs.Stepping.{Counts}
use Rattle.cdb_front.specs.declared.exit_status.Status.{Status}
use Rattle.cdb_front.specs.declared.exit_status.Status.TheVariants.{Done, Memory, Usage, InputFault, OutputFault, StoreFault, NotAStore, TooLong, Differs, Refused, Damaged}

-- ---- what was read, what was answered to it, and what was written

-- the lines that were answered: all that were read where the script was done or the output failed, the whole ones where
-- the input failed or was too long, none where no store was opened
abbrev pub Hears : Status → List Text → Text → List Text → Type 0
Hears Done lines rest heard = heard ≡ lines ++ rest ∷ []
Hears OutputFault lines rest heard = heard ≡ lines ++ rest ∷ []
Hears InputFault lines rest heard = heard ≡ lines
Hears TooLong lines rest heard = heard ≡ lines
Hears status lines rest heard = heard ≡ []

-- all items had their turn; or, where the output failed, all of the lines before the last one, and at least the first
-- of the last one
abbrev pub AllMade : Status → ℕ → List Text → List Item → List Item → Type 0
AllMade OutputFault most lines items unmade = ReachesLast most lines items
AllMade status most lines items unmade = unmade ≡ []

-- the answers but the last were written whole, and of the last one a part, and not all
pub record IsPartOfAnswers (answers : List machine.Answer) (wrote : Text) : Type 0 where
  pub whole : List machine.Answer
  pub last : machine.Answer
  pub answers_are : answers ≡ whole ++ last ∷ []
  pub part : Text
  pub rest : Text
  pub joined : text_of_answer last ≡ part ++ rest
  pub short : rest ≢ []
  pub wrote_is : wrote ≡ texts_of whole ++ part

-- the answers were written whole, or the output failed at the last of them
abbrev pub WritesAnswers : Status → List machine.Answer → Text → Type 0
WritesAnswers OutputFault answers wrote = IsPartOfAnswers answers wrote
WritesAnswers status answers wrote = wrote ≡ texts_of answers

-- a line was whole: its line feed came after it, or the end of the input
abbrev pub IsLineEnd : Option (List ℕ) → Text → Type 0
IsLineEnd left unread = ((unread ≡ []) × IsAtEnd left) ⊎ ((after : Text) × (unread ≡ 10 ∷ after))

-- why the script ended: the end of the input after fewer than 2 ^ 32 bytes, or the line `quit`, whose line feed is at
-- most the last of 2 ^ 32; an answer to a whole line that wasn't written whole; a failed read; 2 ^ 32 bytes; nothing
-- was read. A script looks at no file of the store, so it says of none that it differs
abbrev pub EndsScript : Status → Option (List ℕ) → Text → Text → Text → Type 0
EndsScript Done left read unread rest =
    (length read < 2 ^ 32) × (((unread ≡ []) × IsAtEnd left)
    ⊎ ((line_command rest ≡ said.quit) × ((after : Text) × (unread ≡ 10 ∷ after))))
EndsScript OutputFault left read unread rest = (length read < 2 ^ 32) × IsLineEnd left unread
EndsScript InputFault left read unread rest = (unread ≡ []) × (length read < 2 ^ 32)
EndsScript TooLong left read unread rest = (unread ≡ []) × (length read ≡ 2 ^ 32)
EndsScript (Differs path) left read unread rest = ⊥
EndsScript (Refused limit) left read unread rest = ⊥
EndsScript (Damaged expected found) left read unread rest = ⊥
EndsScript status left read unread rest = (unread ≡ []) × (read ≡ [])

-- what was read of the input, what was answered to it, and what was written of that, before the line of the status
pub record Transcript (e : RunStart) (shelf disk : ℕ) (left left' written : Option (List ℕ))
    (status : Status) : Type 0 where
  -- what was taken and used, and what came in the same piece of 4,096 bytes after `quit` or after the answer that
  -- wasn't written
  pub read : Text
  pub unread : Text
  pub taken : Consumes left left' (read ++ unread)
  pub few : length (read ++ unread) ≤ 2 ^ 32
  pub piece : length unread ≤ 4096
  -- the whole lines and the last piece of a line in it, and those that were answered
  pub lines : List Text
  pub rest : Text
  pub cut : Cut read lines rest
  pub no_quit : HaveNoQuit lines
  pub heard : List Text
  pub hears : Hears status lines rest heard
  -- what the run went through, and its answers
  pub items : List Item
  pub unmade : List Item
  pub items_are : items_of e.most heard ≡ items ++ unmade
  pub makes : AllMade status e.most lines items unmade
  pub answers : List machine.Answer
  -- no more of them say that the shelf failed, or the disk, than its count rose by
  pub shelf_counted : Counts shelf_fault e.shelf shelf answers
  pub disk_counted : Counts disk_fault e.disk disk answers
  -- none calls a file damaged that has the size that was wanted
  pub other : AllByRecursion AnswerFindsOther answers
  -- what was written
  pub wrote : Text
  pub appended : Appends e.written written wrote
  pub writes : WritesAnswers status answers wrote
  pub finishes : EndsScript status left' read unread rest

-- where an answer wasn't written whole, the run ended with the item that gave it: no further step was made
abbrev pub EndsUnwritten : Status → (k : Kind) → (Text → Content → Type 0) → StateIn k → List Item → List machine.Answer
    → StateIn k → Type 0
EndsUnwritten OutputFault k Has old items answers new = EndsByAnswer k Has old items answers new
EndsUnwritten status k Has old items answers new = Unit {0}

-- states of now to which a run came so
abbrev pub Unwritten : Type 0 → RunStart → Status → List Item → List machine.Answer → Sight → (w : Which)
    → StateIn (store_kind w) → Type 0
Unwritten tells e status items answers Now w s =
    Now w s × EndsUnwritten status (store_kind w) (Holds tells e.files) (first_state e w) items answers s

-- the script ended: a run, where the store is known, and one whatever the disk holds, each to a state of now
pub record StopsScript (tells : Type 0) (e : RunStart) (shelf disk : ℕ)
    (left left' written : Option (List ℕ)) (Now : Sight)
    (status : Status) : Type 0 where
  pub transcript : Transcript e shelf disk left left' written status
  pub run : Runs (Holds tells e.files) e.from transcript.items transcript.answers
      (Unwritten tells e status transcript.items transcript.answers Now known)
  pub order : Ordered (Holds tells e.files) e.start transcript.items transcript.answers
      (Unwritten tells e status transcript.items transcript.answers Now any)

-- ---- the line of the status

-- a run ended with the line of a status, which was written whole, or else its output failed
pub data EndsWith (status : Status) (old new : Option (List ℕ)) : Status → Type 0 where
  is_whole : Appends old new (status_line status) → EndsWith status old new status
  is_part : WritesPart old new (status_line status) → EndsWith status old new OutputFault

-- ---- the disk at the end

-- a disk with a store is none that isn't one, and none of its files differs
abbrev pub IsOfStore : Status → Type 0
IsOfStore (NotAStore version place) = ⊥
IsOfStore (Differs path) = ⊥
IsOfStore (Refused limit) = ⊥
IsOfStore (Damaged expected found) = ⊥
IsOfStore status = Unit {0}

-- the store was opened
abbrev pub WasOpened : Status → Type 0
WasOpened Done = Unit {0}
WasOpened InputFault = Unit {0}
WasOpened OutputFault = Unit {0}
WasOpened TooLong = Unit {0}
WasOpened status = ⊥

-- no store was opened
abbrev pub HasNoStore : Status → Type 0
HasNoStore Memory = Unit {0}
HasNoStore Usage = Unit {0}
HasNoStore StoreFault = Unit {0}
HasNoStore (NotAStore version place) = Unit {0}
HasNoStore status = ⊥

-- how a run ends that couldn't open its store
abbrev pub status_of : OpenError → Status
status_of refused.Memory = Memory
status_of refused.Fault = StoreFault
status_of (refused.NotAStore version place) = NotAStore version place

-- what a crash leaves at exit stands for the list followed by the first of the publications begun, with all that are
-- acknowledged; where the run ended in opening it may stand for one of the early lists
abbrev pub StandsAtExit : Status → Base → List Publication → List Publication → FileMap → Type 0
StandsAtExit Done base begun kept m = StandsKept base.list begun kept m
StandsAtExit InputFault base begun kept m = StandsKept base.list begun kept m
StandsAtExit OutputFault base begun kept m = StandsKept base.list begun kept m
StandsAtExit TooLong base begun kept m = StandsKept base.list begun kept m
StandsAtExit (Differs path) base begun kept m = StandsKept base.list begun kept m
StandsAtExit (Refused limit) base begun kept m = StandsKept base.list begun kept m
StandsAtExit (Damaged expected found) base begun kept m = StandsKept base.list begun kept m
StandsAtExit status base begun kept m = StandsKept base.list begun kept m ⊎ StandsForOne base.early m

-- what a run finds that begins on the same disk without a stop: a whole one, or one that a fault left, where it is
-- clear
pub record IsLeftAtRest (s : KnownState) (d : disk.State) : Type 0 where
  pub whole : s.halted ≡ None → IsWhole Stands s.list d
  pub faulted : (x : Publication) → s.halted ≡ Some x → IsClear d → IsFaulted Stands s.list x d
  pub idle : (x : Publication) → s.halted ≡ Some x → s.going ≡ None

-- of a run that ended in opening nothing is said
abbrev pub RestsAt : Status → KnownState → disk.State → Type 0
RestsAt Done s d = IsLeftAtRest s d
RestsAt InputFault s d = IsLeftAtRest s d
RestsAt OutputFault s d = IsLeftAtRest s d
RestsAt TooLong s d = IsLeftAtRest s d
RestsAt status s d = Unit {0}

-- whatever a crash since opening ended may have left stands for the list followed by the first of the publications
-- begun: the early lists may be left only before that moment
pub record LeavesNoEarly (base : Base) (begun : List Publication) (opened now : ℕ) (Since : ℕ → FileMap → Type 0)
    : Type 0 where
  pub earlier : opened ≤ now
  pub later : (m : FileMap) → Since opened m → StandsFrom base.list begun m

-- so it is where the store was opened
abbrev pub StandsSinceOpening : Status → Base → List Publication → ℕ → ℕ → (ℕ → FileMap → Type 0) → Type 0
StandsSinceOpening Done base begun opened now Since = LeavesNoEarly base begun opened now Since
StandsSinceOpening InputFault base begun opened now Since = LeavesNoEarly base begun opened now Since
StandsSinceOpening OutputFault base begun opened now Since = LeavesNoEarly base begun opened now Since
StandsSinceOpening TooLong base begun opened now Since = LeavesNoEarly base begun opened now Since
StandsSinceOpening status base begun opened now Since = Unit {0}

-- the run over a store: whatever a crash since it began, and since opening ended, may have left, and whatever it may
-- leave now
pub record Ended (Has : Text → Content → Type 0) (base : Base) (status : Status) (items : List Item)
    (answers : List machine.Answer) (wrote : Text) (opened now : ℕ) (Since : ℕ → FileMap → Type 0) (d : disk.State)
    : Type 0 where
  pub state : KnownState
  pub run : Run Has (start_at base.list) items answers state
  pub last : EndsUnwritten status known_store Has (start_at base.list) items answers state
  pub begun : List Publication
  pub has_begun : HasBegun base.list state begun
  pub since : (m : FileMap) → Since base.moment m → StandsSince base begun m
  pub since_opening : StandsSinceOpening status base begun opened now Since
  pub at_exit : (m : FileMap) → IsImage d m → StandsAtExit status base begun (acknowledged begun answers wrote) m
  pub rests : RestsAt status state d
  pub of_store : IsOfStore status

abbrev pub EndsFrom : (Text → Content → Type 0) → Option Base → Status → List Item → List machine.Answer → Text
    → ℕ → ℕ → (ℕ → FileMap → Type 0) → disk.State → Type 0
EndsFrom Has None status items answers wrote opened now Since d = Unit {0}
EndsFrom Has (Some base) status items answers wrote opened now Since d =
    Ended Has base status items answers wrote opened now Since d

-- the files that were there name a newest version, and the record of each version up to it is read
pub record HasRecords (present : FileMap) : Type 0 where
  pub left : FileMap
  pub records : List Record
  pub opened : AreOpened present left records

-- where the disk tells: no store was opened since the files that were there are none, and only leftovers of recovery
-- are gone from them; and a status that comes after opening comes where they are one
abbrev pub SaysStore : Type 0 → FileMap → FileMap → Status → Type 0
SaysStore tells present now (NotAStore version place) = tells → IsNoStore present now version place
SaysStore tells present now Memory = Unit {0}
SaysStore tells present now Usage = Unit {0}
SaysStore tells present now OutputFault = Unit {0}
SaysStore tells present now StoreFault = Unit {0}
SaysStore tells present now status = tells → HasRecords present

-- ---- the whole run

-- what the loop left, and the line of the status that it stopped with
pub record Outcome (tells : Type 0) (e : RunStart) (shelf faults : ℕ) (left left' written' : Option (List ℕ))
    (now : ℕ) (Since : ℕ → FileMap → Type 0) (d : disk.State) (result : Status) : Type 0 where
  pub status : Status
  pub written : Option (List ℕ)
  pub transcript : Transcript e shelf faults left left' written status
  pub run : EndsFrom (Holds tells e.files)
      e.from status transcript.items transcript.answers transcript.wrote e.opened now
      Since d
  pub order : Ordered (Holds tells e.files) e.start transcript.items transcript.answers
      (EndsUnwritten status any_store (Holds tells e.files) e.start transcript.items transcript.answers)
  pub ends : EndsWith status written written' result

-- ---- words that are refused

-- the words aren't options of the program, or memory for them was refused: the line of that status is written, and no
-- other device is used
pub record TurnsAway {D H I : Type 0} (disk disk' : D) (shelf shelf' : H) (input input' : I)
    (old new : Option (List ℕ)) (result : Status) : Type 0 where
  pub disk_is : disk' ≡ disk
  pub shelf_is : shelf' ≡ shelf
  pub input_is : input' ≡ input
  pub says : EndsWith Usage old new result ⊎ EndsWith Memory old new result

-- ---- an input that ends in time

-- the line `quit`, with its line feed, stands among the first 2 ^ 32 bytes
pub record QuitsInTime (bytes : Text) : Type 0 where
  pub before : List Text
  pub line : Text
  pub after : Text
  pub joined : bytes ≡ flat_map ended (before ++ line ∷ []) ++ after
  pub whole : HaveNoFeed (before ++ line ∷ [])
  pub quit : line_command line ≡ said.quit
  pub in_time : length (flat_map ended (before ++ line ∷ [])) ≤ 2 ^ 32
