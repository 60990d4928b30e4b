-- The answers of the program: which answer of the machine each is, and how it is written.
use Rattle.std.specs.Prelude.{◌≡◌, ℕ, List, [], ◌∷◌, ◌++◌, length, codes, Option, None, Some}
use Rattle.cdb_tiff_base.specs.Words.{word_of}
use Rattle.cdb_model.specs.Text.{Text, ended, numbered}
use Rattle.cdb_model.specs.AnswerTexts.{sizes_text}
use Rattle.cdb_model.specs.Events as machine
use Rattle.cdb_front.specs.declared.answers.Answer.{Answer}
use Rattle.cdb_front.specs.declared.answers.Answer.TheVariants.{Source, Begun, Going, Published, Session, Missing, Tile, Closed, Versions, Long, Syntax, Name, Halted, Busy, Unknown, Many, Nothing, Full, Shelf, Absent, TooBig, Input, Range, Large, Entries, FullOfVersions, Fault, Damaged, Memory, LateFault, LateDamaged}

-- the answer of the machine, with the bytes of a tile
abbrev pub meant : Answer → List ℕ → machine.Answer
meant (Source count) reply = machine.source count
meant (Begun version files) reply = machine.begun version files
meant Going reply = machine.going
meant (Published version) reply = machine.published version
meant (Session id version) reply = machine.session id version
meant Missing reply = machine.missing
meant (Tile count) reply = machine.tile reply
meant Closed reply = machine.closed
meant (Versions newest) reply = machine.versions newest
meant Long reply = machine.long
meant Syntax reply = machine.syntax
meant (Name place) reply = machine.name place
meant Halted reply = machine.halted
meant Busy reply = machine.busy
meant Unknown reply = machine.unknown
meant Many reply = machine.many
meant Nothing reply = machine.nothing
meant Full reply = machine.full
meant Shelf reply = machine.shelf
meant Absent reply = machine.absent
meant TooBig reply = machine.too_big
meant (Input cause) reply = machine.input cause
meant Range reply = machine.range
meant (Large load) reply = machine.large load
meant (Entries count) reply = machine.entries count
meant FullOfVersions reply = machine.full_of_versions
meant Fault reply = machine.fault
meant (Damaged expected found) reply = machine.damaged expected found
meant Memory reply = machine.memory
meant LateFault reply = machine.late_fault
meant (LateDamaged expected found) reply = machine.late_damaged expected found

-- a tile's answer has the length of its bytes
abbrev pub HasLength : Answer → List ℕ → Type 0
HasLength (Tile count) reply = count ≡ length reply
HasLength _ reply = Unit {0}

-- the line of an answer
abbrev pub head_of : Answer → Text
head_of (Source count) = ended (numbered (codes "source") (count ∷ []))
head_of (Begun version files) = ended (numbered (codes "begun") (version ∷ files ∷ []))
head_of Going = ended (codes "going")
head_of (Published version) = ended (numbered (codes "published") (version ∷ []))
head_of (Session id version) = ended (numbered (codes "session") (id ∷ version ∷ []))
head_of Missing = ended (codes "missing")
head_of (Tile count) = ended (numbered (codes "tile") (count ∷ []))
head_of Closed = ended (codes "closed")
head_of (Versions newest) = ended (numbered (codes "versions") (newest ∷ []))
head_of Long = ended (codes "refused long")
head_of Syntax = ended (codes "refused syntax")
head_of (Name place) = ended (numbered (codes "refused name") (place ∷ []))
head_of Halted = ended (codes "refused halted")
head_of Busy = ended (codes "refused busy")
head_of Unknown = ended (codes "refused session")
head_of Many = ended (codes "refused sessions")
head_of Nothing = ended (codes "refused nothing")
head_of Full = ended (codes "refused full")
head_of Shelf = ended (codes "refused shelf")
head_of Absent = ended (codes "refused absent")
head_of TooBig = ended (codes "refused input big")
head_of (Input cause) = ended (codes "refused input " ++ word_of cause)
head_of Range = ended (codes "refused range")
head_of (Large load) = ended (numbered (codes "refused large") (load ∷ []))
head_of (Entries count) = ended (numbered (codes "refused entries") (count ∷ []))
head_of FullOfVersions = ended (codes "refused versions")
head_of Fault = ended (codes "refused fault")
head_of (Damaged expected found) = ended (sizes_text (codes "refused damaged") expected found)
head_of Memory = ended (codes "refused memory")
head_of LateFault = ended (codes "background fault")
head_of (LateDamaged expected found) = ended (sizes_text (codes "background damaged") expected found)

-- it doesn't say that the shelf failed
abbrev pub IsQuiet : Answer → Type 0
IsQuiet Shelf = ⊥
IsQuiet _ = Unit {0}

-- it has no bytes after its line
abbrev pub IsBare : Answer → Type 0
IsBare (Tile count) = ⊥
IsBare _ = Unit {0}

-- it has no bytes after its line, and says of no device that it failed and of no file that it is damaged
abbrev pub IsOrdinary : Answer → Type 0
IsOrdinary (Tile count) = ⊥
IsOrdinary Shelf = ⊥
IsOrdinary Fault = ⊥
IsOrdinary LateFault = ⊥
IsOrdinary (Damaged expected found) = ⊥
IsOrdinary (LateDamaged expected found) = ⊥
IsOrdinary _ = Unit {0}

-- the same, but that it may say that the shelf failed
abbrev pub IsOfShelf : Answer → Type 0
IsOfShelf Shelf = Unit {0}
IsOfShelf answer = IsOrdinary answer

-- an answer that has no bytes, and is the same whatever is kept of a tile
abbrev pub said_late : Option Answer → List ℕ → List machine.Answer
said_late None reply = []
said_late (Some answer) reply = meant answer reply ∷ []
