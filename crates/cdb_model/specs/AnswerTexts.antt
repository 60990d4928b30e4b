-- How answers are written, and which of them say that a device failed.
use Rattle.std.specs.Prelude.{ℕ, ◌+◌, List, [], ◌∷◌, ◌++◌, length, codes, Option, Some, None}
use Rattle.std.specs.List.{flat_map}
use Rattle.cdb_tiff_base.specs.Words.{word_of}
use Rattle.cdb_model.specs.Text.{Text, ended, numbered}
use Rattle.cdb_model.specs.Events as machine
use Rattle.cdb_model.specs.Events.{Answer}

-- the size that a damaged file should have and the one that it has, or none where it isn't there
abbrev pub sizes_text : Text → ℕ → Option ℕ → Text
sizes_text text expected (Some found) = numbered text (expected ∷ found ∷ [])
sizes_text text expected None = numbered text (expected ∷ []) ++ codes " none"

-- a line, and after that of a tile the tile's bytes
unfoldable pub text_of_answer : Answer → Text
text_of_answer (machine.source n) = ended (numbered (codes "source") (n ∷ []))
text_of_answer (machine.begun version files) = ended (numbered (codes "begun") (version ∷ files ∷ []))
text_of_answer machine.going = ended (codes "going")
text_of_answer (machine.published version) = ended (numbered (codes "published") (version ∷ []))
text_of_answer (machine.session id version) = ended (numbered (codes "session") (id ∷ version ∷ []))
text_of_answer machine.missing = ended (codes "missing")
text_of_answer (machine.tile bytes) = ended (numbered (codes "tile") (length bytes ∷ [])) ++ bytes
text_of_answer machine.closed = ended (codes "closed")
text_of_answer (machine.versions count) = ended (numbered (codes "versions") (count ∷ []))
text_of_answer machine.long = ended (codes "refused long")
text_of_answer machine.syntax = ended (codes "refused syntax")
text_of_answer (machine.name place) = ended (numbered (codes "refused name") (place ∷ []))
text_of_answer machine.halted = ended (codes "refused halted")
text_of_answer machine.busy = ended (codes "refused busy")
text_of_answer machine.unknown = ended (codes "refused session")
text_of_answer machine.many = ended (codes "refused sessions")
text_of_answer machine.nothing = ended (codes "refused nothing")
text_of_answer machine.full = ended (codes "refused full")
text_of_answer machine.shelf = ended (codes "refused shelf")
text_of_answer machine.absent = ended (codes "refused absent")
text_of_answer machine.too_big = ended (codes "refused input big")
text_of_answer (machine.input cause) = ended (codes "refused input " ++ word_of cause)
text_of_answer machine.range = ended (codes "refused range")
text_of_answer (machine.large load) = ended (numbered (codes "refused large") (load ∷ []))
text_of_answer (machine.entries count) = ended (numbered (codes "refused entries") (count ∷ []))
text_of_answer machine.full_of_versions = ended (codes "refused versions")
text_of_answer machine.fault = ended (codes "refused fault")
text_of_answer (machine.damaged expected found) = ended (sizes_text (codes "refused damaged") expected found)
text_of_answer machine.memory = ended (codes "refused memory")
text_of_answer machine.late_fault = ended (codes "background fault")
text_of_answer (machine.late_damaged expected found) = ended (sizes_text (codes "background damaged") expected found)

abbrev pub texts_of : List Answer → Text
texts_of answers = flat_map text_of_answer answers

-- ---- failures of the devices

-- 1 for an answer that says that the shelf failed, or the disk
abbrev pub shelf_fault : Answer → ℕ
shelf_fault machine.shelf = 1
shelf_fault _ = 0

abbrev pub disk_fault : Answer → ℕ
disk_fault machine.fault = 1
disk_fault machine.late_fault = 1
disk_fault _ = 0

-- how many answers of a kind there are
abbrev pub tally : (Answer → ℕ) → List Answer → ℕ
tally kind [] = 0
tally kind (answer ∷ answers) = kind answer + tally kind answers
