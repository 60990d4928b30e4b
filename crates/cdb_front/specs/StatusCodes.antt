-- The exit status of each way in which a run ends, and the line that it writes before.
use Rattle.std.specs.Prelude.{ℕ, [], ◌∷◌, ◌++◌, codes}
use Rattle.cdb_model.specs.AnswerTexts.{sizes_text}
use Rattle.cdb_model.specs.Text.{Text, ended, numbered}
use Rattle.cdb_front.specs.declared.exit_status.Status.{Status}
use Rattle.cdb_front.specs.declared.exit_status.Status.TheVariants.{Done, Memory, Usage, InputFault, OutputFault, StoreFault, NotAStore, TooLong, Differs, Refused, Damaged}
use Rattle.cdb_front.specs.declared.exit_status.Limit.{Limit}
use Rattle.cdb_front.specs.declared.exit_status.Limit.TheVariants.{Entries, Versions}

abbrev pub code_of : Status → ℕ
code_of Done = 0
code_of Memory = 1
code_of Usage = 2
code_of InputFault = 3
code_of OutputFault = 4
code_of StoreFault = 5
code_of (NotAStore version place) = 6
code_of TooLong = 7
code_of (Differs path) = 8
code_of (Refused limit) = 9
code_of (Damaged expected found) = 11

-- the line of a limit
abbrev pub limit_text : Limit → Text
limit_text (Entries count) = ended (numbered (codes "cdb: refused entries") (count ∷ []))
limit_text Versions = ended (codes "cdb: refused versions")

-- the line that is written before a run ends so
abbrev pub status_line : Status → Text
status_line Done = []
status_line Memory = ended (codes "cdb: out of memory")
status_line Usage = ended (codes "cdb: usage")
status_line InputFault = ended (codes "cdb: input fault")
status_line OutputFault = []
status_line StoreFault = ended (codes "cdb: store fault")
status_line (NotAStore version place) = ended (numbered (codes "cdb: not a store") (version ∷ place ∷ []))
status_line TooLong = ended (codes "cdb: input too long")
status_line (Differs path) = ended (codes "cdb: differs " ++ path.bytes)
status_line (Refused limit) = limit_text limit
status_line (Damaged expected found) = ended (sizes_text (codes "cdb: damaged") expected found)
