-- Inside the crate: what a check of files answers.
use Rattle.std.specs.Prelude.{◌≡◌, ◌≢◌, ℕ, List, Some, Result, Ok, Err}
use Rattle.cdb_source.specs.declared.source.Source.{Source}
use Rattle.cdb_source.specs.declared.head.SourceHead.{SourceHead}
use Rattle.cdb_source.specs.Texts.{source_text}
use Rattle.cdb_model.specs.Maps.{Text, Content, FileMap, size_of}
use Rattle.cdb_check.specs.Expected.{SourceFile, Spells}
use Rattle.cdb_check.specs.declared.outcome.CheckError.{CheckError}
use Rattle.cdb_check.specs.declared.outcome.CheckError.TheVariants.{Memory, Fault, Differs}

-- one file was looked at: it is what it must be, or it isn't and its path is told
abbrev pub Judges : {T : Type 0} → Type 0 → Text → Result T CheckError → Type 0
Judges Met q (Ok _) = Met
Judges Met q (Err Memory) = Unit {0}
Judges Met q (Err Fault) = Unit {0}
Judges Met q (Err (Differs path)) = (Met → ⊥) × (path.bytes ≡ q)

-- a source file gave a source, or none that it should give
abbrev pub GivesFile : FileMap → SourceFile → Result Source CheckError → Type 0
GivesFile m file (Ok s) = Spells m file s
GivesFile m file (Err Memory) = Unit {0}
GivesFile m file (Err Fault) = Unit {0}
GivesFile m file (Err (Differs path)) = ((s : Source) → Spells m file s → ⊥)

-- bytes give a source with a head, or there is none whose file they are
abbrev pub DecodesTo : List ℕ → SourceHead → Result Source CheckError → Type 0
DecodesTo bytes head (Ok s) = (bytes ≡ source_text s) × (s.head ≡ head)
DecodesTo bytes head (Err Memory) = Unit {0}
DecodesTo bytes head (Err Fault) = Unit {0}
DecodesTo bytes head (Err (Differs path)) = (s : Source) → bytes ≡ source_text s → s.head ≡ head → ⊥

-- memory ran out, or this path is told
abbrev pub IsAbout : Text → CheckError → Type 0
IsAbout q Memory = Unit {0}
IsAbout q Fault = ⊥
IsAbout q (Differs path) = path.bytes ≡ q

-- a file was not read: where it differs, its size is another
abbrev pub Unread : Content → ℕ → CheckError → Type 0
Unread content len Memory = Unit {0}
Unread content len Fault = Unit {0}
Unread content len (Differs path) = size_of content ≢ Some len

-- the path that is told, if one is
abbrev pub IsAt : Text → CheckError → Type 0
IsAt q Memory = Unit {0}
IsAt q Fault = Unit {0}
IsAt q (Differs path) = path.bytes ≡ q
