-- Inside the crate: the files that a store must have by its records, in the order in which they are looked at, and the
-- first of them that
use Rattle.std.specs.Prelude.{ℕ}
use Rattle.cdb_source.specs.declared.head.SourceHead.{SourceHead}
use Rattle.cdb_check.specs.Expected.{SourceFile}

abbrev pub source_file : ℕ → ℕ → SourceHead → SourceFile
source_file version number head = record { version = version; number = number; head = head }
