-- The files of a disk in memory, kept in step with what it did.
use Rattle.std.specs.Prelude.{◌≡◌, List}
use Rattle.cdb_model.specs.Maps.{Text}
use Rattle.cdb_memfiles.specs.declared.call.Call.{Call}
use Rattle.cdb_memfiles.specs.Files.{ByPath, content}
use Rattle.cdb_memfiles.specs.History.{replay}

-- The map holds what the calls lead to.
abbrev pub IsTied : ByPath → List Call → Type 0
IsTied files calls = (q : Text) → content files q ≡ (replay calls).present q
