use Rattle.std.proofs.Common.{◌≡◌, take}
use Rattle.cdb_memfiles.specs.Crash.{only_made}
use Rattle.cdb_memfiles.specs.History.{replay}
use Rattle.cdb_memfiles.proofs.crash.made_folders.Given as goal

abbrev pub invariant-calls : goal.invariant-calls
invariant-calls l = replay l.folders.calls.items ≡ only_made (replay (take l.call-index l.calls))
