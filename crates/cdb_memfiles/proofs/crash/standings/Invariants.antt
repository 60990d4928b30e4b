use Rattle.cdb_memfiles.specs.History.{replay}
use Rattle.cdb_memfiles.specs.Standing.{shown, ShowsFiles}
use Rattle.cdb_memfiles.proofs.crash.standings.Given as goal

abbrev pub invariant-calls : goal.invariant-calls
invariant-calls l = ShowsFiles (shown l.table) (replay l.yielded)
