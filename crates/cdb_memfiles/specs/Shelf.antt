-- A shelf in memory.
use Rattle.cdb_model.specs.Maps.{FileMap}
use Rattle.cdb_memfiles.specs.Files.{content}
use Rattle.cdb_memfiles.specs.declared.schedule.Schedule.{Schedule}
use Rattle.cdb_memfiles.specs.declared.shelf.MemShelf.{MemShelf}

-- What it holds.
abbrev pub shelf_files : MemShelf → FileMap
shelf_files shelf = content shelf.files

-- Its calls so far, and those that fail.
abbrev pub shelf_schedule : MemShelf → Schedule
shelf_schedule shelf = shelf.schedule
