-- The counts of failures over real folders.
use Rattle.std.specs.Prelude.{ℕ}
use Rattle.cdb_osfiles.specs.declared.os_disk.OsDisk.{OsDisk}
use Rattle.cdb_osfiles.specs.declared.os_shelf.OsShelf.{OsShelf}

-- The last two are the runtime's types of an open file and of an open folder.
module _ {R File Dir : Type 0} where
  -- How many calls of a disk have failed.
  abbrev pub disk_faults : OsDisk R File Dir → ℕ
  disk_faults disk = disk.faults

  -- How many calls of a shelf have failed.
  abbrev pub shelf_faults : OsShelf R File Dir → ℕ
  shelf_faults shelf = shelf.faults
