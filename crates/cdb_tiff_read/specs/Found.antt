-- What the steps of opening a file find.
use Rattle.std.specs.Prelude.{◌≡◌, ◌+◌, ◌*◌, ◌^◌, ◌<◌, ◌≤◌, Some, None, Result, Ok, Err, length}
use Rattle.cdb_tiff_base.specs.Numbers.{Bytes}
use Rattle.cdb_tiff_base.specs.Directory.{order_of, directory, entry_count}
use Rattle.cdb_tiff_base.specs.Causes.{Row}
use Rattle.cdb_tiff_base.specs.declared.tiff_error.TiffError.{TiffError}
use Rattle.cdb_tiff_read.specs.declared.directory.Directory.{Directory}

-- a check of a row of the table: it fails with the row's cause where the row applies
abbrev pub pass : Row → Result Unit TiffError
pass None = Ok tt
pass (Some e) = Err e

-- the first directory of the file, which stands whole in it
pub record IsDirectory (b : Bytes) (d : Directory) : Type 0 where
  pub order : d.order ≡ order_of b
  pub at : d.at ≡ directory b
  pub entries : d.entries ≡ entry_count b
  pub whole : directory b + 2 + 12 * d.entries + 4 ≤ length b
  pub few : length b < 2 ^ 32
