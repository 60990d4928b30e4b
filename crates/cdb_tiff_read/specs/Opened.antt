-- An image that was opened from the bytes of a TIFF file.
use Rattle.std.specs.Prelude.{◌≡◌, ◌==◌, Some, None, length}
use Rattle.cdb_tiff_base.specs.Numbers.{Bytes}
use Rattle.cdb_tiff_base.specs.Directory.{order_of, tag_entry}
use Rattle.cdb_tiff_base.specs.Strips.{image_width, image_length, bits_per_sample, rows_per_strip, sample_format}
use Rattle.cdb_tiff_base.specs.Causes.{cause_of}
use Rattle.cdb_tiff_read.specs.declared.image.Image.{Image}

-- the image's fields are those that the tags of the file give it
pub record HasTagFields (b : Bytes) (image : Image) : Type 0 where
  pub width : image.width ≡ image_width b
  pub length : image.length ≡ image_length b
  pub bits : image.bits ≡ bits_per_sample b
  pub signed : image.signed ≡ (sample_format b == 2)
  pub order : image.order ≡ order_of b
  pub rows_per_strip : image.rows_per_strip ≡ rows_per_strip b
  pub offsets : tag_entry b 273 ≡ Some image.offsets

-- the file has no cause to be refused, and the image is its image
pub record IsOpened (b : Bytes) (image : Image) : Type 0 where
  pub accepted : cause_of b ≡ None
  pub fields : HasTagFields b image
