-- The fields of an image and its strips (TIFF 6.0 sections 3 and 8). Of a tag that says one thing of
-- the image the first value counts, and a tag that isn't there stands for its default.
use Rattle.std.specs.Prelude.{ℕ, ◌-◌, ◌*◌, ◌/◌, min}
use Rattle.std.specs.Int.{div_ceil}
use Rattle.cdb_tiff_base.specs.Numbers.{Bytes}
use Rattle.cdb_tiff_base.specs.Directory.{value_or}

-- pixels of a row
unfoldable pub image_width : Bytes → ℕ
image_width b = value_or b 256 0 0

-- rows of the image
unfoldable pub image_length : Bytes → ℕ
image_length b = value_or b 257 0 0

unfoldable pub bits_per_sample : Bytes → ℕ
bits_per_sample b = value_or b 258 0 1

unfoldable pub compression : Bytes → ℕ
compression b = value_or b 259 0 1

unfoldable pub fill_order : Bytes → ℕ
fill_order b = value_or b 266 0 1

unfoldable pub samples_per_pixel : Bytes → ℕ
samples_per_pixel b = value_or b 277 0 1

unfoldable pub rows_per_strip : Bytes → ℕ
rows_per_strip b = value_or b 278 0 4294967295

-- 1: unsigned, 2: two's complement, 3: floating point
unfoldable pub sample_format : Bytes → ℕ
sample_format b = value_or b 339 0 1

-- the number of strips: the length divided by the rows per strip, rounded up
unfoldable pub strips : Bytes → ℕ
strips b = div_ceil (image_length b) (rows_per_strip b)

-- the rows of strip k, from 0: the rows per strip, or the rows that are left for the last strip
unfoldable pub strip_rows : Bytes → ℕ → ℕ
strip_rows b k = min (rows_per_strip b) (image_length b - k * rows_per_strip b)

-- the bytes that the samples of strip k need
unfoldable pub need : Bytes → ℕ → ℕ
need b k = strip_rows b k * image_width b * (bits_per_sample b / 8)

-- the byte place of strip k
unfoldable pub strip_offset : Bytes → ℕ → ℕ
strip_offset b k = value_or b 273 k 0

-- the bytes that strip k has
unfoldable pub strip_byte_count : Bytes → ℕ → ℕ
strip_byte_count b k = value_or b 279 k 0
