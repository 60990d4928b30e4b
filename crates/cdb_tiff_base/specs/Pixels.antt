-- The pixels of a TIFF file (TIFF 6.0 sections 3, 8 and 19): the sample at the place that the strip of
-- its row gives.
use Rattle.std.specs.Prelude.{ℕ, ℤ, pos, ◌+◌, ◌*◌, ◌/◌, ◌%◌, Bool, ◌==◌, if◌then◌else◌, drop}
use Rattle.std.specs.Int.{w8, w16, cast_signed}
use Rattle.cdb_tiff_base.specs.Numbers.{Bytes, number}
use Rattle.cdb_tiff_base.specs.Directory.{order_of}
use Rattle.cdb_tiff_base.specs.Strips.{image_width, bits_per_sample, rows_per_strip, sample_format, strip_offset}
use Rattle.cdb_tiff_base.specs.declared.order.Order.{Order}

-- the sample of 8 or 16 bits at the head of the bytes; a signed one is in two's complement
unfoldable pub sample : Order → ℕ → Bool → Bytes → ℤ
sample order bits signed b =
    if bits == 8
    then (if signed then cast_signed w8 (number order 1 b) else pos (number order 1 b))
    else (if signed then cast_signed w16 (number order 2 b) else pos (number order 2 b))

-- the byte place of row r, from the top: its place in its strip, each row before it there taking its
-- pixels' bytes
unfoldable pub row_place : Bytes → ℕ → ℕ
row_place b r = strip_offset b (r / rows_per_strip b) + (r % rows_per_strip b) * image_width b * (bits_per_sample b / 8)

-- the pixel of row r, from the top, and column c, from the left
unfoldable pub pixel : Bytes → ℕ → ℕ → ℤ
pixel b r c = sample (order_of b) (bits_per_sample b) (sample_format b == 2)
    (drop (row_place b r + c * (bits_per_sample b / 8)) b)
