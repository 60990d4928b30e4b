-- For which causes a TIFF file is refused. Each row of the table says by itself, by tags and byte
-- places, whether it applies to the bytes and at which place; the cause is the first that applies.
use Rattle.std.specs.Prelude.{ℕ, ◌+◌, ◌*◌, Bool, ◌==◌, ◌&&◌, ◌||◌, not, nat_eq, nat_lt, nat_le, if◌then◌else◌, Option, Some, None, option_map, is_none, find, is_some, List, [], ◌∷◌, length, drop, zip}
use Rattle.std.specs.List.{starts_with, list_any}
use Rattle.cdb_tiff_base.specs.Numbers.{Bytes}
use Rattle.cdb_tiff_base.specs.Entries.{is_sound}
use Rattle.cdb_tiff_base.specs.First.{first_below}
use Rattle.cdb_tiff_base.specs.Directory.{order_of, directory, entry_count, entries, tag_entry, count_of_entry}
use Rattle.cdb_tiff_base.specs.Strips.{image_width, image_length, bits_per_sample, compression, fill_order, samples_per_pixel, rows_per_strip, sample_format, strips, need, strip_offset, strip_byte_count}
use Rattle.cdb_tiff_base.specs.declared.entry.Entry.{Entry}
use Rattle.cdb_tiff_base.specs.declared.tiff_cause.TiffCause.{TiffCause}
use Rattle.cdb_tiff_base.specs.declared.tiff_cause.TiffCause.TheVariants as cause
use Rattle.cdb_tiff_base.specs.declared.tiff_error.TiffError.{TiffError}

-- a row of the table: the cause and its place, where it applies
abbrev pub Row : Type 0
Row = Option TiffError

-- the row of a cause that applies where the test holds, at this place
abbrev pub applies : Bool → TiffCause → ℕ → Row
applies test c at = if test then Some (record { cause = c; at = at }) else None

-- the row of a cause that applies at an entry, if there is such an entry
abbrev pub at_entry : TiffCause → Option Entry → Row
at_entry c e = option_map (λ (e : Entry). record { cause = c; at = e.at }) e

-- the row of a cause that applies where the test holds, at the entry of the tag
abbrev pub at_tag : Bytes → Bool → TiffCause → ℕ → Row
at_tag b test c tag = if test then at_entry c (tag_entry b tag) else None

-- the first four bytes of a TIFF file: `II` or `MM`, and 42 in that order
abbrev pub is_tiff : Bytes → Bool
is_tiff b = starts_with nat_eq b (73 ∷ 73 ∷ 42 ∷ 0 ∷ []) || starts_with nat_eq b (77 ∷ 77 ∷ 0 ∷ 42 ∷ [])

-- the first four bytes of a BigTIFF file: 43 in place of 42
abbrev pub is_big_tiff : Bytes → Bool
is_big_tiff b = starts_with nat_eq b (73 ∷ 73 ∷ 43 ∷ 0 ∷ []) || starts_with nat_eq b (77 ∷ 77 ∷ 0 ∷ 43 ∷ [])

-- row 1: fewer than 8 bytes, or no header
unfoldable pub not_tiff : Bytes → Row
not_tiff b = applies (nat_lt (length b) 8 || not (is_tiff b || is_big_tiff b)) cause.NotTiff 0

-- row 2
unfoldable pub big_tiff : Bytes → Row
big_tiff b = applies (is_big_tiff b) cause.BigTiff 2

-- row 3: the number of entries, the entries and the place of the next directory aren't whole
unfoldable pub bad_directory : Bytes → Row
bad_directory b =
    applies (nat_lt (length b) (directory b + 2) || nat_lt (length b) (directory b + 2 + 12 * entry_count b + 4))
    cause.Directory 4

-- each entry but the last, with the entry after it
abbrev pub neighbours : List Entry → List (Entry × Entry)
neighbours es = zip es (drop 1 es)

-- the first entry whose tag isn't above the tag of the entry before
unfoldable pub unordered : List Entry → Option Entry
unordered es = option_map (λ (p : Entry × Entry). p.1)
    (find (λ (p : Entry × Entry). nat_le p.1.tag p.0.tag) (neighbours es))

-- row 4: the first such entry
unfoldable pub bad_order : Bytes → Row
bad_order b = at_entry cause.Order (unordered (entries b))

-- the tags whose values are read
abbrev pub is_used : ℕ → Bool
is_used tag = list_any (λ used. used == tag) (256 ∷ 257 ∷ 258 ∷ 259 ∷ 266 ∷ 273 ∷ 277 ∷ 278 ∷ 279 ∷ 339 ∷ [])

-- the tags of an image that is cut into tiles
abbrev pub is_tile_tag : ℕ → Bool
is_tile_tag tag = nat_le 322 tag && nat_le tag 325

-- an entry with a used tag has a type that isn't read, no value, or values that aren't whole in the file
unfoldable pub is_unsound : Bytes → Entry → Bool
is_unsound b e = is_used e.tag && not (is_sound (order_of b) b e)

-- row 5: the first such entry
unfoldable pub bad_kind : Bytes → Row
bad_kind b = at_entry cause.Kind (find (is_unsound b) (entries b))

-- row 6: the first entry with such a tag
unfoldable pub tiled : Bytes → Row
tiled b = at_entry cause.Tiled (find (λ (e : Entry). is_tile_tag e.tag) (entries b))

-- row 7: the least of the tags without a default that isn't there
unfoldable pub absent : Bytes → Row
absent b = option_map (λ tag. record { cause = cause.Absent tag; at = directory b })
    (find (λ tag. is_none (tag_entry b tag)) (256 ∷ 257 ∷ 273 ∷ 279 ∷ []))

-- row 8
unfoldable pub compressed : Bytes → Row
compressed b = at_tag b (not (compression b == 1)) cause.Compressed 259

-- row 9
unfoldable pub several_samples : Bytes → Row
several_samples b = at_tag b (not (samples_per_pixel b == 1)) cause.Samples 277

-- row 10
unfoldable pub floating : Bytes → Row
floating b = at_tag b (sample_format b == 3) cause.Float 339

-- samples that are read: 8 or 16 bits, unsigned or in two's complement, the highest bit of a byte first
abbrev pub is_readable : ℕ → ℕ → ℕ → Bool
is_readable bits format fill = ((bits == 8 || bits == 16) && (format == 1 || format == 2)) && fill == 1

-- row 11
unfoldable pub bad_bits : Bytes → Row
bad_bits b = applies (not (is_readable (bits_per_sample b) (sample_format b) (fill_order b))) cause.Bits (directory b)

-- a width and a length from 1 to 65,536, and at most 16,777,216 pixels
abbrev pub is_size : ℕ → ℕ → Bool
is_size w l = ((nat_lt 0 w && nat_le w 65536) && (nat_lt 0 l && nat_le l 65536)) && nat_le (w * l) 16777216

-- row 12
unfoldable pub bad_size : Bytes → Row
bad_size b = applies (not (is_size (image_width b) (image_length b))) cause.Size (directory b)

-- a strip has fewer bytes than its samples need
unfoldable pub lacks_bytes : Bytes → Bool
lacks_bytes b = is_some (first_below (λ k. nat_lt (strip_byte_count b k) (need b k)) (strips b))

-- row 13: no rows in a strip, another number of offsets or of byte counts than of strips, or a strip
-- with too few bytes
unfoldable pub bad_strips : Bytes → Row
bad_strips b =
    at_tag b
    (rows_per_strip b == 0
    || (not (count_of_entry b 273 == strips b) || (not (count_of_entry b 279 == strips b) || lacks_bytes b)))
    cause.Strips 273

-- row 14: a strip's offset and need pass the end of the file; the place is the first such offset
unfoldable pub is_cut_short : Bytes → Row
is_cut_short b = option_map (λ k. record { cause = cause.Short; at = strip_offset b k })
    (first_below (λ k. nat_lt (length b) (strip_offset b k + need b k)) (strips b))

-- the table of causes, in its order
abbrev pub table : Bytes → List Row
table b =
    not_tiff b ∷ big_tiff b ∷ bad_directory b ∷ bad_order b ∷ bad_kind b ∷ tiled b ∷ absent b
    ∷ compressed b ∷ several_samples b ∷ floating b ∷ bad_bits b ∷ bad_size b ∷ bad_strips b ∷ is_cut_short b ∷ []

-- the first row that applies
abbrev pub first_of : List Row → Row
first_of [] = None
first_of (None ∷ rows) = first_of rows
first_of (Some e ∷ rows) = Some e

-- the cause for which a file is refused, if there is one
unfoldable pub cause_of : Bytes → Row
cause_of b = first_of (table b)
