-- What the head of a written tile says, whatever follows it.
use Rattle.std.proofs.Common.{◌≡◌, ℕ, ◌*◌, ◌^◌, ◌<◌, ◌||◌, true, None, [], ◌∷◌, ◌++◌, length, refl}
use Rattle.byteorder.specs.Numbers.{little_number-reads_back}
use Rattle.cdb_tiff_base.specs.Numbers.{Bytes}
use Rattle.cdb_tiff_base.specs.Entries.{entry_value, is_sound}
use Rattle.cdb_tiff_base.specs.Directory.{order_of, directory, entry_count, entries, entry, tag_entry, value_or, count_of_entry}
use Rattle.cdb_tiff_base.specs.Strips.{image_width, image_length, bits_per_sample, compression, fill_order, samples_per_pixel, rows_per_strip, sample_format, strip_offset, strip_byte_count}
use Rattle.cdb_tiff_base.specs.Causes.{is_tiff, is_big_tiff, big_tiff, bad_order, unordered, bad_kind, is_unsound, tiled, absent, compressed, several_samples, floating, bad_bits}
use Rattle.cdb_tiff_base.specs.WrittenTile.{written_head}
use Rattle.cdb_tiff_base.specs.declared.order.Order.TheVariants.{Little}

pub head_length : (side : ℕ) → length (written_head side 16) ≡ 186
unfolding written_head
head_length side = refl

-- the head of a tile of one value, byte by byte
head_of_one :
    written_head 1 16
    ≡ 73 ∷ 73 ∷ 42 ∷ 0 ∷ 8 ∷ 0 ∷ 0 ∷ 0
    ∷ 13 ∷ 0
    ∷ 0 ∷ 1 ∷ 3 ∷ 0 ∷ 1 ∷ 0 ∷ 0 ∷ 0 ∷ 1 ∷ 0 ∷ 0 ∷ 0
    ∷ 1 ∷ 1 ∷ 3 ∷ 0 ∷ 1 ∷ 0 ∷ 0 ∷ 0 ∷ 1 ∷ 0 ∷ 0 ∷ 0
    ∷ 2 ∷ 1 ∷ 3 ∷ 0 ∷ 1 ∷ 0 ∷ 0 ∷ 0 ∷ 16 ∷ 0 ∷ 0 ∷ 0
    ∷ 3 ∷ 1 ∷ 3 ∷ 0 ∷ 1 ∷ 0 ∷ 0 ∷ 0 ∷ 1 ∷ 0 ∷ 0 ∷ 0
    ∷ 6 ∷ 1 ∷ 3 ∷ 0 ∷ 1 ∷ 0 ∷ 0 ∷ 0 ∷ 1 ∷ 0 ∷ 0 ∷ 0
    ∷ 17 ∷ 1 ∷ 4 ∷ 0 ∷ 1 ∷ 0 ∷ 0 ∷ 0 ∷ 186 ∷ 0 ∷ 0 ∷ 0
    ∷ 21 ∷ 1 ∷ 3 ∷ 0 ∷ 1 ∷ 0 ∷ 0 ∷ 0 ∷ 1 ∷ 0 ∷ 0 ∷ 0
    ∷ 22 ∷ 1 ∷ 3 ∷ 0 ∷ 1 ∷ 0 ∷ 0 ∷ 0 ∷ 1 ∷ 0 ∷ 0 ∷ 0
    ∷ 23 ∷ 1 ∷ 4 ∷ 0 ∷ 1 ∷ 0 ∷ 0 ∷ 0 ∷ 2 ∷ 0 ∷ 0 ∷ 0
    ∷ 26 ∷ 1 ∷ 5 ∷ 0 ∷ 1 ∷ 0 ∷ 0 ∷ 0 ∷ 170 ∷ 0 ∷ 0 ∷ 0
    ∷ 27 ∷ 1 ∷ 5 ∷ 0 ∷ 1 ∷ 0 ∷ 0 ∷ 0 ∷ 178 ∷ 0 ∷ 0 ∷ 0
    ∷ 40 ∷ 1 ∷ 3 ∷ 0 ∷ 1 ∷ 0 ∷ 0 ∷ 0 ∷ 1 ∷ 0 ∷ 0 ∷ 0
    ∷ 83 ∷ 1 ∷ 3 ∷ 0 ∷ 1 ∷ 0 ∷ 0 ∷ 0 ∷ 2 ∷ 0 ∷ 0 ∷ 0
    ∷ 0 ∷ 0 ∷ 0 ∷ 0
    ∷ 1 ∷ 0 ∷ 0 ∷ 0 ∷ 1 ∷ 0 ∷ 0 ∷ 0
    ∷ 1 ∷ 0 ∷ 0 ∷ 0 ∷ 1 ∷ 0 ∷ 0 ∷ 0 ∷ []
unfolding written_head
head_of_one = refl

pub order_is : (side : ℕ) (rest : Bytes) → order_of (written_head side 16 ++ rest) ≡ Little
unfolding order_of written_head
order_is side rest = refl

pub directory_is : (side : ℕ) (rest : Bytes) → directory (written_head side 16 ++ rest) ≡ 8
unfolding directory order_of written_head
directory_is side rest = refl

pub count_is : (side : ℕ) (rest : Bytes) → entry_count (written_head side 16 ++ rest) ≡ 13
unfolding entry_count directory order_of written_head
count_is side rest = refl

-- the fields of the image
pub width_is : (side : ℕ) (rest : Bytes) → side < 65536 → image_width (written_head side 16 ++ rest) ≡ side
unfolding image_width value_or tag_entry entry order_of directory entry_count entries entry_value written_head
width_is side rest lt = little_number-reads_back 2 side [] lt

pub length_is : (side : ℕ) (rest : Bytes) → side < 65536 → image_length (written_head side 16 ++ rest) ≡ side
unfolding image_length value_or tag_entry entry order_of directory entry_count entries entry_value written_head
length_is side rest lt = little_number-reads_back 2 side [] lt

pub bits_are : (side : ℕ) (rest : Bytes) → bits_per_sample (written_head side 16 ++ rest) ≡ 16
unfolding bits_per_sample value_or tag_entry entry order_of directory entry_count entries entry_value written_head
bits_are side rest = refl

pub format_is : (side : ℕ) (rest : Bytes) → sample_format (written_head side 16 ++ rest) ≡ 2
unfolding sample_format value_or tag_entry entry order_of directory entry_count entries entry_value written_head
format_is side rest = refl

pub rows_per_strip_are : (side : ℕ) (rest : Bytes) → side < 65536 → rows_per_strip (written_head side 16 ++ rest) ≡ side
unfolding rows_per_strip value_or tag_entry entry order_of directory entry_count entries entry_value written_head
rows_per_strip_are side rest lt = little_number-reads_back 2 side [] lt

-- its one strip
pub offsets_are : (side : ℕ) (rest : Bytes) → count_of_entry (written_head side 16 ++ rest) 273 ≡ 1
unfolding count_of_entry tag_entry entry order_of directory entry_count entries written_head
offsets_are side rest = refl

pub byte_counts_are : (side : ℕ) (rest : Bytes) → count_of_entry (written_head side 16 ++ rest) 279 ≡ 1
unfolding count_of_entry tag_entry entry order_of directory entry_count entries written_head
byte_counts_are side rest = refl

pub offset_is : (side : ℕ) (rest : Bytes) → strip_offset (written_head side 16 ++ rest) 0 ≡ 186
unfolding strip_offset value_or tag_entry entry order_of directory entry_count entries entry_value written_head
offset_is side rest = refl

pub byte_count_is : (side : ℕ) (rest : Bytes) → side * side * 2 < 2 ^ 32
    → strip_byte_count (written_head side 16 ++ rest) 0 ≡ side * side * 2
unfolding strip_byte_count value_or tag_entry entry order_of directory entry_count entries entry_value written_head
byte_count_is side rest lt = little_number-reads_back 4 (side * side * 2) [] lt

-- the rows of the table that the head alone decides
pub tiff : (side : ℕ) (rest : Bytes)
    → (is_tiff (written_head side 16 ++ rest) || is_big_tiff (written_head side 16 ++ rest)) ≡ true
unfolding written_head
tiff side rest = refl

pub not_big : (side : ℕ) (rest : Bytes) → big_tiff (written_head side 16 ++ rest) ≡ None
unfolding big_tiff written_head
not_big side rest = refl

pub in_order : (side : ℕ) (rest : Bytes) → bad_order (written_head side 16 ++ rest) ≡ None
unfolding bad_order entry order_of directory entry_count entries written_head unordered
in_order side rest = refl

pub kinds_good : (side : ℕ) (rest : Bytes) → bad_kind (written_head side 16 ++ rest) ≡ None
unfolding bad_kind is_unsound is_sound entry order_of directory entry_count entries written_head
kinds_good side rest = refl

pub not_tiled : (side : ℕ) (rest : Bytes) → tiled (written_head side 16 ++ rest) ≡ None
unfolding tiled entry order_of directory entry_count entries written_head
not_tiled side rest = refl

pub none_absent : (side : ℕ) (rest : Bytes) → absent (written_head side 16 ++ rest) ≡ None
unfolding absent tag_entry entry order_of directory entry_count entries written_head
none_absent side rest = refl

pub not_compressed : (side : ℕ) (rest : Bytes) → compressed (written_head side 16 ++ rest) ≡ None
unfolding compressed compression value_or tag_entry entry order_of directory entry_count entries
    entry_value written_head
not_compressed side rest = refl

pub one_sample : (side : ℕ) (rest : Bytes) → several_samples (written_head side 16 ++ rest) ≡ None
unfolding several_samples samples_per_pixel value_or tag_entry entry order_of directory entry_count entries
    entry_value written_head
one_sample side rest = refl

pub not_floating : (side : ℕ) (rest : Bytes) → floating (written_head side 16 ++ rest) ≡ None
unfolding floating sample_format value_or tag_entry entry order_of directory entry_count entries
    entry_value written_head
not_floating side rest = refl

pub bits_good : (side : ℕ) (rest : Bytes) → bad_bits (written_head side 16 ++ rest) ≡ None
unfolding bad_bits bits_per_sample sample_format fill_order value_or tag_entry entry order_of directory entry_count
    entries entry_value written_head
bits_good side rest = refl
