-- A written tile has no cause to be refused, and its pixels are its values.
use Rattle.std.proofs.Common.{◌≡◌, ℕ, ℤ, pos, zero, suc, ◌+◌, ◌-◌, ◌*◌, ◌^◌, ◌<◌, ◌≤◌, ◌==◌, ◌||◌, true, false, None, List, [], ◌∷◌, All, FitsSigned, length, drop, nat_lt, nat_le, slice_index_or, refl, sym, ap, ◌∙◌, min, arith, length-append}
use Rattle.std.proofs.lemmas.Bool.Decides.{nat_tests}
use Rattle.std.proofs.Math.Nat.{div_self, mod_self, div-eq_of_lt, mod-eq_of_lt, mul-le-mul, mul-le-mul_right}
use Rattle.std.proofs.Math.Facts.{Fits-of_z, to_z-of_z}
use Rattle.std.proofs.Math.Seq.{drop-append-add}
use Rattle.std.specs.Int.{w16, cast_signed, cast_unsigned}
use Rattle.byteorder.specs.Endian.{little_number}
use Rattle.byteorder.specs.Numbers.{little_number-reads_back}
use Rattle.cdb_tiff_base.specs.Numbers.{Bytes}
use Rattle.cdb_tiff_base.specs.First.{first_from}
use Rattle.cdb_tiff_base.specs.Directory.{directory, entry_count, count_of_entry}
use Rattle.cdb_tiff_base.specs.Strips.{image_width, image_length, bits_per_sample, rows_per_strip, strips, strip_rows, need, strip_offset, strip_byte_count}
use Rattle.cdb_tiff_base.specs.Causes.{cause_of, is_tiff, is_big_tiff, not_tiff, bad_directory, bad_size, lacks_bytes, bad_strips, is_cut_short}
use Rattle.cdb_tiff_base.specs.Pixels.{pixel, row_place, sample}
use Rattle.cdb_tiff_base.specs.WrittenTile.{written_head, written_raster, written_tile, IsShortRaster}
use Rattle.cdb_tiff_base.proofs.WrittenHead.{head_length, order_is, directory_is, count_is, width_is, length_is, bits_are, format_is, rows_per_strip_are, offsets_are, byte_counts_are, offset_is, byte_count_is, tiff, not_big, in_order, kinds_good, not_tiled, none_absent, not_compressed, one_sample, not_floating, bits_good}

-- rows that look at the length, over any bytes
header_good : (b : Bytes) → 8 ≤ length b → (is_tiff b || is_big_tiff b) ≡ true → not_tiff b ≡ None
unfolding not_tiff
header_good b long is = let whole : nat_lt (length b) 8 ≡ false = grind (arith, nat_tests) in rw (whole, is) refl

directory_good : (b : Bytes) → 170 ≤ length b → directory b ≡ 8 → entry_count b ≡ 13 → bad_directory b ≡ None
unfolding bad_directory
directory_good b long at count =
    let first : nat_lt (length b) 10 ≡ false = grind (arith, nat_tests) in
    let last : nat_lt (length b) 170 ≡ false = grind (arith, nat_tests) in
    rw (at, count, first, last) refl

square : (side : ℕ) → side ≤ 1024 → side * side ≤ 1048576
square side most = mul-le-mul most most

size_good : (b : Bytes) (side : ℕ) → 0 < side → side ≤ 1024 → image_width b ≡ side → image_length b ≡ side
    → bad_size b ≡ None
unfolding bad_size
size_good b side some most w l =
    let all = square side most in
    let t1 : nat_lt 0 side ≡ true = grind (arith, nat_tests) in
    let t2 : nat_le side 65536 ≡ true = grind (arith, nat_tests) in
    let t3 : nat_le (side * side) 16777216 ≡ true = grind (arith, nat_tests) in
    rw (w, l, t1, t2, t3) refl

-- one strip with all rows
one_strip : (b : Bytes) (side : ℕ) → 0 < side → image_length b ≡ side → rows_per_strip b ≡ side → strips b ≡ 1
unfolding strips
one_strip b side some l rows = rw (l, rows, div_self some, mod_self) refl

whole_need : (b : Bytes) (side : ℕ) → image_width b ≡ side → image_length b ≡ side → rows_per_strip b ≡ side
    → bits_per_sample b ≡ 16 → need b 0 ≡ side * side * 2
unfolding need strip_rows
whole_need b side w l rows bits = let all : min side (side - 0 * side) ≡ side = omega arith in
    rw (w, l, rows, bits, all) refl

strips_good : (b : Bytes) (side : ℕ) → 0 < side → rows_per_strip b ≡ side → count_of_entry b 273 ≡ 1
    → count_of_entry b 279 ≡ 1 → strips b ≡ 1 → strip_byte_count b 0 ≡ need b 0 → bad_strips b ≡ None
unfolding bad_strips lacks_bytes first_from
strips_good b side some rows offsets counts one bytes =
    let t1 : (side == 0) ≡ false = grind (arith, nat_tests) in
    let t2 : nat_lt (need b 0) (need b 0) ≡ false = grind (arith, nat_tests) in
    rw (rows, t1, offsets, counts, one, bytes, t2) refl

ends_good : (b : Bytes) → strips b ≡ 1 → strip_offset b 0 + need b 0 ≤ length b → is_cut_short b ≡ None
unfolding is_cut_short first_from
ends_good b one within = let t : nat_lt (length b) (strip_offset b 0 + need b 0) ≡ false = grind (arith, nat_tests) in
    rw (one, t) refl

-- the bytes of a raster
raster_length : (values : List ℤ) → length (written_raster values) ≡ length values * 2
raster_length [] = refl
raster_length (v ∷ values) = let more = raster_length values in omega (arith, more)

raster_value : (values : List ℤ) (i : ℕ) (d : ℤ) → All (FitsSigned w16) values → i < length values
    → cast_signed w16 (little_number 2 (drop (i * 2) (written_raster values))) ≡ slice_index_or values i d
raster_value [] i d fit below = absurd (omega arith)
raster_value (v ∷ values) zero d fit below =
    let fits : FitsSigned w16 v = fit 0 d below in
    let lt : cast_unsigned w16 v < 256 ^ 2 = omega (arith, Fits-of_z {w = w16} {z = v} fits) in
    rw (little_number-reads_back 2 (cast_unsigned w16 v) (written_raster values) lt) (to_z-of_z {w = w16} {z = v} fits)
raster_value (v ∷ values) (suc i) d fit below =
    let two : suc i * 2 ≡ suc (suc (i * 2)) = omega arith in
    let lt : i < length values = omega arith in
    let rest : All (FitsSigned w16) values = λ k e h. fit (suc k) e (omega arith) in
    rw two (raster_value values i d rest lt)

tile_length : (side : ℕ) (values : List ℤ) → IsShortRaster side values → length (written_tile side values)
    ≡ 186 + side * side * 2
tile_length side values is =
    let count = is.count in
    omega (
      arith,
      length-append (written_head side 16) (written_raster values),
      head_length side,
      raster_length values,
      ap (λ (n : ℕ). n * 2) count,
    )

pub accepted : (side : ℕ) (values : List ℤ) → IsShortRaster side values → cause_of (written_tile side values) ≡ None
unfolding cause_of
accepted side values is =
    let rest : Bytes = written_raster values in
    let b : Bytes = written_tile side values in
    let some = is.some in
    let most = is.most in
    let all = square side most in
    let long = tile_length side values is in
    let small : side < 65536 = omega arith in
    let fits : side * side * 2 < 2 ^ 32 = omega (arith, all) in
    let w = width_is side rest small in
    let l = length_is side rest small in
    let rows = rows_per_strip_are side rest small in
    let needs = whole_need b side w l rows (bits_are side rest) in
    let has = byte_count_is side rest fits in
    let one = one_strip b side some l rows in
    let r1 = header_good b (omega (arith, long)) (tiff side rest) in
    let r3 = directory_good b (omega (arith, long)) (directory_is side rest) (count_is side rest) in
    let r12 = size_good b side some most w l in
    let r13 = strips_good b side some rows (offsets_are side rest) (byte_counts_are side rest) one (has ∙ sym needs) in
    let r14 = ends_good b one (omega (arith, long, needs, offset_is side rest)) in
    rw (
      r1,
      not_big side rest,
      r3,
      in_order side rest,
      kinds_good side rest,
      not_tiled side rest,
      none_absent side rest,
      not_compressed side rest,
      one_sample side rest,
      not_floating side rest,
      bits_good side rest,
      r12,
      r13,
      r14,
    ) refl

pub pixel_is : (side : ℕ) (values : List ℤ) (r c : ℕ) → IsShortRaster side values → r < side → c < side
    → pixel (written_tile side values) r c ≡ slice_index_or values (r * side + c) (pos 0)
unfolding pixel row_place sample
pixel_is side values r c is row column =
    let rest : Bytes = written_raster values in
    let most = is.most in
    let small : side < 65536 = omega arith in
    let whole : suc r * side ≤ side * side = mul-le-mul_right side row in
    let below : r * side + c < length values = omega (arith, whole, is.count) in
    let first = div-eq_of_lt row in
    let same = mod-eq_of_lt row in
    let place : 186 + r * side * 2 + c * 2 ≡ length (written_head side 16) + (r * side + c) * 2 =
    omega (arith, head_length side) in
    let behind = drop-append-add (written_head side 16) rest ((r * side + c) * 2) in
    rw (
      order_is side rest,
      bits_are side rest,
      format_is side rest,
      rows_per_strip_are side rest small,
      width_is side rest small,
      first,
      same,
      offset_is side rest,
    )
    (rw (place, behind) (raster_value values (r * side + c) (pos 0) is.fit below))
