-- The rows of an accepted image stand within its file.
use Rattle.std.proofs.Common.{◌≡◌, ℕ, suc, zero, ◌+◌, ◌-◌, ◌*◌, ◌/◌, ◌%◌, ◌<◌, ◌≤◌, ◌==◌, Bool, true, false, Option, Some, None, option_map, List, [], ◌∷◌, length, nat_lt, slice_index_or, zero-add, refl, min, arith}
use Rattle.std.specs.Int.{div_ceil}
use Rattle.std.proofs.lemmas.Bool.Decides.{nat_tests}
use Rattle.std.proofs.lemmas.Grind.{div_ceil_times}
use Rattle.std.proofs.lemmas.Nat.{div_below}
use Rattle.std.proofs.Math.Nat.{mul-le-mul_right}
use Rattle.cdb_tiff_base.specs.Numbers.{Bytes}
use Rattle.cdb_tiff_base.specs.Directory.{tag_entry}
use Rattle.cdb_tiff_base.specs.First.{first_below}
use Rattle.cdb_tiff_base.specs.Strips.{image_length, image_width, bits_per_sample, rows_per_strip, strips, strip_rows, strip_offset, need}
use Rattle.cdb_tiff_base.specs.Pixels.{row_place}
use Rattle.cdb_tiff_base.specs.Causes.{Row, first_of, table, cause_of, bad_strips, is_cut_short}
use Rattle.cdb_tiff_base.specs.declared.entry.Entry.{Entry}
use Rattle.cdb_tiff_read.specs.declared.image.Image.{Image}
use Rattle.cdb_tiff_read.specs.Opened.{IsOpened}
use Rattle.cdb_tiff_read.proofs.First.{none_found}

-- the row of an image stands in a strip
pub strip_below : (r rows count : ℕ) → 0 < rows → r < count → r / rows < div_ceil count rows
strip_below r rows count some lt =
    let up = (div_ceil_times count rows some).0 in
    let below : r < div_ceil count rows * rows = omega (arith, up) in div_below r rows (div_ceil count rows) some below

-- it is one of the strip's rows
pub row_below : (r rows count : ℕ) → 0 < rows → r < count → r % rows + 1 ≤ min rows (count - r / rows * rows)
row_below r rows count some lt = omega arith

-- so it ends where the strip ends, at the latest
pub row_ends : (m rows width size : ℕ) → m + 1 ≤ rows → m * width * size + width * size ≤ rows * width * size
row_ends m rows width size le =
    let wide : (m + 1) * width * size ≤ rows * width * size = mul-le-mul_right size (mul-le-mul_right width le) in
    omega (arith, wide)

-- no row of a table applies where no first row does
pub rows_none : (rows : List Row) (i : ℕ) → first_of rows ≡ None → slice_index_or rows i None ≡ None
rows_none [] i e = refl
rows_none (None ∷ rows) zero e = refl
rows_none (None ∷ rows) (suc i) e = rows_none rows i e
rows_none (Some c ∷ rows) i e = absurd (cc)

pub map_none : {X Y : Type 0} (f : X → Y) (x : Option X) → option_map f x ≡ None → x ≡ None
map_none f None e = refl
map_none f (Some v) e = absurd (cc)

-- the two rows on strips don't apply to an accepted file
pub accepted : (b : Bytes) → cause_of b ≡ None → (bad_strips b ≡ None) × (is_cut_short b ≡ None)
unfolding cause_of
accepted b e = (rows_none (table b) 12 e, rows_none (table b) 13 e)

-- a strip of an accepted file has rows
pub some_rows : (b : Bytes) (e : Entry) → bad_strips b ≡ None → tag_entry b 273 ≡ Some e → 0 < rows_per_strip b
unfolding bad_strips
some_rows b e none there = by (rows_per_strip b == 0) refl
  where
    by : (t : Bool) → (rows_per_strip b == 0) ≡ t → 0 < rows_per_strip b
    by true is = let f = rw (is, there) at none in absurd (cc)
    by false is = grind (arith, nat_tests)

-- each strip of an accepted file ends within it
pub strip_ends : (b : Bytes) (k : ℕ) → is_cut_short b ≡ None → k < strips b → strip_offset b k + need b k ≤ length b
unfolding is_cut_short
strip_ends b k none lt =
    let test : ℕ → Bool = λ k. nat_lt (length b) (strip_offset b k + need b k) in
    let found : first_below test (strips b) ≡ None = map_none _ _ none in
    let fails : nat_lt (length b) (strip_offset b k + need b k) ≡ false =
    rw zero-add at (none_found test (strips b) 0 k found lt) in
    grind (arith, nat_tests, fails)

-- each row of an accepted file ends within it
pub row_whole : (b : Bytes) (e : Entry) (r : ℕ) → cause_of b ≡ None → tag_entry b 273 ≡ Some e → r < image_length b
    → row_place b r + image_width b * (bits_per_sample b / 8) ≤ length b
unfolding row_place need strip_rows strips
row_whole b e r ok there lt =
    let rows = accepted b ok in
    let some : 0 < rows_per_strip b = some_rows b e rows.0 there in
    let inside = strip_below r (rows_per_strip b) (image_length b) some lt in
    let ends = strip_ends b (r / rows_per_strip b) rows.1 inside in
    let last = row_below r (rows_per_strip b) (image_length b) some lt in
    let here = row_ends (r % rows_per_strip b) _ (image_width b) (bits_per_sample b / 8) last in
    omega (arith, ends, here)

-- the same of an image that was opened
pub opened_rows : (b : Bytes) (image : Image) → IsOpened b image → 0 < image.rows_per_strip
opened_rows b image o =
    rw o.fields.rows_per_strip (some_rows b image.offsets (accepted b o.accepted).0 o.fields.offsets)

pub opened_whole : (b : Bytes) (image : Image) (r : ℕ) → IsOpened b image → r < image.length
    → strip_offset b
    (r / image.rows_per_strip) + r % image.rows_per_strip * image.width * (image.bits / 8)
    + image.width * (image.bits / 8) ≤ length b
unfolding row_place
opened_whole b image r o lt =
    let below : r < image_length b = rw o.fields.length at lt in
    rw (o.fields.rows_per_strip, o.fields.width, o.fields.bits)
    (row_whole b image.offsets r o.accepted o.fields.offsets below)
