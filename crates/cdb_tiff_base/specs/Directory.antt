-- The first directory of a TIFF file and the values of its tags (TIFF 6.0 section 2).
use Rattle.std.specs.Prelude.{ℕ, ◌+◌, ◌*◌, ◌==◌, if◌then◌else◌, Option, option_map, option_and_then, unwrap_or, List, map, find, drop, slice_index}
use Rattle.std.specs.List.{range_with_len}
use Rattle.cdb_tiff_base.specs.Numbers.{Bytes, number}
use Rattle.cdb_tiff_base.specs.Entries.{entry_at, entry_value}
use Rattle.cdb_tiff_base.specs.declared.entry.Entry.{Entry}
use Rattle.cdb_tiff_base.specs.declared.order.Order.{Order}
use Rattle.cdb_tiff_base.specs.declared.order.Order.TheVariants.{Little, Big}

-- the byte order of a file, by its first byte: `I` or `M`
unfoldable pub order_of : Bytes → Order
order_of b = if slice_index b 0 == 73 then Little else Big

-- the place of the first directory: the number in bytes 4 to 7
unfoldable pub directory : Bytes → ℕ
directory b = number (order_of b) 4 (drop 4 b)

-- the number of its entries: the two bytes at its place
unfoldable pub entry_count : Bytes → ℕ
entry_count b = number (order_of b) 2 (drop (directory b) b)

-- entry k, from 0: the entries follow their number, 12 bytes each
unfoldable pub entry : Bytes → ℕ → Entry
entry b k = entry_at (order_of b) b (directory b + 2 + 12 * k)

-- the entries, in their order
unfoldable pub entries : Bytes → List Entry
entries b = map (entry b) (range_with_len 0 (entry_count b))

-- the first entry with a tag, if there is one
unfoldable pub tag_entry : Bytes → ℕ → Option Entry
tag_entry b tag = find (λ (e : Entry). e.tag == tag) (entries b)

-- the value at an index of the entry of a tag, or what stands in its place where there is none
unfoldable pub value_or : Bytes → ℕ → ℕ → ℕ → ℕ
value_or b tag index otherwise =
    unwrap_or (option_and_then (λ e. entry_value (order_of b) b e index) (tag_entry b tag)) otherwise

-- the number of values of the entry of a tag
unfoldable pub count_of_entry : Bytes → ℕ → ℕ
count_of_entry b tag = unwrap_or (option_map (λ (e : Entry). e.count) (tag_entry b tag)) 0
