-- The entries of a directory and their values (TIFF 6.0 section 2, IFD entry).
use Rattle.std.specs.Prelude.{ℕ, ◌+◌, ◌*◌, Bool, ◌==◌, ◌&&◌, nat_lt, nat_le, if◌then◌else◌, Option, Some, None, length, take, drop}
use Rattle.cdb_tiff_base.specs.Numbers.{Bytes, number}
use Rattle.cdb_tiff_base.specs.declared.entry.Entry.{Entry}
use Rattle.cdb_tiff_base.specs.declared.order.Order.{Order}

-- the entry in the 12 bytes from a place on: tag, type, count and field
abbrev pub entry_at : Order → Bytes → ℕ → Entry
entry_at order b at = record {
  at = at;
  tag = number order 2 (drop at b);
  kind = number order 2 (drop (at + 2) b);
  count = number order 4 (drop (at + 4) b);
  field = take 4 (drop (at + 8) b);
}

-- the bytes of one value of a type: BYTE (1), SHORT (3) and LONG (4); no other type is read
abbrev pub type_size : ℕ → ℕ
type_size kind = if kind == 1 then 1 else (if kind == 3 then 2 else (if kind == 4 then 4 else 0))

-- the bytes that an entry's values take together
abbrev pub size_of_values : Entry → ℕ
size_of_values e = e.count * type_size e.kind

-- the bytes in which an entry's values stand one after the other: the field where they take at most
-- four bytes, else the file from the place on that the field holds
abbrev pub values : Order → Bytes → Entry → Bytes
values order b e = if nat_le (size_of_values e) 4 then e.field else drop (number order 4 e.field) b

-- the value at an index: its type is read, the entry has more values than the index, and it is whole
unfoldable pub entry_value : Order → Bytes → Entry → ℕ → Option ℕ
entry_value order b e i =
    if (nat_lt 0 (type_size e.kind) && nat_lt i e.count) && nat_le (i * type_size e.kind + type_size e.kind)
    (length (values order b e))
    then Some (number order (type_size e.kind) (drop (i * type_size e.kind) (values order b e)))
    else None

-- the entry's type is read, it has a value, and all of its values are whole in the file
unfoldable pub is_sound : Order → Bytes → Entry → Bool
is_sound order b e = (nat_lt 0 (type_size e.kind) && nat_lt 0 e.count) && nat_le (size_of_values e)
    (length (values order b e))
