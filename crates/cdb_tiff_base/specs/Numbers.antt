-- Numbers in the bytes of a TIFF file (TIFF 6.0 section 2).
use Rattle.std.specs.Prelude.{ℕ, List}
use Rattle.byteorder.specs.Endian.{big_number, little_number}
use Rattle.cdb_tiff_base.specs.declared.order.Order.{Order}
use Rattle.cdb_tiff_base.specs.declared.order.Order.TheVariants.{Little, Big}

-- the bytes of a file
abbrev pub Bytes : Type 0
Bytes = List ℕ

-- the number in the first n bytes, in this order
abbrev pub number : Order → ℕ → Bytes → ℕ
number Little n b = little_number n b
number Big n b = big_number n b
