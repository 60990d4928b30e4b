-- The posts of a source as values.
use Rattle.std.proofs.Common.{◌≡◌, ℕ, ◌+◌, ◌*◌, ◌<◌, ◌≤◌, ℤ, pos, List, length, get_or, true, arith, nat_lt, ◌&&◌, le_refl, refl, None}
use Rattle.std.specs.Prelude.{slice_get, option_and_then, if◌then◌else◌}
use Rattle.std.proofs.lemmas.Bool.Decides.{nat_tests}
use Rattle.std.proofs.lemmas.Option.{slice_get-get_or}
use Rattle.std.proofs.lemmas.Nat.{row_fits}
use Rattle.cdb_source.specs.declared.kind.Kind.{Kind}
use Rattle.cdb_source.specs.Sample.{value_of}

pub both_tests : (row col rows cols : ℕ) → row < rows → col < cols → (nat_lt row rows && nat_lt col cols) ≡ true
both_tests row col rows cols h k = grind (arith, nat_tests)

pub index_below : (row col rows cols : ℕ) → row < rows → col < cols → row * cols + col < rows * cols
index_below row col rows cols h k = let f : row * cols + cols ≤ rows * cols =
    row_fits row cols rows cols h (le_refl cols) in omega arith

-- a post within the raster is the one that its index names
pub post_is : (kind : Kind) (posts : List ℤ) (row col rows cols : ℕ) → row < rows → col < cols
    → length posts ≡ rows * cols
    → value_of kind (get_or posts (row * cols + col) (pos 0))
    ≡ (if nat_lt row rows && nat_lt col cols then option_and_then (value_of kind)
    (slice_get posts (row * cols + col)) else None)
post_is kind posts row col rows cols h k count =
    let below : row * cols + col < length posts = rw count (index_below row col rows cols h k) in
    rw (both_tests row col rows cols h k, slice_get-get_or posts (row * cols + col) (pos 0) below) refl
