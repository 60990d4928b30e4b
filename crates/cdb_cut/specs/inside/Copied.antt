-- Inside the crate: a part of a frame that is copied into another.
use Rattle.std.specs.Prelude.{◌≡◌, ℕ, ◌+◌, ◌*◌, ◌<◌, ◌≤◌, ℤ, List, length}

-- a square frame has a row of a part that begins at a row and a column
pub record HasPart (frame : List ℤ) (side first_row first_col row cols : ℕ) : Type 0 where
  pub square : length frame ≡ side * side
  pub high : first_row + row < side
  pub wide : first_col + cols ≤ side
