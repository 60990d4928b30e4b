-- Inside the crate: the rows of a finer tile's file under a row of a coarser tile.
use Rattle.std.specs.Prelude.{◌≡◌, ℕ, ◌+◌, ◌*◌, ◌/◌, ◌≤◌, ℤ, List, length}
use Rattle.cdb_grid.specs.Frames.{number_in}
use Rattle.cdb_model.specs.declared.limits.TheConstants.{TILE_HEAD_BYTES}

-- A file of a tile has two rows under a row of half as many columns.
pub record HasFinerRows (bytes : List ℕ) (side bits row cols : ℕ) : Type 0 where
  pub high : 2 * row + 2 ≤ side
  pub wide : 2 * cols ≤ side
  pub small : side ≤ 1024
  pub size : length bytes ≡ TILE_HEAD_BYTES + side * side * (bits / 8)

-- What a rule makes of a number and of the four numbers of two rows under its column.
abbrev pub four_in_rows : (ℤ → ℤ → ℤ → ℤ → ℤ → ℤ) → List ℤ → List ℤ → ℕ → ℤ → ℤ
four_in_rows f south north k own =
    f own (number_in south (2 * k)) (number_in south (2 * k + 1))
    (number_in north (2 * k)) (number_in north (2 * k + 1))
