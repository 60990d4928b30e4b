-- A row of a coarser frame, by the rows of a file that lie under it.
use Rattle.std.proofs.Common.{◌≡◌, ℕ, ◌+◌, ◌-◌, ◌*◌, ◌<◌, ◌≤◌, ℤ, List, length, refl, ap, ap₂, sym, ◌∙◌, arith}
use Rattle.cdb_grid.specs.Frames.{number_in, number_at, IsRowChanged, four_under}
use Rattle.cdb_tiff_write.specs.Samples.{sample_in, frame_in}
use Rattle.cdb_tiff_write.specs.inside.Finer.{four_in_rows}
use Rattle.cdb_tiff_write.proofs.FrameIn.{frame_number}

-- a row is changed by each rule that has the same numbers there
row_same : (f g : ℕ → ℤ → ℤ) (n : ℕ) (old new : List ℤ) → IsRowChanged f n old new
    → ((k : ℕ) (own : ℤ) → k < n → f k own ≡ g k own) → IsRowChanged g n old new
row_same f g n old new is same = record {
  size = is.size;
  changed = λ k lt within. is.changed k lt within ∙ same k (number_in old k) lt;
  rest = is.rest;
}

-- the rows of a file under a row of a coarser tile are the same rows of its frame
pub row_under : (f : ℤ → ℤ → ℤ → ℤ → ℤ → ℤ) (bits : ℕ) (bytes : List ℕ) (side row n : ℕ) (old new : List ℤ)
    (south_old south north_old north : List ℤ) → 2 * row + 2 ≤ side → 2 * n ≤ side
    → side ≤ length south_old → side ≤ length north_old
    → IsRowChanged (λ k o. sample_in bits bytes ((side - 1 - 2 * row) * side + k)) (length south_old) south_old south
    → IsRowChanged (λ k o. sample_in bits bytes ((side - 2 - 2 * row) * side + k)) (length north_old) north_old north
    → IsRowChanged (four_in_rows f south north) n old new
    → IsRowChanged (four_under f (frame_in bits bytes side) side row) n old new
row_under f bits bytes side row n old new south_old south north_old north high wide ls ln is_south is_north is =
    row_same (four_in_rows f south north) (four_under f (frame_in bits bytes side) side row) n old new is (λ k own lt.
    four_same f own _ _ _ _ _ _ _ _ (of_south (2 * k) (omega arith)) (of_south (2 * k + 1) (omega arith))
    (of_north (2 * k) (omega arith)) (of_north (2 * k + 1) (omega arith)))
  where
    at : (r from j : ℕ) → r < side → from ≡ side - 1 - r → j < side
        → sample_in bits bytes (from * side + j) ≡ number_at (frame_in bits bytes side) side r j
    at r from j below e right =
        ap (λ m. sample_in bits bytes (m * side + j)) e ∙ sym (frame_number bits bytes side r j below right)

    of_south : (j : ℕ) → j < side → number_in south j ≡ number_at (frame_in bits bytes side) side (2 * row) j
    of_south j lt = let l : j < length south_old = omega arith in
        is_south.changed j l l ∙ at (2 * row) (side - 1 - 2 * row) j (omega arith) refl lt

    of_north : (j : ℕ) → j < side → number_in north j ≡ number_at (frame_in bits bytes side) side (2 * row + 1) j
    of_north j lt = let l : j < length north_old = omega arith in
        is_north.changed j l l ∙ at (2 * row + 1) (side - 2 - 2 * row) j (omega arith) (omega arith) lt

    four_same : (h : ℤ → ℤ → ℤ → ℤ → ℤ → ℤ) (own a b c d p q s t : ℤ) → a ≡ p → b ≡ q → c ≡ s → d ≡ t
        → h own a b c d ≡ h own p q s t
    four_same h own a b c d p q s t ea eb ec ed = ap₂ (λ x y. h own x y c d) ea eb ∙ ap₂ (λ x y. h own p q x y) ec ed
