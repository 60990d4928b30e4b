-- The tiles of a height that a source reaches in a row of geocells are a rectangle.
use Rattle.std.proofs.Common.{◌≡◌, ℕ, suc, ◌+◌, ◌*◌, ◌/◌, ◌%◌, ◌<◌, ◌≤◌, ◌↔◌, inl, inr, min, max, sym, ◌∙◌, ap, subst, arith}
use Rattle.std.proofs.lemmas.Bool.{cases_lt}
use Rattle.std.proofs.lemmas.Grind.{div_ceil_times}
use Rattle.std.proofs.lemmas.Nat.{div-add-mod'}
use Rattle.std.proofs.Math.Nat.{mul-le-mul_right}
use Rattle.cdb_grid.specs.Units.{tiles_of, width_at, row_of}
use Rattle.cdb_grid.specs.Tiles.{tile_height}
use Rattle.cdb_grid.specs.declared.family.Family.{Family}
use Rattle.cdb_grid.specs.declared.tile.Tile.{Tile}
use Rattle.cdb_source.specs.declared.head.SourceHead.{SourceHead}
use Rattle.cdb_source.specs.Reached.{kind_of, source_height, Reaches}
use Rattle.cdb_touch.specs.declared.axis.Run.{Run}
use Rattle.cdb_touch.specs.inside.Numbers.{tile_width, row_number, column_number, IsInRectangle}
use Rattle.cdb_touch.specs.inside.Reach.{HasRow, HasColumn, IsOfRow}
use Rattle.cdb_touch.proofs.NumberLaws.{row_number-below, column_number-below}
use Rattle.cdb_touch.proofs.ReachLaws.{reaches_to, reaches_from}

-- the part that a number stands in, among the parts that a run of numbers takes
pub part_in_run : (first end n a size b : ℕ) → 1 ≤ size → a * size + b ≡ n → b < size → first ≤ n → n < end
    → (first / size ≤ a) × (a < end / size + min 1 (end % size))
part_in_run first end n a size b p e lt from to =
    let q : first / size * size + first % size ≡ first = div-add-mod' first size in
    let t : (end ≤ (end / size + min 1 (end % size)) * size) × ((end / size + min 1 (end % size)) * size < end + size) =
    div_ceil_times end size p in
    let up : end ≤ (end / size + min 1 (end % size)) * size = t.0 in
    (at_most (first / size) a size (omega arith), less (end / size + min 1 (end % size)) a size (omega arith))
  where
    at_most : (x a s : ℕ) → x * s < a * s + s → x ≤ a
    at_most x a s lt = elim (cases_lt a x) [
      | inl p ↦ let m : suc a * s ≤ x * s = mul-le-mul_right s p in
          absurd (omega arith)
      | inr p ↦ p
    ]

    less : (x a s : ℕ) → a * s < x * s → a < x
    less x a s lt = elim (cases_lt a x) [
      | inl p ↦ p
      | inr p ↦ let m : x * s ≤ a * s = mul-le-mul_right s p in
          absurd (omega arith)
    ]

-- so many parts hold a run
pub parts_most : (end size all : ℕ) → 1 ≤ size → end ≤ all * size → end / size + min 1 (end % size) ≤ all
parts_most end size all p le =
    let t : (end ≤ (end / size + min 1 (end % size)) * size) × ((end / size + min 1 (end % size)) * size < end + size) =
    div_ceil_times end size p in
    let high : (end / size + min 1 (end % size)) * size < end + size = t.1 in
    at_most (end / size + min 1 (end % size)) all size (omega arith)
  where
    at_most : (x a s : ℕ) → x * s < a * s + s → x ≤ a
    at_most x a s lt = elim (cases_lt a x) [
      | inl p ↦ let m : suc a * s ≤ x * s = mul-le-mul_right s p in
          absurd (omega arith)
      | inr p ↦ p
    ]

-- the rows of tiles in a row of geocells
pub number_in_row : (t : Tile) (h y : ℕ) → tile_height t ≡ h → row_of t.cell.lat ≡ y
    → (y * tiles_of h ≤ row_number t) × (row_number t < y * tiles_of h + tiles_of h)
number_in_row t h y eh ey =
    bounds (row_of t.cell.lat) (tiles_of (tile_height t)) t.up y (tiles_of h) (ap tiles_of eh) ey t.up_in_range
  where
    bounds : (a n b y m : ℕ) → n ≡ m → a ≡ y → b < n → (y * m ≤ a * n + b) × (a * n + b < y * m + m)
    bounds a n b y m en ea lt =
        let e : a * n ≡ y * m = ap (λ k. k * n) ea ∙ ap (λ k. y * k) en in (omega arith, omega arith)

pub row_of_number : (t : Tile) (h y : ℕ) → tile_height t ≡ h → y * tiles_of h ≤ row_number t
    → row_number t < y * tiles_of h + tiles_of h
    → row_of t.cell.lat ≡ y
row_of_number t h y eh low high =
    one (row_of t.cell.lat) (tiles_of (tile_height t)) t.up y (tiles_of h) (ap tiles_of eh) t.up_in_range low high
  where
    less : (a y n : ℕ) → a < y → a * n + n ≤ y * n
    less a y n p = let m : suc a * n ≤ y * n = mul-le-mul_right n p in omega arith

    one : (a n b y m : ℕ) → n ≡ m → b < n → y * m ≤ a * n + b → a * n + b < y * m + m → a ≡ y
    one a n b y m e lt low high =
        let f : y * n ≡ y * m = ap (λ k. y * k) e in
        elim (cases_lt a y) [
          | inl p ↦ let q : a * n + n ≤ y * n = less a y n p in absurd (omega arith)
          | inr p ↦ elim (cases_lt y a) [
            | inl q ↦ let r : y * n + n ≤ a * n = less y a n q in absurd (omega arith)
            | inr q ↦ omega arith
          ]
        ]

-- the geocells of the tiles of a height that a source reaches
pub geocell_in_run : (head : SourceHead) (h first end size : ℕ) (t : Tile) → size ≡ tiles_of h → 1 ≤ size
    → ((n : ℕ) → n < 180 * tiles_of h → HasRow head h n ↔ ((first ≤ n) × (n < end))) → Reaches head t
    → tile_height t ≡ h
    → (first / size ≤ row_of t.cell.lat) × (row_of t.cell.lat < end / size + min 1 (end % size))
geocell_in_run head h first end size t es p each r eh =
    let has : HasRow head h (row_number t) = subst (λ k. HasRow head k (row_number t)) eh (reaches_to head t r).0 in
    let below : row_number t < 180 * tiles_of h = subst (λ k. row_number t < 180 * tiles_of k) eh
    (row_number-below t) in
    let b : (first ≤ row_number t) × (row_number t < end) = (each (row_number t) below).0 has in
    let e : tiles_of (tile_height t) ≡ size = ap tiles_of eh ∙ sym es in
    let up : t.up < size = subst (λ k. t.up < k) e t.up_in_range in
    part_in_run first end (row_number t) (row_of t.cell.lat) size t.up p
    (ap (λ k. row_of t.cell.lat * k + t.up) (sym e)) up b.0 b.1

pub rectangle_exact : (head : SourceHead) (f : Family) (h y : ℕ) (rows within columns : Run) (t : Tile)
    → head.kind ≡ kind_of f → source_height head ≤ h → y < 180
    → ((n : ℕ) → n < 180 * tiles_of h → HasRow head h n ↔ ((rows.first ≤ n) × (n < rows.end)))
    → ((n : ℕ) → n < 360 / width_at y * tiles_of h → HasColumn head h (width_at y) n
    ↔ ((columns.first ≤ n) × (n < columns.end)))
    → within.first ≡ max rows.first (y * tiles_of h) → within.end ≡ min rows.end (y * tiles_of h + tiles_of h)
    → IsInRectangle f h within columns t ↔ IsOfRow head f h y t
rectangle_exact head f h y rows within columns t ek fine yb each_row each_column low high = (to, from)
  where
    below : tile_height t ≡ h → row_number t < 180 * tiles_of h
    below eh = subst (λ k. row_number t < 180 * tiles_of k) eh (row_number-below t)

    below_east : tile_height t ≡ h → row_of t.cell.lat ≡ y → column_number t < 360 / width_at y * tiles_of h
    below_east eh ey = subst (λ k. column_number t < 360 / width_at k * tiles_of h) ey
        (subst (λ k. column_number t < 360 / tile_width t * tiles_of k) eh (column_number-below t))

    to : IsInRectangle f h within columns t → IsOfRow head f h y t
    to i =
        let a = i.row_from in let b = i.row_below in let eh = i.height_is in
        let ey : row_of t.cell.lat ≡ y = row_of_number t h y eh (omega arith) (omega arith) in
        let has_row : HasRow head h (row_number t) =
        (each_row (row_number t) (below eh)).1 (omega arith, omega arith) in
        let has_column : HasColumn head h (width_at y) (column_number t) =
        (each_column (column_number t) (below_east eh ey)).1 (i.column_from, i.column_below) in
        record {
          reaches = reaches_from head t (ek ∙ ap kind_of (sym i.family_is))
              (subst (λ k. source_height head ≤ k) (sym eh) fine)
              (subst (λ k. HasRow head k (row_number t)) (sym eh) has_row)
              (subst (λ k. HasColumn head (tile_height t) (width_at k) (column_number t)) (sym ey)
              (subst (λ k. HasColumn head k (width_at y) (column_number t)) (sym eh) has_column));
          family_is = i.family_is;
          height_is = eh;
          row_is = ey;
        }

    from : IsOfRow head f h y t → IsInRectangle f h within columns t
    from r =
        let eh = r.height_is in let ey = r.row_is in
        let has = reaches_to head t r.reaches in
        let row : (rows.first ≤ row_number t) × (row_number t < rows.end) =
        (each_row (row_number t) (below eh)).0 (subst (λ k. HasRow head k (row_number t)) eh has.0) in
        let column : (columns.first ≤ column_number t) × (column_number t < columns.end) =
        (each_column (column_number t) (below_east eh ey)).0
        (subst (λ k. HasColumn head k (width_at y) (column_number t)) eh
        (subst (λ k. HasColumn head (tile_height t) (width_at k) (column_number t)) ey has.1)) in
        let there = number_in_row t h y eh ey in
        let a = row.0 in let b = row.1 in let c = there.0 in let d = there.1 in
        record {
          family_is = r.family_is;
          height_is = eh;
          row_from = omega arith;
          row_below = omega arith;
          column_from = column.0;
          column_below = column.1;
        }
