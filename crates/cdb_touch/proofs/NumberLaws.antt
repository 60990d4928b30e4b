-- Laws of the numbers of tiles.
use Rattle.std.proofs.Common.{◌≡◌, ℕ, ◌+◌, ◌-◌, ◌*◌, ◌/◌, ◌%◌, ◌^◌, ◌<◌, ◌≤◌, inl, inr, sym, ◌∙◌, ap, subst, arith}
use Prim.Native.Nat.{◌∣◌}
use Rattle.std.proofs.lemmas.Bool.{cases_lt}
use Rattle.std.proofs.lemmas.Nat.{one_shl, mul-add-lt}
use Rattle.std.proofs.lemmas.Nat.Gcd.{dvd_of_mod-eq-zero}
use Rattle.std.proofs.Math.Nat.{mul-div_cancel, div-mul_cancel, mul-le-mul_right, mul_comm}
use Rattle.cdb_grid.specs.Units.{degree, step, tiles_of, side_of, width_at, row_of, column_of}
use Rattle.cdb_grid.specs.Grid.{Place, width_of}
use Rattle.cdb_grid.specs.Tiles.{IsInGeocell, tile_height, tile_side, tile_step_east, element_corner, IsInTile}
use Rattle.cdb_grid.specs.declared.tile.Tile.{Tile}
use Rattle.cdb_grid.proofs.UnitLaws.{width-dvd, all_rows, tiles-pos}
use Rattle.cdb_grid.proofs.GridLaws.{next_multiple, quotient_of}
use Rattle.cdb_grid.proofs.TileLaws.{row_of-below, column_of-below, tile_height-most, tile_in_cell}
use Rattle.cdb_touch.specs.inside.Numbers.{tile_width, row_number, column_number}

pub tiles_shifted : (h : ℕ) → (1 * 2 ^ (24 - h)) % 2 ^ 64 ≡ tiles_of h
tiles_shifted h = let lt : 24 - h < 64 = omega arith in one_shl (24 - h) 64 lt

-- the tiles of a height along a side of a geocell share out its degree
pub degree-tiles : (h : ℕ) → h ≤ 34 → degree / tiles_of h ≡ side_of h * step h
degree-tiles h le =
    let e : side_of h * step h * tiles_of h ≡ degree = turned (side_of h) (step h) (tiles_of h) ∙ all_rows h le in
    ap (λ n. n / tiles_of h) (sym e) ∙ mul-div_cancel (side_of h * step h) (tiles-pos h)
  where
    turned : (a b c : ℕ) → a * b * c ≡ c * a * b
    turned a b c = omega arith

numbered : (y tiles u side r s d : ℕ) → tiles * side * s ≡ d → y * d + (u * side + r) * s
    ≡ (y * tiles + u) * (side * s) + r * s
numbered y tiles u side r s d e = ap (λ n. y * n + (u * side + r) * s) (sym e) ∙ spread
  where
    spread : y * (tiles * side * s) + (u * side + r) * s ≡ (y * tiles + u) * (side * s) + r * s
    spread = omega arith

numbered_east : (x w m tiles u side r s d : ℕ) → m * w ≡ x → tiles * side * s ≡ d
    → x * d + (u * side + r) * (w * s) ≡ (m * tiles + u) * (side * (w * s)) + r * (w * s)
numbered_east x w m tiles u side r s d ex e =
    ap (λ n. n * d + (u * side + r) * (w * s)) (sym ex)
    ∙ ap (λ n. m * w * n + (u * side + r) * (w * s)) (sym e) ∙ spread
  where
    spread : m * w * (tiles * side * s) + (u * side + r) * (w * s) ≡ (m * tiles + u) * (side * (w * s)) + r * (w * s)
    spread = omega arith

-- the edges of a tile by its numbers
pub element-north : (t : Tile) (r c : ℕ) → (element_corner t r c).north
    ≡ row_number t * (tile_side t * step (tile_height t)) + r * step (tile_height t)
element-north t r c = let h : ℕ = tile_height t in
    numbered (row_of t.cell.lat) (tiles_of h) t.up (side_of h) r (step h) degree (all_rows h (tile_height-most t))

pub column-width : (t : Tile) → column_of t.cell.lon / tile_width t * tile_width t ≡ column_of t.cell.lon
column-width t = div-mul_cancel (tile_width t) (dvd_of_mod-eq-zero (tile_width t) t.cell.on_grid)

pub element-east : (t : Tile) (r c : ℕ) → (element_corner t r c).east
    ≡ column_number t * (tile_side t * tile_step_east t) + c * tile_step_east t
element-east t r c = let h : ℕ = tile_height t in
    numbered_east (column_of t.cell.lon) (tile_width t) (column_of t.cell.lon / tile_width t) (tiles_of h)
    t.right (side_of h) c (step h) degree
    (column-width t) (all_rows h (tile_height-most t))

-- a tile holds the places of its row and its column
pub record InNumbers (t : Tile) (p : Place) : Type 0 where
  pub south : row_number t * (tile_side t * step (tile_height t)) ≤ p.north
  pub north : p.north < row_number t * (tile_side t * step (tile_height t)) + tile_side t * step (tile_height t)
  pub west : column_number t * (tile_side t * tile_step_east t) ≤ p.east
  pub east : p.east < column_number t * (tile_side t * tile_step_east t) + tile_side t * tile_step_east t

pub numbers_from_tile : (t : Tile) (p : Place) → IsInTile t p → InNumbers t p
numbers_from_tile t p i =
    let s : (element_corner t 0 0).north ≤ p.north = i.south in
    let n : p.north < (element_corner t (tile_side t) 0).north = i.north in
    let w : (element_corner t 0 0).east ≤ p.east = i.west in
    let e : p.east < (element_corner t 0 (tile_side t)).east = i.east in
    record {
      south = first_edge _ (step (tile_height t)) p.north (subst (λ m. m ≤ p.north) (element-north t 0 0) s);
      north = subst (λ m. p.north < m) (element-north t (tile_side t) 0) n;
      west = first_edge _ (tile_step_east t) p.east (subst (λ m. m ≤ p.east) (element-east t 0 0) w);
      east = subst (λ m. p.east < m) (element-east t 0 (tile_side t)) e;
    }
  where
    first_edge : (a s n : ℕ) → a + 0 * s ≤ n → a ≤ n
    first_edge a s n le = omega arith

pub tile_from_numbers : (t : Tile) (p : Place) → InNumbers t p → IsInTile t p
tile_from_numbers t p i =
    record {
      south = subst (λ m. m ≤ p.north) (sym (element-north t 0 0))
          (first_edge _ (step (tile_height t)) p.north i.south);
      north = subst (λ m. p.north < m) (sym (element-north t (tile_side t) 0)) i.north;
      west = subst (λ m. m ≤ p.east) (sym (element-east t 0 0)) (first_edge _ (tile_step_east t) p.east i.west);
      east = subst (λ m. p.east < m) (sym (element-east t 0 (tile_side t))) i.east;
    }
  where
    first_edge : (a s n : ℕ) → a ≤ n → a + 0 * s ≤ n
    first_edge a s n le = omega arith

-- the places of a tile's row have its width
pub width_in_row : (t : Tile) (p : Place) → IsInTile t p → width_of p ≡ tile_width t
unfolding width_of
width_in_row t p i = let g : IsInGeocell t.cell p = tile_in_cell t p i in
    let s = g.south in let n = g.north in
    ap width_at (quotient_of (row_of t.cell.lat) degree p.north s (omega arith))

-- a tile lies on the globe
pub on_globe : (t : Tile) (p : Place) → IsInTile t p → (p.north < 180 * degree) × (p.east < 360 * degree)
on_globe t p i = let g : IsInGeocell t.cell p = tile_in_cell t p i in
    let s = g.south in let n = g.north in let w = g.west in let e = g.east in
    let y : row_of t.cell.lat < 180 = row_of-below t.cell.lat t.cell.north in
    let x : column_of t.cell.lon < 360 = column_of-below t.cell.lon t.cell.east in
    let q : column_of t.cell.lon + tile_width t ≤ 360 = next_multiple (tile_width t) (column_of t.cell.lon) 360
    (dvd_of_mod-eq-zero (tile_width t) t.cell.on_grid) (width-dvd (row_of t.cell.lat)) x in (
      below_degrees p.north (row_of t.cell.lat + 1) 180 n (omega arith),
      below_degrees p.east (column_of t.cell.lon + tile_width t) 360 e q,
    )
  where
    below_degrees : (n a b : ℕ) → n < a * degree → a ≤ b → n < b * degree
    below_degrees n a b lt le = omega arith

-- the numbers of a tile are those of its height
pub row_number-below : (t : Tile) → row_number t < 180 * tiles_of (tile_height t)
row_number-below t = subst (λ n. row_number t < n) (mul_comm (tiles_of (tile_height t)) 180)
    (mul-add-lt (row_of t.cell.lat) (tiles_of (tile_height t)) t.up 180
    (row_of-below t.cell.lat t.cell.north) t.up_in_range)

pub column-below : (t : Tile) → column_of t.cell.lon / tile_width t < 360 / tile_width t
column-below t =
    let w : ℕ = tile_width t in let x : ℕ = column_of t.cell.lon in
    let a : x / w * w ≡ x = column-width t in
    let b : 360 / w * w ≡ 360 = div-mul_cancel w (width-dvd (row_of t.cell.lat)) in
    let lt : x < 360 = column_of-below t.cell.lon t.cell.east in
    less_times (x / w) (360 / w) w (omega arith)
  where
    less_times : (m n w : ℕ) → m * w < n * w → m < n
    less_times m n w lt = elim (cases_lt m n) [
      | inl p ↦ p
      | inr p ↦ let q : n * w ≤ m * w = mul-le-mul_right w p in
          absurd (omega arith)
    ]

pub column_number-below : (t : Tile) → column_number t < 360 / tile_width t * tiles_of (tile_height t)
column_number-below t = subst (λ n. column_number t < n) (mul_comm (tiles_of (tile_height t)) (360 / tile_width t))
    (mul-add-lt (column_of t.cell.lon / tile_width t) (tiles_of (tile_height t)) t.right (360 / tile_width t)
    (column-below t) t.right_in_range)

-- the rows and the columns of a height fill the globe
pub rows-fill : (h : ℕ) → h ≤ 34 → 180 * tiles_of h * (side_of h * step h) ≡ 180 * degree
rows-fill h le = let e : tiles_of h * side_of h * step h ≡ degree = all_rows h le in
    spread (tiles_of h) (side_of h) (step h) ∙ ap (λ n. 180 * n) e
  where
    spread : (a b c : ℕ) → 180 * a * (b * c) ≡ 180 * (a * b * c)
    spread a b c = omega arith

pub wide-extent : (w h : ℕ) → w * (side_of h * step h) ≡ side_of h * (w * step h)
wide-extent w h = turned w (side_of h) (step h)
  where
    turned : (a b c : ℕ) → a * (b * c) ≡ b * (a * c)
    turned a b c = omega arith

pub columns-fill : (w h : ℕ) → h ≤ 34 → w ∣ 360 → 360 / w * tiles_of h * (side_of h * (w * step h)) ≡ 360 * degree
columns-fill w h le d = let e : tiles_of h * side_of h * step h ≡ degree = all_rows h le in
    let q : 360 / w * w ≡ 360 = div-mul_cancel w d in
    spread (360 / w) w (tiles_of h) (side_of h) (step h) ∙ ap (λ n. n * (tiles_of h * side_of h * step h)) q
    ∙ ap (λ n. 360 * n) e
  where
    spread : (m w a b c : ℕ) → m * a * (b * (w * c)) ≡ m * w * (a * b * c)
    spread m w a b c = omega arith
