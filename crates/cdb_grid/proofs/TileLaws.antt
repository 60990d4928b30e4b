-- Laws of geocells and tiles as sets of places.
use Rattle.std.proofs.Common.{◌≡◌, ℕ, suc, ◌+◌, ◌-◌, ◌*◌, ◌/◌, ◌%◌, ◌<◌, ◌≤◌, inl, inr, ℤ, pos, negsuc, ◌≤ℤ◌, sym, ◌∙◌, ap, subst, arith}
use Prim.Native.Nat.{◌∣◌}
use Rattle.std.proofs.lemmas.Bool.{cases_lt}
use Rattle.std.proofs.lemmas.Int.{ints}
use Rattle.std.proofs.lemmas.Nat.{div-add-mod'}
use Rattle.std.proofs.lemmas.Nat.Gcd.{dvd_of_mod-eq-zero}
use Rattle.std.proofs.Math.Nat.{mul-le-mul_right, mul-mod_left}
use Rattle.cdb_grid.specs.Units.{degree, height_of, step, tiles_of, side_of, width_at, row_of, column_of}
use Rattle.cdb_grid.specs.Grid.{Place}
use Rattle.cdb_grid.specs.Tiles.{IsInGeocell, tile_height, tile_side, tile_step_east, IsInTile}
use Rattle.cdb_grid.specs.declared.geocell.Geocell.{Geocell}
use Rattle.cdb_grid.specs.declared.tile.Tile.{Tile}
use Rattle.cdb_grid.proofs.UnitLaws.{all_rows, height-most}
use Rattle.cdb_grid.proofs.GridLaws.{next_multiple, quotient_of}
use Rattle.cdb_grid.proofs.Same.{same_geocell, same_tile}

-- whole degrees tell a latitude and a longitude
pub row_of-same : (y z : ℤ) → negsuc 89 ≤ℤ y → negsuc 89 ≤ℤ z → row_of y ≡ row_of z → y ≡ z
row_of-same (pos y) (pos z) a b e = omega (arith, ints)
row_of-same (pos y) (negsuc z) a b e = omega (arith, ints)
row_of-same (negsuc y) (pos z) a b e = omega (arith, ints)
row_of-same (negsuc y) (negsuc z) a b e = omega (arith, ints)

pub column_of-same : (y z : ℤ) → negsuc 179 ≤ℤ y → negsuc 179 ≤ℤ z → column_of y ≡ column_of z → y ≡ z
column_of-same (pos y) (pos z) a b e = omega (arith, ints)
column_of-same (pos y) (negsuc z) a b e = omega (arith, ints)
column_of-same (negsuc y) (pos z) a b e = omega (arith, ints)
column_of-same (negsuc y) (negsuc z) a b e = omega (arith, ints)

pub row_of-below : (y : ℤ) → y ≤ℤ pos 89 → row_of y < 180
row_of-below (pos y) a = omega (arith, ints)
row_of-below (negsuc y) a = omega arith

pub column_of-below : (x : ℤ) → x ≤ℤ pos 179 → column_of x < 360
column_of-below (pos x) a = omega (arith, ints)
column_of-below (negsuc x) a = omega arith

-- less its remainder, a number is a multiple
pub multiple_below : (x v w : ℕ) → v ≡ w → 1 ≤ v → (x - x % v) % w ≡ 0
multiple_below x v w e p =
    let d : x ≡ x / v * v + x % v = omega (arith, div-add-mod' x v) in
    let m : x - x % v ≡ x / v * v = omega arith in
    ap (λ n. (x - x % v) % n) (sym e) ∙ ap (λ n. n % v) m ∙ mul-mod_left (x / v) v

-- two columns of one width whose geocells share a place are one
one_column : (w a b e : ℕ) → w ∣ a → w ∣ b → a * degree ≤ e → e < (a + w) * degree → b * degree ≤ e
    → e < (b + w) * degree → a ≡ b
one_column w a b e d f al ah bl bh =
    elim (cases_lt a b) [
      | inl p ↦ let q : a + w ≤ b = next_multiple w a b d f p in omega arith
      | inr p ↦ elim (cases_lt b a) [
        | inl r ↦ let q : b + w ≤ a = next_multiple w b a f d r in omega arith
        | inr r ↦ omega arith
      ]
    ]

-- a place lies in one geocell
pub one_geocell : (a b : Geocell) (p : Place) → IsInGeocell a p → IsInGeocell b p → a ≡ b
one_geocell a b p i j =
    let s = i.south in let n = i.north in let s' = j.south in let n' = j.north in
    let ra : p.north / degree ≡ row_of a.lat = quotient_of (row_of a.lat) degree p.north s (omega arith) in
    let rb : p.north / degree ≡ row_of b.lat = quotient_of (row_of b.lat) degree p.north s' (omega arith) in
    let e : row_of b.lat ≡ row_of a.lat = sym rb ∙ ra in
    let w : ℕ = width_at (row_of a.lat) in
    let db : column_of b.lon % w ≡ 0 = subst (λ r. column_of b.lon % width_at r ≡ 0) e b.on_grid in
    let eb : p.east < (column_of b.lon + w) * degree =
    subst (λ r. p.east < (column_of b.lon + width_at r) * degree) e j.east in
    let c : column_of a.lon ≡ column_of b.lon = one_column w (column_of a.lon) (column_of b.lon) p.east
    (dvd_of_mod-eq-zero w a.on_grid) (dvd_of_mod-eq-zero w db) i.west i.east j.west eb in
    same_geocell a b (row_of-same a.lat b.lat a.south b.south (sym e)) (column_of-same a.lon b.lon a.west b.west c)

-- the height of a tile is that of a level
pub tile_height-most : (t : Tile) → tile_height t ≤ 34
tile_height-most t = height-most t.level.number t.level.coarsest

-- the steps of an index stand in the part that its tile takes
pub part_within : (base u side k s : ℕ) → k < side
    → (base + (u * side + 0) * s ≤ base + (u * side + k) * s)
    × (base + (u * side + k) * s + s ≤ base + (u * side + side) * s)
part_within base u side k s lt =
    let low : (u * side + 0) * s ≤ (u * side + k) * s = mul-le-mul_right s (omega arith) in
    let high : (u * side + k + 1) * s ≤ (u * side + side) * s = mul-le-mul_right s (omega arith) in
    (omega arith, omega arith)

-- the number of the part that holds a place
part_of : (base u side s n : ℕ) → base + (u * side + 0) * s ≤ n → n < base + (u * side + side) * s
    → (n - base) / (side * s) ≡ u
part_of base u side s n low high = quotient_of u (side * s) (n - base) (omega arith) (omega arith)

-- the part of the steps that an index takes ends within the degree
pub part_inside : (h u : ℕ) → h ≤ 34 → u < tiles_of h → (u * side_of h + side_of h) * step h ≤ degree
part_inside h u le lt =
    let whole : tiles_of h * side_of h * step h ≡ degree = all_rows h le in
    let rows : suc u * side_of h ≤ tiles_of h * side_of h = mul-le-mul_right (side_of h) lt in
    let steps : (u * side_of h + side_of h) * step h ≤ tiles_of h * side_of h * step h =
    mul-le-mul_right (step h) (omega arith) in
    omega arith

-- as many units, so many times as wide
pub times_wide : (w n s d : ℕ) → n * s ≤ d → n * (w * s) ≤ w * d
times_wide w n s d le = let m : n * s * w ≤ d * w = mul-le-mul_right w le in omega arith

-- a tile lies in its geocell
pub tile_in_cell : (t : Tile) (p : Place) → IsInTile t p → IsInGeocell t.cell p
tile_in_cell t p i =
    let h : ℕ = tile_height t in
    let w : ℕ = width_at (row_of t.cell.lat) in
    let up : (t.up * side_of h + side_of h) * step h ≤ degree = part_inside h t.up (tile_height-most t) t.up_in_range in
    let right : (t.right * side_of h + side_of h) * step h ≤ degree =
    part_inside h t.right (tile_height-most t) t.right_in_range in
    let wide : (t.right * side_of h + side_of h) * (w * step h) ≤ w * degree =
    times_wide w (t.right * side_of h + side_of h) (step h) degree right in
    let s = i.south in let n = i.north in let a = i.west in let b = i.east in
    record {
      south = from_above (row_of t.cell.lat * degree) _ p.north s;
      north = below_sum (row_of t.cell.lat) 1 _ p.north n (omega arith);
      west = from_above (column_of t.cell.lon * degree) _ p.east a;
      east = below_sum (column_of t.cell.lon) w _ p.east b wide;
    }
  where
    from_above : (base k n : ℕ) → base + k ≤ n → base ≤ n
    from_above base k n le = omega arith

    below_sum : (row w k n : ℕ) → n < row * degree + k → k ≤ w * degree → n < (row + w) * degree
    below_sum row w k n lt le = omega arith

-- a place lies in one tile of a family and a level
pub one_tile : (a b : Tile) (p : Place) → a.family ≡ b.family → a.level.number ≡ b.level.number → IsInTile a p
    → IsInTile b p → a ≡ b
one_tile a b p ef el i j =
    let ec : a.cell ≡ b.cell = one_geocell a.cell b.cell p (tile_in_cell a p i) (tile_in_cell b p j) in
    let eh : tile_height a ≡ tile_height b = ap height_of el in
    let ua : (p.north - row_of a.cell.lat * degree) / (tile_side a * step (tile_height a)) ≡ a.up =
    part_of (row_of a.cell.lat * degree) a.up (tile_side a) (step (tile_height a)) p.north i.south i.north in
    let ub : (p.north - row_of b.cell.lat * degree) / (tile_side b * step (tile_height b)) ≡ b.up =
    part_of (row_of b.cell.lat * degree) b.up (tile_side b) (step (tile_height b)) p.north j.south j.north in
    let ra : (p.east - column_of a.cell.lon * degree) / (tile_side a * tile_step_east a) ≡ a.right =
    part_of (column_of a.cell.lon * degree) a.right (tile_side a) (tile_step_east a) p.east i.west i.east in
    let rb : (p.east - column_of b.cell.lon * degree) / (tile_side b * tile_step_east b) ≡ b.right =
    part_of (column_of b.cell.lon * degree) b.right (tile_side b) (tile_step_east b) p.east j.west j.east in
    let up_at : Geocell → ℕ → ℕ = λ c h. (p.north - row_of c.lat * degree) / (side_of h * step h) in
    let right_at : Geocell → ℕ
    → ℕ = λ c h. (p.east - column_of c.lon * degree) / (side_of h * (width_at (row_of c.lat) * step h)) in
    same_tile a b ef ec el
    (sym ua ∙ ap (λ c. up_at c (tile_height a)) ec ∙ ap (up_at b.cell) eh ∙ ub)
    (sym ra ∙ ap (λ c. right_at c (tile_height a)) ec ∙ ap (right_at b.cell) eh ∙ rb)
