-- Laws of the elements of a tile.
use Rattle.std.proofs.Common.{◌≡◌, ℕ, suc, ◌+◌, ◌-◌, ◌*◌, ◌/◌, ◌<◌, ◌≤◌, inl, inr, sym, ◌∙◌, ap, subst, arith}
use Prim.Native.Nat.{◌∣◌}
use Rattle.std.proofs.lemmas.Bool.{cases_lt}
use Rattle.std.proofs.lemmas.Nat.{div-mul-add, mul-lt}
use Rattle.std.proofs.lemmas.Nat.Gcd.{dvd_trans, dvd_of_mod-eq-zero}
use Rattle.std.proofs.Math.Nat.{div-mul_cancel, dvd-mul_left, dvd-add, dvd-sub, mul-dvd-mul, mul-le-mul_right, le_of_mul-le-mul_right, lt_of_mul-lt-mul_right}
use Rattle.cdb_grid.specs.Units.{degree, step, side_of, width_at, row_of, column_of}
use Rattle.cdb_grid.specs.Grid.{Place, width_of, IsCorner}
use Rattle.cdb_grid.specs.Tiles.{tile_height, tile_side, tile_step_east, element_corner, element_place, place_in, inset, IsInTile, HasOneElement}
use Rattle.cdb_grid.specs.declared.family.Family.{Family}
use Rattle.cdb_grid.specs.declared.family.Family.TheVariants.{Elev, Low, High, Mat}
use Rattle.cdb_grid.specs.declared.tile.Tile.{Tile}
use Rattle.cdb_grid.proofs.UnitLaws.{width-pos, width-dvd, step-pos, step-suc, step-dvd-degree, along_inside, height-least}
use Rattle.cdb_grid.proofs.GridLaws.{same_place, next_multiple, quotient_of, count_step}
use Rattle.cdb_grid.proofs.TileLaws.{tile_in_cell, tile_height-most, times_wide, part_within, row_of-below, column_of-below}

-- the elements of a tile have the width of its geocell
pub width_of-element : (t : Tile) (row col : ℕ) → row < tile_side t → width_of (element_corner t row col)
    ≡ width_at (row_of t.cell.lat)
unfolding width_of
width_of-element t row col lt =
    let h : ℕ = tile_height t in
    let in_degree : (t.up * side_of h + row) * step h + step h ≤ degree =
    along_inside h t.up row (tile_height-most t) t.up_in_range lt in
    let p : 0 < step h = step-pos h in
    ap width_at (div-mul-add (row_of t.cell.lat) degree ((t.up * side_of h + row) * step h) (omega arith))

-- the columns of a geocell end within the globe
pub columns_within : (t : Tile) → column_of t.cell.lon + width_at (row_of t.cell.lat) ≤ 360
columns_within t = let w : ℕ = width_at (row_of t.cell.lat) in
    next_multiple w (column_of t.cell.lon) 360 (dvd_of_mod-eq-zero w t.cell.on_grid)
    (width-dvd (row_of t.cell.lat)) (column_of-below t.cell.lon t.cell.east)

-- an element ends within the globe
element_within : (t : Tile) (row col : ℕ) → row < tile_side t → col < tile_side t
    → ((element_corner t row col).north + step (tile_height t) ≤ 180 * degree)
    × ((element_corner t row col).east + tile_step_east t ≤ 360 * degree)
element_within t row col below under =
    let h : ℕ = tile_height t in
    let w : ℕ = width_at (row_of t.cell.lat) in
    let up : (t.up * side_of h + row) * step h + step h ≤ degree =
    along_inside h t.up row (tile_height-most t) t.up_in_range below in
    let right : (t.right * side_of h + col) * step h + step h ≤ degree =
    along_inside h t.right col (tile_height-most t) t.right_in_range under in
    let wide : (t.right * side_of h + col + 1) * (w * step h) ≤ w * degree =
    times_wide w (t.right * side_of h + col + 1) (step h) degree (omega arith) in (
      ends (row_of t.cell.lat) 1 180 _ (step h) (let lt = row_of-below t.cell.lat t.cell.north in
          omega arith) (omega arith),
      ends (column_of t.cell.lon) w 360 _ (w * step h) (columns_within t) (omega arith),
    )
  where
    ends : (base w all k s : ℕ) → base + w ≤ all → k + s ≤ w * degree → base * degree + k + s ≤ all * degree
    ends base w all k s le inside = let m : (base + w) * degree ≤ all * degree =
        mul-le-mul_right degree le in omega arith

-- the corners of a tile's elements are corners of its height
pub element-corner : (t : Tile) (row col : ℕ) → row < tile_side t → col < tile_side t
    → IsCorner (tile_height t) (element_corner t row col)
element-corner t row col below under =
    let h : ℕ = tile_height t in
    let w : ℕ = width_at (row_of t.cell.lat) in
    let d : step h ∣ degree = step-dvd-degree h (tile_height-most t) in
    let within = element_within t row col below under in
    let p : 0 < step h = step-pos h in
    let q : 0 < w = width-pos (row_of t.cell.lat) in
    let r : 0 < w * step h = product-pos w (step h) q p in
    let east : w * step h ∣ (element_corner t row col).east = dvd-add (w * step h)
    (mul-dvd-mul w (step h) (dvd_of_mod-eq-zero w t.cell.on_grid) d)
    (dvd-mul_left (w * step h) (t.right * side_of h + col)) in
    record {
      on_row = dvd-add (step h) (dvd_trans (step h) d (dvd-mul_left degree (row_of t.cell.lat)))
          (dvd-mul_left (step h) (t.up * side_of h + row));
      on_column = subst (λ n. n * step h ∣ (element_corner t row col).east)
          (sym (width_of-element t row col below)) east;
      north_within = less _ (step h) (180 * degree) p within.0;
      east_within = less _ (w * step h) (360 * degree) r within.1;
    }
  where
    product-pos : (a b : ℕ) → 0 < a → 0 < b → 0 < a * b
    product-pos a b x y = let m : 1 * b ≤ a * b = mul-le-mul_right b x in omega arith

    less : (k s n : ℕ) → 0 < s → k + s ≤ n → k < n
    less k s n p le = omega arith

-- a place less than a step beyond the corner of an element lies in the tile
pub near_element : (t : Tile) (row col i j : ℕ) → row < tile_side t → col < tile_side t → i < step (tile_height t)
    → j < tile_step_east t
    → IsInTile t (record { north = (element_corner t row col).north + i; east = (element_corner t row col).east + j })
near_element t row col i j below under up right =
    let n = part_within (row_of t.cell.lat * degree) t.up (tile_side t) row (step (tile_height t)) below in
    let e = part_within (column_of t.cell.lon * degree) t.right (tile_side t) col (tile_step_east t) under in
    record {
      south = from_above _ _ i n.0;
      north = below_end _ (step (tile_height t)) _ i up n.1;
      west = from_above _ _ j e.0;
      east = below_end _ (tile_step_east t) _ j right e.1;
    }
  where
    from_above : (a b i : ℕ) → a ≤ b → a ≤ b + i
    from_above a b i le = omega arith

    below_end : (a s b i : ℕ) → i < s → a + s ≤ b → a + i < b
    below_end a s b i lt le = omega arith

-- the corners of a tile's elements lie in it
pub corner-within : (t : Tile) (row col : ℕ) → row < tile_side t → col < tile_side t
    → IsInTile t (element_corner t row col)
corner-within t row col below under =
    let h : ℕ = tile_height t in
    let up : 0 < step h = step-pos h in
    let right : 0 < tile_step_east t = mul-lt 0 0 (width_at (row_of t.cell.lat)) (step h)
    (width-pos (row_of t.cell.lat)) up in
    subst (λ p. IsInTile t p) (same_place _ _ (omega arith) (omega arith))
    (near_element t row col 0 0 below under up right)

-- half a step is less than a step
pub inset-below : (f : Family) (h : ℕ) → 1 ≤ h → inset f h < step h
inset-below Elev h le = step-pos h
inset-below Low h le = step-pos h
inset-below High h le = step-pos h
inset-below Mat h le =
    let e : step h ≡ 2 * step (h - 1) = ap step (let n : h ≡ suc (h - 1) = omega arith in n) ∙ step-suc (h - 1) in
    let p : 0 < step (h - 1) = step-pos (h - 1) in
    omega arith

-- where an element stands, counted from the corner of its cell
pub place-inset : (f : Family) (h : ℕ) (c : Place)
    → place_in f h c ≡ record { north = c.north + inset f h; east = c.east + width_of c * inset f h }
place-inset Elev h c = same_place _ _ (omega arith) (omega arith)
place-inset Low h c = same_place _ _ (omega arith) (omega arith)
place-inset High h c = same_place _ _ (omega arith) (omega arith)
place-inset Mat h c = same_place _ _ (omega arith) (omega arith)

-- the place of an element lies in its tile
pub place-in-tile : (t : Tile) (row col : ℕ) → row < tile_side t → col < tile_side t
    → IsInTile t (element_place t row col)
place-in-tile t row col below under =
    let h : ℕ = tile_height t in
    let c : Place = element_corner t row col in
    let w : ℕ = width_at (row_of t.cell.lat) in
    let up : inset t.family h < step h = inset-below t.family h (height-least t.level.number t.level.finest) in
    let e : width_of c ≡ w = width_of-element t row col below in
    let right : width_of c * inset t.family h < w * step h =
    subst (λ n. n * inset t.family h < w * step h) (sym e)
    (times-below w (inset t.family h) (step h) (width-pos (row_of t.cell.lat)) up) in
    subst (λ p. IsInTile t p) (sym (place-inset t.family h c))
    (near_element t row col (inset t.family h) (width_of c * inset t.family h) below under up right)
  where
    times-below : (w a b : ℕ) → 0 < w → a < b → w * a < w * b
    times-below w a b p lt = let m : suc a * w ≤ b * w = mul-le-mul_right w lt in omega arith

-- the places of a tile have the width of its geocell
pub width_of-place : (t : Tile) (p : Place) → IsInTile t p → width_of p ≡ width_at (row_of t.cell.lat)
unfolding width_of
width_of-place t p i =
    let inside = tile_in_cell t p i in
    let s = inside.south in let n = inside.north in
    ap width_at (quotient_of (row_of t.cell.lat) degree p.north s (omega arith))

-- the one index of a part at which a multiple stands
record OneIndex (base u side s n : ℕ) : Type 0 where
  index : ℕ
  below : index < side
  at : base + (u * side + index) * s ≡ n

same_index : (base k s a b : ℕ) → 0 < s → base + (k + a) * s ≡ base + (k + b) * s → a ≡ b
same_index base k s a b p e =
    elim (cases_lt a b) [
      | inl lt ↦ let m : (k + a) * s + s ≤ (k + b) * s = count_step (k + a) (k + b) s (omega arith) in omega arith
      | inr le ↦ elim (cases_lt b a) [
        | inl lt ↦ let m : (k + b) * s + s ≤ (k + a) * s = count_step (k + b) (k + a) s (omega arith) in omega arith
        | inr ge ↦ omega arith
      ]
    ]

index_between : (a b q s : ℕ) → a * s ≤ q * s → q * s < b * s → 0 < s → (a ≤ q) × (q < b)
index_between a b q s low high p = (le_of_mul-le-mul_right low p, lt_of_mul-lt-mul_right s high)

one_index : (base u side s n : ℕ) → 0 < s → s ∣ base → s ∣ n → base + (u * side + 0) * s ≤ n
    → n < base + (u * side + side) * s → OneIndex base u side s n
one_index base u side s n p d e low high =
    let q : ℕ = (n - base) / s in
    let m : q * s ≡ n - base = div-mul_cancel s (dvd-sub s e d) in
    let k = index_between (u * side + 0) (u * side + side) q s (omega arith) (omega arith) p in
    let a = k.0 in let b = k.1 in
    let i : ℕ = q - u * side in
    let j : u * side + i ≡ q = omega arith in
    record { index = i; below = omega arith; at = ap (λ x. base + x * s) j ∙ (omega arith) }

-- each corner of a tile's height that lies in the tile is that of exactly one element
pub one_element : (t : Tile) (p : Place) → IsCorner (tile_height t) p → IsInTile t p → HasOneElement t p
one_element t p k i =
    let h : ℕ = tile_height t in
    let w : ℕ = width_at (row_of t.cell.lat) in
    let d : step h ∣ degree = step-dvd-degree h (tile_height-most t) in
    let sp : 0 < step h = step-pos h in
    let ep : 0 < w * step h = mul-lt 0 0 w (step h) (width-pos (row_of t.cell.lat)) sp in
    let a = one_index (row_of t.cell.lat * degree) t.up (side_of h) (step h) p.north sp
    (dvd_trans (step h) d (dvd-mul_left degree (row_of t.cell.lat))) k.on_row i.south i.north in
    let b = one_index (column_of t.cell.lon * degree) t.right (side_of h) (w * step h) p.east ep
    (mul-dvd-mul w (step h) (dvd_of_mod-eq-zero w t.cell.on_grid) d)
    (subst (λ n. n * step h ∣ p.east) (width_of-place t p i) k.on_column) i.west i.east in
    record {
      row = a.index;
      col = b.index;
      row_below = a.below;
      col_below = b.below;
      at = same_place _ _ a.at b.at;
      only = λ r c below under e. (
        same_index (row_of t.cell.lat * degree) (t.up * side_of h) (step h) r a.index sp
            (ap (λ q. q.north) e ∙ sym a.at),
        same_index (column_of t.cell.lon * degree) (t.right * side_of h) (w * step h) c b.index ep
            (ap (λ q. q.east) e ∙ sym b.at),
      );
    }
