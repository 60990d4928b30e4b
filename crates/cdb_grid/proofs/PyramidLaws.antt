-- Laws of a tile, its parent and its children.
use Rattle.std.proofs.Common.{◌≡◌, ℕ, suc, ◌+◌, ◌-◌, ◌*◌, ◌/◌, ◌^◌, ◌<◌, ◌≤◌, ◌⊎◌, inl, inr, min, ℤ, pos, negsuc, ◌+ℤ◌, ◌≤ℤ◌, ◌<ℤ◌, sym, ◌∙◌, ap, subst, arith}
use Rattle.std.proofs.lemmas.Bool.{cases_lt}
use Rattle.std.proofs.lemmas.Int.{ints}
use Rattle.std.proofs.lemmas.Nat.{mul-le}
use Rattle.std.proofs.Math.Nat.{mul-le-mul_right, le_of_mul-le-mul_right, lt_of_mul-lt-mul_right, pow-succ'}
use Rattle.cdb_grid.specs.Units.{degree, height_of, step, tiles_of, side_of, width_at, row_of, column_of}
use Rattle.cdb_grid.specs.Grid.{Place}
use Rattle.cdb_grid.specs.Tiles.{tile_height, tile_side, tile_step_east, element_corner, IsInTile}
use Rattle.cdb_grid.specs.Children.{IsParent}
use Rattle.cdb_grid.specs.declared.tile.Tile.{Tile}
use Rattle.cdb_grid.proofs.UnitLaws.{step-suc, step-pos, side-pos, extent-pos, tiles-pos, width-pos, height-finer}
use Rattle.cdb_grid.proofs.TileLaws.{one_tile, one_geocell, tile_in_cell, tile_height-most, part_within}

-- from level 1 on, tiles have 1024 elements along a side
pub side-fine : (h : ℕ) → h ≤ 24 → side_of h ≡ 1024
side-fine h le = let e : min 10 (34 - h) ≡ 10 = omega arith in ap (λ n. 2 ^ n) e

-- a tile of a level below 0 is a geocell
pub tiles-coarse : (h : ℕ) → 24 ≤ h → tiles_of h ≡ 1
tiles-coarse h le = let e : 24 - h ≡ 0 = omega arith in ap (λ n. 2 ^ n) e

-- below level 0 a tile of the next finer level has twice the side
pub side-coarse : (h : ℕ) → 24 ≤ h → h ≤ 33 → side_of h ≡ 2 * side_of (suc h)
side-coarse h low high =
    let e : min 10 (34 - h) ≡ suc (min 10 (34 - suc h)) = omega arith in
    ap (λ n. 2 ^ n) e ∙ pow-succ' 2 (min 10 (34 - suc h))

-- from level 1 on, twice as many tiles stand along a geocell as at the next coarser level
pub tiles-fine : (h : ℕ) → h ≤ 23 → tiles_of h ≡ 2 * tiles_of (suc h)
tiles-fine h le =
    let e : 24 - h ≡ suc (24 - suc h) = omega arith in
    ap (λ n. 2 ^ n) e ∙ pow-succ' 2 (24 - suc h)

-- the arc units of a tile of a height from its south edge to its north edge
abbrev pub extent : ℕ → ℕ
extent h = side_of h * step h

pub extent-fine : (h : ℕ) → h ≤ 23 → extent (suc h) ≡ 2 * extent h
extent-fine h le =
    let a : side_of (suc h) ≡ 1024 = side-fine (suc h) (omega arith) in
    let b : side_of h ≡ 1024 = side-fine h (omega arith) in
    ap (λ n. n * step (suc h)) a ∙ ap (λ n. 1024 * n) (step-suc h) ∙ swap (step h) ∙ sym (ap (λ n. 2 * (n * step h)) b)
  where
    swap : (s : ℕ) → 1024 * (2 * s) ≡ 2 * (1024 * s)
    swap s = omega arith

pub extent-coarse : (h : ℕ) → 24 ≤ h → h ≤ 33 → extent (suc h) ≡ extent h
extent-coarse h low high =
    ap (λ n. side_of (suc h) * n) (step-suc h) ∙ swap (side_of (suc h)) (step h)
    ∙ sym (ap (λ n. n * step h) (side-coarse h low high))
  where
    swap : (a s : ℕ) → a * (2 * s) ≡ 2 * a * s
    swap a s = omega arith

-- levels from 0 on, and below 0
pub height-from : (l : ℤ) → pos 0 ≤ℤ l → height_of l ≤ 24
height-from (pos l) le = omega arith
height-from (negsuc l) le = omega (arith, ints)

pub height-below : (l : ℤ) → l <ℤ pos 0 → 25 ≤ height_of l
height-below (pos l) lt = omega (arith, ints)
height-below (negsuc l) lt = omega arith

pub height-above : (l : ℤ) → negsuc 9 <ℤ l → height_of l ≤ 33
height-above (pos l) lt = omega arith
height-above (negsuc l) lt = omega (arith, ints)

-- half an index is one of the next coarser level
pub half_index : (h u : ℕ) → u < tiles_of h → u / 2 < tiles_of (suc h)
half_index h u lt = elim (cases_lt h 24) [
  | inl p ↦ let e : tiles_of h ≡ 2 * tiles_of (suc h) = tiles-fine h (omega arith) in omega arith
  | inr p ↦ let e : tiles_of h ≡ 1 = tiles-coarse h p in let q : 1 ≤ tiles_of (suc h) = tiles-pos (suc h) in omega arith
]

-- the two halves of an index are ones of the next finer level
pub index_half : (h u i : ℕ) → h ≤ 23 → u < tiles_of (suc h) → i < 2 → 2 * u + i < tiles_of h
index_half h u i le lt b = let e : tiles_of h ≡ 2 * tiles_of (suc h) = tiles-fine h le in omega arith

-- a part of one axis: from the edge of tile u, of so many steps, to its other edge
abbrev pub Axis : ℕ → ℕ → ℕ → ℕ → ℕ → Type 0
Axis b u side s n = (b + (u * side + 0) * s ≤ n) × (n < b + (u * side + side) * s)

-- the extent of a tile is twice that of its child, or the child is alone and has all of it
abbrev Scale : ℕ → ℕ → ℕ → Type 0
Scale u' e e' = (e ≡ 2 * e') ⊎ ((u' ≡ 0) × (e ≡ e'))

scale_of : (h u' : ℕ) → h ≤ 33 → u' < tiles_of h → Scale u' (extent (suc h)) (extent h)
scale_of h u' le lt = elim (cases_lt h 24) [
  | inl p ↦ inl (extent-fine h (omega arith))
  | inr p ↦ let e : tiles_of h ≡ 1 = tiles-coarse h p in inr (omega arith, extent-coarse h p le)
]

scale_wide : (u' w w' side s side' s' : ℕ) → w ≡ w' → Scale u' (side * s) (side' * s')
    → Scale u' (side * (w * s)) (side' * (w' * s'))
scale_wide u' w w' side s side' s' e scale = elim scale [
  | inl p ↦ let m : w' * (side * s) ≡ w' * (2 * (side' * s')) = ap (λ x. w' * x) p in
      inl (ap (λ x. side * (x * s)) e ∙ (omega arith))
  | inr p ↦ let m : w' * (side * s) ≡ w' * (side' * s') = ap (λ x. w' * x) p.1 in
      inr (p.0, ap (λ x. side * (x * s)) e ∙ (omega arith))
]

-- a place in a child is in the tile of half its index
up_axis : (b u' side s side' s' n : ℕ) → Scale u' (side * s) (side' * s') → Axis b u' side' s' n
    → Axis b (u' / 2) side s n
up_axis b u' side s side' s' n scale a =
    let low = a.0 in let high = a.1 in
    elim scale [
      | inl e ↦
          let q : u' / 2 * (side * s) ≡ u' / 2 * (2 * (side' * s')) = ap (λ x. u' / 2 * x) e in
          let m : u' / 2 * 2 * (side' * s') ≤ u' * (side' * s') = mul-le-mul_right (side' * s') (omega arith) in
          let k : suc u' * (side' * s') ≤ (u' / 2 * 2 + 2) * (side' * s') =
          mul-le-mul_right (side' * s') (omega arith) in
          (omega arith, omega arith)
      | inr p ↦
          let e = p.1 in
          let z : u' / 2 ≡ 0 = (let y = p.0 in omega arith) in
          let q : u' / 2 * (side * s) ≡ 0 * (side * s) = ap (λ x. x * (side * s)) z in
          let r : u' * (side' * s') ≡ 0 * (side' * s') = ap (λ x. x * (side' * s')) p.0 in
          (omega arith, omega arith)
    ]

pub axis_same : (b b' u u' side s n : ℕ) → b ≡ b' → u ≡ u' → Axis b' u' side s n → Axis b u side s n
axis_same b b' u u' side s n eb eu a =
    subst (λ x. Axis x u side s n) (sym eb) (subst (λ x. Axis b' x side s n) (sym eu) a)

-- one level coarser, and half the indices of the same geocell: the parent
pub is_parent : (c p : Tile) → p.family ≡ c.family → p.cell ≡ c.cell → p.level.number +ℤ pos 1 ≡ c.level.number
    → p.up ≡ c.up / 2 → p.right ≡ c.right / 2 → IsParent c p
is_parent c p ef ec el eu er = record {
  family = ef;
  coarser = el;
  holds = λ q i.
      let n = up_axis (row_of c.cell.lat * degree) c.up (tile_side p) (step (tile_height p)) (tile_side c)
      (step (tile_height c)) q.north
      (scale c.up c.up_in_range) (i.south, i.north) in
      let e = up_axis (column_of c.cell.lon * degree) c.right (tile_side p) (tile_step_east p) (tile_side c)
      (tile_step_east c) q.east
      (scale_wide c.right (width_at (row_of p.cell.lat)) (width_at (row_of c.cell.lat)) (tile_side p)
      (step (tile_height p)) (tile_side c) (step (tile_height c))
      (ap (λ x. width_at (row_of x.lat)) ec) (scale c.right c.right_in_range)) (i.west, i.east) in
      let n' = axis_same (row_of p.cell.lat * degree) _ p.up _ (tile_side p) (step (tile_height p))
      q.north (ap (λ x. row_of x.lat * degree) ec) eu n in
      let e' = axis_same (column_of p.cell.lon * degree) _ p.right _ (tile_side p) (tile_step_east p)
      q.east (ap (λ x. column_of x.lon * degree) ec) er e in
      record { south = n'.0; north = n'.1; west = e'.0; east = e'.1 };
}
  where
    above : tile_height p ≡ suc (tile_height c)
    above = height-finer p.level.number c.level.number c.level.finest el

    scale : (u : ℕ) → u < tiles_of (tile_height c) → Scale u (extent (tile_height p)) (extent (tile_height c))
    scale u lt = let most = tile_height-most p in
        subst (λ h. Scale u (extent h) (extent (tile_height c))) (sym above)
        (scale_of (tile_height c) u (let e = above in omega arith) lt)

-- a tile has its south-west corner
pub corner-in-tile : (t : Tile) → IsInTile t (element_corner t 0 0)
corner-in-tile t =
    let h : ℕ = tile_height t in
    let n = part_within (row_of t.cell.lat * degree) t.up (tile_side t) 0 (step h) (side-pos h) in
    let e = part_within (column_of t.cell.lon * degree) t.right (tile_side t) 0 (tile_step_east t) (side-pos h) in
    let p : 0 < step h = step-pos h in
    let q : 1 * 1 ≤ tile_step_east t = mul-le 1 1 (width_at (row_of t.cell.lat)) (step h)
    (width-pos (row_of t.cell.lat)) p in
    record { south = n.0; north = below _ (step h) _ p n.1; west = e.0; east = below _ (tile_step_east t) _ q e.1 }
  where
    below : (a s b : ℕ) → 1 ≤ s → a + s ≤ b → a < b
    below a s b p le = omega arith

-- where a tile's edge is in a coarser one, its index is half
index_from : (u u' e e' : ℕ) → 1 ≤ e' → Scale u' e e' → u * e ≤ u' * e' → u' * e' < u * e + e → u ≡ u' / 2
index_from u u' e e' gap scale low high = elim scale [
  | inl p ↦
      let m : u * e ≡ u * (2 * e') = ap (λ x. u * x) p in
      let a : u * 2 ≤ u' = le_of_mul-le-mul_right {k = e'} (omega arith) gap in
      let b : u' < u * 2 + 2 = lt_of_mul-lt-mul_right e' (omega arith) in
      omega arith
  | inr p ↦
      let z = p.0 in let q = p.1 in
      let m : u' * e' ≡ 0 * e' = ap (λ x. x * e') z in
      elim (cases_lt 0 u) [
        | inl r ↦ let k : 1 * e ≤ u * e = mul-le-mul_right e r in omega arith
        | inr r ↦ omega arith
      ]
]

axis_from : (b b' u u' side s side' s' : ℕ) → b ≡ b' → 1 ≤ side' * s' → Scale u' (side * s) (side' * s')
    → Axis b u side s (b' + (u' * side' + 0) * s') → u ≡ u' / 2
axis_from b b' u u' side s side' s' e gap scale a =
    let low = a.0 in let high = a.1 in
    index_from u u' (side * s) (side' * s') gap scale (omega arith) (omega arith)

-- a tile has the geocell of its parent, and its parent has half its indices
pub record IsHalved (c p : Tile) : Type 0 where
  pub cell : p.cell ≡ c.cell
  pub up : p.up ≡ c.up / 2
  pub right : p.right ≡ c.right / 2
  pub above : tile_height p ≡ suc (tile_height c)

pub parent-halved : (c p : Tile) → IsParent c p → IsHalved c p
parent-halved c p k =
    let q : Place = element_corner c 0 0 in
    let i : IsInTile c q = corner-in-tile c in
    let j : IsInTile p q = k.holds q i in
    let ec : p.cell ≡ c.cell = one_geocell p.cell c.cell q (tile_in_cell p q j) (tile_in_cell c q i) in
    let w : ℕ = width_at (row_of c.cell.lat) in
    let h : ℕ = tile_height c in
    let wide : 1 * 1 ≤ side_of h * (w * step h) = mul-le 1 1 (side_of h) (w * step h) (side-pos h)
    (mul-le 1 1 w (step h) (width-pos (row_of c.cell.lat)) (step-pos h)) in
    record {
      cell = ec;
      up = axis_from (row_of p.cell.lat * degree) (row_of c.cell.lat * degree) p.up c.up (tile_side p)
          (step (tile_height p)) (side_of h) (step h)
          (ap (λ x. row_of x.lat * degree) ec) (extent-pos h) (scale c.up c.up_in_range) (j.south, j.north);
      right = axis_from (column_of p.cell.lon * degree) (column_of c.cell.lon * degree) p.right c.right (tile_side p)
          (tile_step_east p) (side_of h) (tile_step_east c)
          (ap (λ x. column_of x.lon * degree) ec) wide
          (scale_wide c.right (width_at (row_of p.cell.lat)) w (tile_side p) (step (tile_height p)) (side_of h) (step h)
          (ap (λ x. width_at (row_of x.lat)) ec) (scale c.right c.right_in_range)) (j.west, j.east);
      above = above;
    }
  where
    above : tile_height p ≡ suc (tile_height c)
    above = height-finer p.level.number c.level.number c.level.finest k.coarser

    scale : (u : ℕ) → u < tiles_of (tile_height c) → Scale u (extent (tile_height p)) (extent (tile_height c))
    scale u lt = let most = tile_height-most p in
        subst (λ h. Scale u (extent h) (extent (tile_height c))) (sym above)
        (scale_of (tile_height c) u (let e = above in omega arith) lt)

-- a tile has one parent
pub one_parent : (c p q : Tile) → IsParent c p → IsParent c q → p ≡ q
one_parent c p q i j =
    let corner : IsInTile c (element_corner c 0 0) = corner-in-tile c in
    let e : p.level.number +ℤ pos 1 ≡ q.level.number +ℤ pos 1 = i.coarser ∙ sym j.coarser in
    one_tile p q (element_corner c 0 0) (i.family ∙ sym j.family) (same_before p.level.number q.level.number e)
    (i.holds (element_corner c 0 0) corner) (j.holds (element_corner c 0 0) corner)
  where
    same_before : (y z : ℤ) → y +ℤ pos 1 ≡ z +ℤ pos 1 → y ≡ z
    same_before y z e = omega (arith, ints)
