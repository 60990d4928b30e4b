-- A source reaches a tile where the tile's row and its column each hold a place of the source.
use Rattle.std.proofs.Common.{◌≡◌, ℕ, suc, ◌+◌, ◌-◌, ◌*◌, ◌/◌, ◌<◌, ◌≤◌, ℤ, pos, negsuc, ◌≤ℤ◌, refl, sym, ◌∙◌, ap, subst, arith}
use Rattle.std.proofs.lemmas.Int.{ints}
use Prim.Native.Nat.{◌∣◌}
use Rattle.std.proofs.lemmas.Nat.{mul-le}
use Rattle.std.proofs.lemmas.Nat.Gcd.{dvd_trans}
use Rattle.std.proofs.Math.Nat.{dvd-mul_left, mul-dvd-mul_left}
use Rattle.cdb_grid.specs.Units.{degree, height_of, step, row_of}
use Rattle.cdb_grid.specs.Grid.{Place, width_of, IsCorner}
use Rattle.cdb_grid.specs.Tiles.{tile_height, tile_side, tile_step_east, place_in, IsInTile}
use Rattle.cdb_grid.specs.declared.family.Family.{Family}
use Rattle.cdb_grid.specs.declared.family.Family.TheVariants.{Elev, Low, High, Mat}
use Rattle.cdb_grid.specs.declared.tile.Tile.{Tile}
use Rattle.cdb_grid.proofs.UnitLaws.{width-pos, step-pos, step-suc, step-dvd, height-least}
use Rattle.cdb_grid.proofs.GridLaws.{same_width}
use Rattle.cdb_source.specs.declared.kind.Kind.{Kind}
use Rattle.cdb_source.specs.declared.head.SourceHead.{SourceHead}
use Rattle.cdb_source.specs.Sample.{corner_of, box_height, box_width, IsBefore}
use Rattle.cdb_source.specs.Reached.{kind_of, source_height, Reaches}
use Rattle.cdb_touch.specs.inside.Axis.{HasPlaceOnAxis, inset_of}
use Rattle.cdb_touch.specs.inside.Numbers.{tile_width, row_number, column_number}
use Rattle.cdb_touch.specs.inside.Reach.{HasRow, HasColumn}
use Rattle.cdb_touch.proofs.AxisLaws.{inset-below, corner_in_part}
use Rattle.cdb_touch.proofs.NumberLaws.{InNumbers, numbers_from_tile, tile_from_numbers, width_in_row, on_globe}

-- where a place stands by the corner of its cell
half : (k : ℕ) → 1 ≤ k → step (k - 1) ≡ step k / 2
half k p =
    let e : suc (k - 1) ≡ k = omega arith in
    let d : step (suc (k - 1)) ≡ 2 * step (k - 1) = step-suc (k - 1) in
    let f : step k ≡ 2 * step (k - 1) = ap step (sym e) ∙ d in
    halved (step k) (step (k - 1)) f
  where
    halved : (a b : ℕ) → a ≡ 2 * b → b ≡ a / 2
    halved a b e = omega arith

half_wide : (w k : ℕ) → 1 ≤ k → w * step (k - 1) ≡ w * step k / 2
half_wide w k p =
    let e : suc (k - 1) ≡ k = omega arith in
    let d : step (suc (k - 1)) ≡ 2 * step (k - 1) = step-suc (k - 1) in
    let f : step k ≡ 2 * step (k - 1) = ap step (sym e) ∙ d in
    halved (w * step k) (w * step (k - 1)) (ap (λ n. w * n) f ∙ swap w (step (k - 1)))
  where
    halved : (a b : ℕ) → a ≡ 2 * b → b ≡ a / 2
    halved a b e = omega arith

    swap : (w s : ℕ) → w * (2 * s) ≡ 2 * (w * s)
    swap w s = omega arith

same_sum : (a b c : ℕ) → b ≡ c → a + 1 * b ≡ a + c
same_sum a b c e = omega arith

pub place-north : (f : Family) (k : ℕ) (c : Place) → 1 ≤ k → (place_in f k c).north
    ≡ c.north + inset_of (kind_of f) (step k)
place-north Elev k c p = omega arith
place-north Low k c p = omega arith
place-north High k c p = omega arith
place-north Mat k c p = same_sum c.north (step (k - 1)) (step k / 2) (half k p)

pub place-east : (f : Family) (k : ℕ) (c : Place) → 1 ≤ k → (place_in f k c).east
    ≡ c.east + inset_of (kind_of f) (width_of c * step k)
place-east Elev k c p = omega arith
place-east Low k c p = omega arith
place-east High k c p = omega arith
place-east Mat k c p = same_sum c.east (width_of c * step (k - 1)) (width_of c * step k / 2)
    (half_wide (width_of c) k p)

-- a tile is a whole number of steps of each finer level
pub rows-dvd : (side k h : ℕ) → k ≤ h → step k ∣ side * step h
rows-dvd side k h le = dvd_trans (step k) (step-dvd k h le) (dvd-mul_left (step h) side)

pub columns-dvd : (side w k h : ℕ) → k ≤ h → w * step k ∣ side * (w * step h)
columns-dvd side w k h le = dvd_trans (w * step k) (mul-dvd-mul_left (step k) w (step-dvd k h le))
    (dvd-mul_left (w * step h) side)

wide_step : (w k : ℕ) → 0 < w → 1 ≤ w * step k
wide_step w k p = let s : 0 < step k = step-pos k in product w (step k) p s
  where
    product : (a b : ℕ) → 0 < a → 0 < b → 1 ≤ a * b
    product a b x y = mul-le 1 1 a b x y

-- the tile whose row holds a place has the corner of the place's cell in its row
corner_width : (t : Tile) (k : ℕ) (c : Place) → k ≤ tile_height t → IsCorner k c
    → IsInTile t (place_in t.family k c) → 1 ≤ k → width_of c ≡ tile_width t
corner_width t k c le on i p =
    let kind : Kind = kind_of t.family in
    let at : Place = place_in t.family k c in
    let n : InNumbers t at = numbers_from_tile t at i in
    let e : at.north ≡ c.north + inset_of kind (step k) = place-north t.family k c p in
    let s = n.south in let u = n.north in
    let low : row_number t * (tile_side t * step (tile_height t)) ≤ c.north =
    corner_in_part (step k) (tile_side t * step (tile_height t)) (row_number t) c.north (inset_of kind (step k))
    (rows-dvd (tile_side t) k (tile_height t) le) on.on_row (inset-below kind (step k) (step-pos k))
    (subst (λ m. row_number t * (tile_side t * step (tile_height t)) ≤ m) e s) in
    let q : Place = record { north = c.north; east = at.east } in
    let there : IsInTile t q =
    tile_from_numbers t q (record { south = low; north = omega arith; west = n.west; east = n.east }) in
    same_width c q refl ∙ width_in_row t q there

pub reaches_to : (head : SourceHead) (t : Tile) → Reaches head t
    → HasRow head (tile_height t) (row_number t) × HasColumn head (tile_height t) (tile_width t) (column_number t)
reaches_to head t r =
    let k : ℕ = source_height head in
    let kind : Kind = kind_of t.family in
    let c : Place = r.corner in
    let at : Place = place_in t.family k c in
    let p : 1 ≤ k = height-least head.level.number head.level.finest in
    let n : InNumbers t at = numbers_from_tile t at r.in_tile in
    let w : width_of c ≡ tile_width t = corner_width t k c r.level r.on_grid r.in_tile p in
    let en : at.north ≡ c.north + inset_of kind (step k) = place-north t.family k c p in
    let ee : at.east ≡ c.east + inset_of kind (tile_width t * step k) =
    place-east t.family k c p ∙ ap (λ m. c.east + inset_of kind (m * step k)) w in
    let rows : ℕ = row_number t * (tile_side t * step (tile_height t)) in
    let columns : ℕ = column_number t * (tile_side t * tile_step_east t) in
    let row : HasPlaceOnAxis kind (step k) (corner_of head).north ((corner_of head).north + box_height head)
    (tile_side t * step (tile_height t)) (row_number t) = record {
      corner = c.north;
      on_grid = r.on_grid.on_row;
      from_low = subst (λ m. rows ≤ m) en n.south;
      below_high = subst (λ m. m < rows + tile_side t * step (tile_height t)) en n.north;
      from_near = subst (λ m. (corner_of head).north ≤ m) en r.in_box.south;
      to_far = subst (λ m. IsBefore kind m ((corner_of head).north + box_height head)) en
          (subst (λ j. IsBefore j at.north ((corner_of head).north + box_height head)) r.kind r.in_box.north);
    } in
    let column : HasPlaceOnAxis kind (tile_width t * step k)
    (corner_of head).east ((corner_of head).east + box_width head) (tile_side t * tile_step_east t)
    (column_number t) = record {
      corner = c.east;
      on_grid = subst (λ m. m * step k ∣ c.east) w r.on_grid.on_column;
      from_low = subst (λ m. columns ≤ m) ee n.west;
      below_high = subst (λ m. m < columns + tile_side t * tile_step_east t) ee n.east;
      from_near = subst (λ m. (corner_of head).east ≤ m) ee r.in_box.west;
      to_far = subst (λ m. IsBefore kind m ((corner_of head).east + box_width head)) ee
          (subst (λ j. IsBefore j at.east ((corner_of head).east + box_width head)) r.kind r.in_box.east);
    } in (
      subst (λ j. HasPlaceOnAxis j (step k) (corner_of head).north ((corner_of head).north + box_height head)
          (tile_side t * step (tile_height t)) (row_number t)) (sym r.kind) row,
      subst (λ j. HasPlaceOnAxis j (tile_width t * step k)
          (corner_of head).east ((corner_of head).east + box_width head) (tile_side t * tile_step_east t)
          (column_number t)) (sym r.kind) column,
    )

pub reaches_from : (head : SourceHead) (t : Tile) → head.kind ≡ kind_of t.family → source_height head ≤ tile_height t
    → HasRow head (tile_height t) (row_number t) → HasColumn head (tile_height t) (tile_width t) (column_number t)
    → Reaches head t
reaches_from head t e le a' b' =
    let k : ℕ = source_height head in
    let kind : Kind = kind_of t.family in
    let p : 1 ≤ k = height-least head.level.number head.level.finest in
    let rows : ℕ = tile_side t * step (tile_height t) in
    let columns : ℕ = tile_side t * tile_step_east t in
    let north : ℕ = (corner_of head).north + box_height head in
    let east : ℕ = (corner_of head).east + box_width head in
    let a : HasPlaceOnAxis kind (step k) (corner_of head).north north rows (row_number t) =
    subst (λ j. HasPlaceOnAxis j (step k) (corner_of head).north north rows (row_number t)) e a' in
    let b : HasPlaceOnAxis kind (tile_width t * step k) (corner_of head).east east columns (column_number t) =
    subst (λ j. HasPlaceOnAxis j (tile_width t * step k) (corner_of head).east east columns (column_number t)) e b' in
    let c : Place = record { north = a.corner; east = b.corner } in
    let wide : 1 ≤ tile_width t * step k = wide_step (tile_width t) k (width-pos (row_of t.cell.lat)) in
    let an = a.below_high in let bn = b.below_high in
    let there : IsInTile t c = tile_from_numbers t c (record {
      south = corner_in_part (step k) rows (row_number t) a.corner (inset_of kind (step k))
          (rows-dvd (tile_side t) k (tile_height t) le) a.on_grid (inset-below kind (step k) (step-pos k)) a.from_low;
      north = less_sum _ _ _ an;
      west = corner_in_part (tile_width t * step k) columns (column_number t)
          b.corner (inset_of kind (tile_width t * step k))
          (columns-dvd (tile_side t) (tile_width t) k (tile_height t) le)
          b.on_grid (inset-below kind (tile_width t * step k) wide) b.from_low;
      east = less_sum _ _ _ bn;
    }) in
    let w : width_of c ≡ tile_width t = width_in_row t c there in
    let globe : (a.corner < 180 * degree) × (b.corner < 360 * degree) = on_globe t c there in
    let at : Place = place_in t.family k c in
    let en : at.north ≡ a.corner + inset_of kind (step k) = place-north t.family k c p in
    let ee : at.east ≡ b.corner + inset_of kind (tile_width t * step k) =
    place-east t.family k c p ∙ ap (λ m. b.corner + inset_of kind (m * step k)) w in
    record {
      kind = e;
      level = le;
      corner = c;
      on_grid = record {
        on_row = a.on_grid;
        on_column = subst (λ m. m * step k ∣ b.corner) (sym w) b.on_grid;
        north_within = globe.0;
        east_within = globe.1;
      };
      in_tile = tile_from_numbers t at (record {
        south = subst (λ m. row_number t * rows ≤ m) (sym en) a.from_low;
        north = subst (λ m. m < row_number t * rows + rows) (sym en) a.below_high;
        west = subst (λ m. column_number t * columns ≤ m) (sym ee) b.from_low;
        east = subst (λ m. m < column_number t * columns + columns) (sym ee) b.below_high;
      });
      in_box = record {
        south = subst (λ m. (corner_of head).north ≤ m) (sym en) a.from_near;
        north = subst (λ j. IsBefore j at.north north) (sym e) (subst (λ m. IsBefore kind m north) (sym en) a.to_far);
        west = subst (λ m. (corner_of head).east ≤ m) (sym ee) b.from_near;
        east = subst (λ j. IsBefore j at.east east) (sym e) (subst (λ m. IsBefore kind m east) (sym ee) b.to_far);
      };
    }
  where
    less_sum : (x i n : ℕ) → x + i < n → x < n
    less_sum x i n lt = omega arith

-- a level at least as fine has at most the height
pub height-order : (k l : ℤ) → k ≤ℤ pos 23 → l ≤ℤ pos 23 → l ≤ℤ k → height_of k ≤ height_of l
height-order (pos k) (pos l) a b le = omega (arith, ints)
height-order (pos k) (negsuc l) a b le = omega (arith, ints)
height-order (negsuc k) (pos l) a b le = omega (arith, ints)
height-order (negsuc k) (negsuc l) a b le = omega (arith, ints)
