-- A tile is told by its family, its height and its numbers, and rectangles of numbers are full.
use Rattle.std.proofs.Common.{◌≡◌, ℕ, zero, suc, ◌+◌, ◌-◌, ◌*◌, ◌/◌, ◌%◌, ◌<◌, ◌≤◌, ◌⊎◌, inl, inr, ℤ, pos, negsuc, ◌≤ℤ◌, refl, sym, ◌∙◌, ap, subst, arith}
use Prim.Native.Nat.{◌∣◌}
use Rattle.std.proofs.lemmas.Bool.{cases_lt}
use Rattle.std.proofs.lemmas.Int.{ints}
use Rattle.std.proofs.lemmas.Nat.{div-mul-add, mod-mul-add, div_below, mod_below, div-add-mod'}
use Rattle.std.proofs.Math.Nat.{div-mul_cancel, mul-le-mul_right, mul-mod_left, mul-div_cancel}
use Rattle.cdb_grid.specs.Units.{height_of, tiles_of, width_at, row_of, column_of}
use Rattle.cdb_grid.specs.Tiles.{tile_height}
use Rattle.cdb_grid.specs.declared.family.Family.{Family}
use Rattle.cdb_grid.specs.declared.geocell.Geocell.{Geocell}
use Rattle.cdb_grid.specs.declared.level.Level.{Level}
use Rattle.cdb_grid.specs.declared.tile.Tile.{Tile}
use Rattle.cdb_grid.proofs.UnitLaws.{width-pos, width-dvd, tiles-pos, height-same}
use Rattle.cdb_grid.proofs.Same.{same_geocell, same_tile}
use Rattle.cdb_grid.proofs.TileLaws.{row_of-same, column_of-same}
use Rattle.cdb_touch.specs.declared.axis.Run.{Run}
use Rattle.cdb_touch.specs.inside.Count.{HasCount}
use Rattle.cdb_touch.specs.inside.Numbers.{tile_width, row_number, column_number, IsNumbered, IsInRectangle}
use Rattle.cdb_touch.proofs.NumberLaws.{column-width}
use Rattle.cdb_touch.proofs.CountLaws.{HasCount-none, HasCount-one, HasCount-iff, HasCount-union, HasCount-same}

-- a number of tiles by its geocell and the tile in it
parts : (a N M b T : ℕ) → N ≡ M → b < N → a * N + b ≡ T → (a ≡ T / M) × (b ≡ T % M)
parts a N M b T e lt s = (
  sym (div-mul-add a N b lt) ∙ ap (λ n. n / N) s ∙ ap (λ n. T / n) e,
  sym (mod-mul-add a N b lt) ∙ ap (λ n. n % N) s ∙ ap (λ n. T % n) e,
)

pub numbered_row : (f : Family) (h y x : ℕ) (t : Tile) → IsNumbered f h y x t → (row_of t.cell.lat ≡ y / tiles_of h)
    × (t.up ≡ y % tiles_of h)
numbered_row f h y x t n =
    parts (row_of t.cell.lat) (tiles_of (tile_height t)) (tiles_of h) t.up y (ap tiles_of n.height_is)
    t.up_in_range n.row_is

numbered_column : (f : Family) (h y x : ℕ) (t : Tile) → IsNumbered f h y x t
    → (column_of t.cell.lon ≡ x / tiles_of h * width_at (y / tiles_of h)) × (t.right ≡ x % tiles_of h)
numbered_column f h y x t n =
    let r = numbered_row f h y x t n in
    let w : tile_width t ≡ width_at (y / tiles_of h) = ap width_at r.0 in
    let p : (column_of t.cell.lon / tile_width t ≡ x / tiles_of h) × (t.right ≡ x % tiles_of h) =
    parts (column_of t.cell.lon / tile_width t) (tiles_of (tile_height t)) (tiles_of h) t.right x
    (ap tiles_of n.height_is) t.right_in_range n.column_is in
    (sym (column-width t) ∙ ap (λ m. m * tile_width t) p.0 ∙ ap (λ m. x / tiles_of h * m) w, p.1)

-- one tile has these numbers
pub numbered-only : (f : Family) (h y x : ℕ) (t u : Tile) → IsNumbered f h y x t → IsNumbered f h y x u → t ≡ u
numbered-only f h y x t u a b =
    let ra = numbered_row f h y x t a in let rb = numbered_row f h y x u b in
    let ca = numbered_column f h y x t a in let cb = numbered_column f h y x u b in
    let lat : t.cell.lat ≡ u.cell.lat = row_of-same t.cell.lat u.cell.lat t.cell.south u.cell.south (ra.0 ∙ sym rb.0) in
    let lon : t.cell.lon ≡ u.cell.lon =
    column_of-same t.cell.lon u.cell.lon t.cell.west u.cell.west (ca.0 ∙ sym cb.0) in
    same_tile t u (a.family_is ∙ sym b.family_is) (same_geocell t.cell u.cell lat lon)
    (height-same t.level.number u.level.number t.level.finest u.level.finest (a.height_is ∙ sym b.height_is))
    (ra.1 ∙ sym rb.1) (ca.1 ∙ sym cb.1)

record Latitude (y : ℕ) : Type 0 where
  lat : ℤ
  south : negsuc 89 ≤ℤ lat
  north : lat ≤ℤ pos 89
  row : row_of lat ≡ y

latitude : (y : ℕ) → y < 180 → Latitude y
latitude y lt = elim (cases_lt y 90) [
  | inl p ↦ record {
    lat = negsuc (89 - y);
    south = omega (arith, ints);
    north = omega (arith, ints);
    row = omega arith;
  }
  | inr p ↦ record { lat = pos (y - 90); south = omega (arith, ints); north = omega (arith, ints); row = omega arith }
]

record Longitude (x : ℕ) : Type 0 where
  lon : ℤ
  west : negsuc 179 ≤ℤ lon
  east : lon ≤ℤ pos 179
  column : column_of lon ≡ x

longitude : (x : ℕ) → x < 360 → Longitude x
longitude x lt = elim (cases_lt x 180) [
  | inl p ↦ record {
    lon = negsuc (179 - x);
    west = omega (arith, ints);
    east = omega (arith, ints);
    column = omega arith;
  }
  | inr p ↦ record { lon = pos (x - 180); west = omega (arith, ints); east = omega (arith, ints); column = omega arith }
]

record OfHeight (h : ℕ) : Type 0 where
  level : Level
  height : height_of level.number ≡ h

of_height : (h : ℕ) → 1 ≤ h → h ≤ 34 → OfHeight h
of_height h low high = elim (cases_lt h 25) [
  | inl p ↦
      record {
        level = record { number = pos (24 - h); coarsest = omega (arith, ints); finest = omega (arith, ints) };
        height = omega arith;
      }
  | inr p ↦
      record {
        level = record {
          number = negsuc (h - 25);
          coarsest = omega (arith, ints);
          finest = omega (arith, ints);
        };
        height = omega arith;
      }
]

-- the west edge of a column lies on the globe
pub west_within : (w q : ℕ) → w ∣ 360 → 0 < w → q < 360 / w → q * w < 360
west_within w q d p lt =
    let a : 360 / w * w ≡ 360 = div-mul_cancel w d in
    let m : suc q * w ≤ 360 / w * w = mul-le-mul_right w lt in
    omega arith

-- a tile that was made from numbers has them
pub made_numbers : (f : Family) (h y x n w : ℕ) (t : Tile) → n ≡ tiles_of h → w ≡ width_at (y / n) → 0 < w
    → t.family ≡ f → tile_height t ≡ h
    → row_of t.cell.lat ≡ y / n → column_of t.cell.lon ≡ x / n * w → t.up ≡ y % n → t.right ≡ x % n
    → IsNumbered f h y x t
made_numbers f h y x n w t en ew wp ef eh er ec eu ex =
    let e : tiles_of (tile_height t) ≡ n = ap tiles_of eh ∙ sym en in
    let wide : tile_width t ≡ w = ap width_at er ∙ sym ew in
    let number : column_of t.cell.lon / tile_width t ≡ x / n =
    ap (λ m. m / tile_width t) ec ∙ ap (λ m. x / n * w / m) wide ∙ mul-div_cancel (x / n) wp in
    record {
      family_is = ef;
      height_is = eh;
      row_is = ap (λ m. row_of t.cell.lat * m + t.up) e ∙ ap (λ m. m * n + t.up) er ∙ ap (λ m. y / n * n + m) eu
          ∙ div-add-mod' y n;
      column_is = ap (λ m. column_of t.cell.lon / tile_width t * m + t.right) e ∙ ap (λ m. m * n + t.right) number
          ∙ ap (λ m. x / n * n + m) ex ∙ div-add-mod' x n;
    }

pub record Numbered (f : Family) (h y x : ℕ) : Type 0 where
  pub tile : Tile
  pub is : IsNumbered f h y x tile

-- and there is one
pub numbered : (f : Family) (h y x : ℕ) → 1 ≤ h → h ≤ 34 → y < 180 * tiles_of h
    → x < 360 / width_at (y / tiles_of h) * tiles_of h → Numbered f h y x
numbered f h y x low high yb xb =
    let n : ℕ = tiles_of h in
    let np : 0 < n = tiles-pos h in
    let row : ℕ = y / n in
    let w : ℕ = width_at row in
    let rowb : row < 180 = div_below y n 180 np yb in
    let q : ℕ = x / n in
    let qb : q < 360 / w = div_below x n (360 / w) np xb in
    let wp : 0 < w = width-pos row in
    let colb : q * w < 360 = west_within w q (width-dvd row) wp qb in
    let lat : Latitude row = latitude row rowb in
    let lon : Longitude (q * w) = longitude (q * w) colb in
    let level : OfHeight h = of_height h low high in
    let on_grid : column_of lon.lon % width_at (row_of lat.lat) ≡ 0 =
    ap (λ m. m % width_at (row_of lat.lat)) lon.column ∙ ap (λ m. (q * w) % width_at m) lat.row ∙ mul-mod_left q w in
    let cell : Geocell = record {
      lat = lat.lat;
      lon = lon.lon;
      south = lat.south;
      north = lat.north;
      west = lon.west;
      east = lon.east;
      on_grid = on_grid;
    } in
    let tile : Tile = record {
      family = f;
      cell = cell;
      level = level.level;
      up = y % n;
      right = x % n;
      up_in_range = subst (λ m. y % n < tiles_of m) (sym level.height) (mod_below y n np);
      right_in_range = subst (λ m. x % n < tiles_of m) (sym level.height) (mod_below x n np);
    } in
    record {
      tile = tile;
      is = made_numbers f h y x n w tile refl refl wp refl level.height lat.row lon.column refl refl;
    }

-- part of one row of a rectangle
record IsInColumns (f : Family) (h y a n : ℕ) (t : Tile) : Type 0 where
  family_is : t.family ≡ f
  height_is : tile_height t ≡ h
  row_is : row_number t ≡ y
  column_from : a ≤ column_number t
  column_below : column_number t < a + n

count_columns : (f : Family) (h y a n : ℕ) → 1 ≤ h → h ≤ 34 → y < 180 * tiles_of h
    → a + n ≤ 360 / width_at (y / tiles_of h) * tiles_of h
    → HasCount (IsInColumns f h y a n) n
count_columns f h y a zero low high yb xb = HasCount-none (λ t m. let x = m.column_from in
    let z : column_number t < a + 0 = m.column_below in omega arith)
count_columns f h y a (suc n) low high yb xb =
    let one : Numbered f h y (a + n) = numbered f h y (a + n) low high yb (omega arith) in
    let rest : HasCount (IsInColumns f h y a n) n = count_columns f h y a n low high yb (omega arith) in
    let last : HasCount (IsNumbered f h y (a + n)) 1 =
    HasCount-one one.tile one.is (λ t m. numbered-only f h y (a + n) one.tile t one.is m) in
    HasCount-same (n + 1) (suc n) (omega arith)
    (HasCount-union n 1 rest last
    (λ t p q. let x = p.column_below in let z = q.column_is in omega arith)
    (λ t. (put t, split t)))
  where
    put : (t : Tile) → IsInColumns f h y a n t ⊎ IsNumbered f h y (a + n) t → IsInColumns f h y a (suc n) t
    put t (inl m) = let x = m.column_below in
        record {
          family_is = m.family_is;
          height_is = m.height_is;
          row_is = m.row_is;
          column_from = m.column_from;
          column_below = omega arith;
        }
    put t (inr m) = let x = m.column_is in
        record {
          family_is = m.family_is;
          height_is = m.height_is;
          row_is = m.row_is;
          column_from = omega arith;
          column_below = omega arith;
        }

    split : (t : Tile) → IsInColumns f h y a (suc n) t → IsInColumns f h y a n t ⊎ IsNumbered f h y (a + n) t
    split t m = let x = m.column_below in elim (cases_lt (column_number t) (a + n)) [
      | inl p ↦
          inl (record {
            family_is = m.family_is;
            height_is = m.height_is;
            row_is = m.row_is;
            column_from = m.column_from;
            column_below = p;
          })
      | inr p ↦
          inr (record { family_is = m.family_is; height_is = m.height_is; row_is = m.row_is; column_is = omega arith })
    ]

record IsInRows (f : Family) (h b m a n : ℕ) (t : Tile) : Type 0 where
  family_is : t.family ≡ f
  height_is : tile_height t ≡ h
  row_from : b ≤ row_number t
  row_below : row_number t < b + m
  column_from : a ≤ column_number t
  column_below : column_number t < a + n

count_rows : (f : Family) (h y b m a n : ℕ) → 1 ≤ h → h ≤ 34 → y < 180 → y * tiles_of h ≤ b
    → b + m ≤ y * tiles_of h + tiles_of h
    → a + n ≤ 360 / width_at y * tiles_of h → HasCount (IsInRows f h b m a n) (m * n)
count_rows f h y b zero a n low high yb from to xb =
    HasCount-same 0 (0 * n) (omega arith)
    (HasCount-none (λ t i. let x = i.row_from in let z : row_number t < b + 0 = i.row_below in omega arith))
count_rows f h y b (suc m) a n low high yb from to xb =
    let tiles : ℕ = tiles_of h in
    let r : ℕ = b + m - y * tiles in
    let in_row : r < tiles = omega arith in
    let whole : y * tiles + r ≡ b + m = omega arith in
    let row : (b + m) / tiles ≡ y = ap (λ k. k / tiles) (sym whole) ∙ div-mul-add y tiles r in_row in
    let top : (y + 1) * tiles ≤ 180 * tiles = up_to tiles (y + 1) 180 (omega arith) in
    let below : b + m < 180 * tiles = omega arith in
    let rest : HasCount (IsInRows f h b m a n) (m * n) = count_rows f h y b m a n low high yb from (omega arith) xb in
    let last : HasCount (IsInColumns f h (b + m) a n) n = count_columns f h (b + m) a n low high below
    (subst (λ k. a + n ≤ 360 / width_at k * tiles) (sym row) xb) in
    HasCount-same (m * n + n) (suc m * n) (omega arith)
    (HasCount-union (m * n) n rest last
    (λ t p q. let x = p.row_below in let z = q.row_is in omega arith)
    (λ t. (put t, split t)))
  where
    up_to : (k x z : ℕ) → x ≤ z → x * k ≤ z * k
    up_to k x z le = mul-le-mul_right k le

    put : (t : Tile) → IsInRows f h b m a n t ⊎ IsInColumns f h (b + m) a n t → IsInRows f h b (suc m) a n t
    put t (inl i) = let x = i.row_below in
        record {
          family_is = i.family_is;
          height_is = i.height_is;
          row_from = i.row_from;
          row_below = omega arith;
          column_from = i.column_from;
          column_below = i.column_below;
        }
    put t (inr i) = let x = i.row_is in
        record {
          family_is = i.family_is;
          height_is = i.height_is;
          row_from = omega arith;
          row_below = omega arith;
          column_from = i.column_from;
          column_below = i.column_below;
        }

    split : (t : Tile) → IsInRows f h b (suc m) a n t → IsInRows f h b m a n t ⊎ IsInColumns f h (b + m) a n t
    split t i = let x = i.row_below in elim (cases_lt (row_number t) (b + m)) [
      | inl p ↦
          inl (record {
            family_is = i.family_is;
            height_is = i.height_is;
            row_from = i.row_from;
            row_below = p;
            column_from = i.column_from;
            column_below = i.column_below;
          })
      | inr p ↦
          inr (record {
            family_is = i.family_is;
            height_is = i.height_is;
            row_is = omega arith;
            column_from = i.column_from;
            column_below = i.column_below;
          })
    ]

-- a rectangle in one row of geocells has rows times columns
pub count_rectangle : (f : Family) (h y : ℕ) (rows columns : Run) → 1 ≤ h → h ≤ 34 → y < 180
    → y * tiles_of h ≤ rows.first → rows.end ≤ y * tiles_of h + tiles_of h → columns.end ≤ 360 / width_at y * tiles_of h
    → HasCount (IsInRectangle f h rows columns) ((rows.end - rows.first) * (columns.end - columns.first))
count_rectangle f h y rows columns low high yb from to xb = elim (cases_lt rows.end rows.first) [
  | inl p ↦ none (inl p)
  | inr p ↦ elim (cases_lt columns.end columns.first) [
    | inl q ↦ none (inr q)
    | inr q ↦ HasCount-iff ((rows.end - rows.first) * (columns.end - columns.first)) (λ t. (put t, take t))
        (count_rows f h y rows.first (rows.end - rows.first) columns.first (columns.end - columns.first)
        low high yb from (omega arith) (omega arith))
  ]
]
  where
    no_product : (a b c d : ℕ) → (a < b) ⊎ (c < d) → 0 ≡ (a - b) * (c - d)
    no_product a b c d (inl p) = let e : a - b ≡ 0 = omega arith in
        let f : 0 * (c - d) ≡ 0 = omega arith in sym f ∙ ap (λ k. k * (c - d)) (sym e)
    no_product a b c d (inr p) = let e : c - d ≡ 0 = omega arith in
        let f : (a - b) * 0 ≡ 0 = omega arith in sym f ∙ ap (λ k. (a - b) * k) (sym e)

    out : (rows.end < rows.first) ⊎ (columns.end < columns.first) → (t : Tile) → IsInRectangle f h rows columns t → ⊥
    out (inl p) t i = let x = i.row_from in let z = i.row_below in omega arith
    out (inr p) t i = let x = i.column_from in let z = i.column_below in omega arith

    none : (rows.end < rows.first) ⊎ (columns.end < columns.first)
        → HasCount (IsInRectangle f h rows columns) ((rows.end - rows.first) * (columns.end - columns.first))
    none p = HasCount-same 0 ((rows.end - rows.first) * (columns.end - columns.first))
        (no_product rows.end rows.first columns.end columns.first p) (HasCount-none (out p))

    put : (t : Tile) → IsInRows f h rows.first (rows.end - rows.first) columns.first (columns.end - columns.first) t
        → IsInRectangle f h rows columns t
    put t i = let x = i.row_below in let z = i.column_below in let u = i.row_from in let v = i.column_from in
        record {
          family_is = i.family_is;
          height_is = i.height_is;
          row_from = i.row_from;
          row_below = omega arith;
          column_from = i.column_from;
          column_below = omega arith;
        }

    take : (t : Tile) → IsInRectangle f h rows columns t
        → IsInRows f h rows.first (rows.end - rows.first) columns.first (columns.end - columns.first) t
    take t i = let x = i.row_below in let z = i.column_below in let u = i.row_from in let v = i.column_from in
        record {
          family_is = i.family_is;
          height_is = i.height_is;
          row_from = i.row_from;
          row_below = omega arith;
          column_from = i.column_from;
          column_below = omega arith;
        }
