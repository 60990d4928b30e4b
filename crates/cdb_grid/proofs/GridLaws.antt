-- Laws of corners and cells.
use Rattle.std.proofs.Common.{◌≡◌, ℕ, suc, ◌+◌, ◌-◌, ◌*◌, ◌/◌, ◌^◌, ◌<◌, ◌≤◌, inl, inr, sym, ◌∙◌, ap, subst, arith, lit<}
use Prim.Native.Nat.{◌∣◌}
use Rattle.std.proofs.lemmas.Bool.{cases_lt}
use Rattle.std.proofs.lemmas.Nat.{div-mul-add}
use Rattle.std.proofs.lemmas.Nat.Gcd.{dvd_trans}
use Rattle.std.proofs.Math.Nat.{div-mul_cancel, dvd-mul_left, dvd-add, mul-dvd-mul, mul-dvd-mul_left, mul-le-mul_right, div-div-eq-div-mul, mul_comm}
use Rattle.cdb_grid.specs.Units.{degree, step, width_at}
use Rattle.cdb_grid.specs.Grid.{Place, width_of, step_east, IsCorner, IsInCell, beside}
use Rattle.cdb_grid.proofs.UnitLaws.{width-pos, width-dvd, step-pos, step-suc, step-dvd, step-dvd-degree, steps-in-degree}

-- two places with the same coordinates are one
pub same_place : (p q : Place) → p.north ≡ q.north → p.east ≡ q.east → p ≡ q
same_place p q n e = let of : ℕ → ℕ → Place = λ a b. record { north = a; east = b } in
    ap (λ a. of a p.east) n ∙ ap (of q.north) e

-- places of one row of degrees have one width
pub same_width : (p q : Place) → p.north / degree ≡ q.north / degree → width_of p ≡ width_of q
unfolding width_of
same_width p q e = ap width_at e

pub width_of-pos : (p : Place) → 0 < width_of p
unfolding width_of
width_of-pos p = width-pos (p.north / degree)

pub width_of-dvd : (p : Place) → width_of p ∣ 360
unfolding width_of
width_of-dvd p = width-dvd (p.north / degree)

-- a corner of a height is one of each smaller height
pub IsCorner_finer : (k h : ℕ) (p : Place) → k ≤ h → IsCorner h p → IsCorner k p
IsCorner_finer k h p le c = record {
  on_row = dvd_trans (step k) (step-dvd k h le) c.on_row;
  on_column = dvd_trans (step_east k p) (mul-dvd-mul_left (step k) (width_of p) (step-dvd k h le)) c.on_column;
  north_within = c.north_within;
  east_within = c.east_within;
}

-- less by a count is less by a whole step
pub count_step : (a b s : ℕ) → a < b → a * s + s ≤ b * s
count_step a b s lt = let m : suc a * s ≤ b * s = mul-le-mul_right s lt in omega arith

-- the next multiple is a whole step away
pub next_multiple : (s m n : ℕ) → s ∣ m → s ∣ n → m < n → m + s ≤ n
next_multiple s m n d e lt =
    let a : m / s * s ≡ m = div-mul_cancel s d in
    let b : n / s * s ≡ n = div-mul_cancel s e in
    elim (cases_lt (m / s) (n / s)) [
      | inl p ↦ let q : m / s * s + s ≤ n / s * s = count_step (m / s) (n / s) s p in omega arith
      | inr p ↦ let q : n / s * s ≤ m / s * s = mul-le-mul_right s p in omega arith
    ]

-- two multiples less than a step apart are one
pub same_multiple : (s m n : ℕ) → s ∣ m → s ∣ n → m ≤ n → n < m + s → n ≡ m
same_multiple s m n d e le lt =
    elim (cases_lt m n) [
      | inl p ↦ let q : m + s ≤ n = next_multiple s m n d e p in omega arith
      | inr p ↦ omega arith
    ]

-- a quotient within one step of a multiple
pub quotient_of : (a s y : ℕ) → a * s ≤ y → y < a * s + s → y / s ≡ a
quotient_of a s y le lt =
    let r : y - a * s < s = omega arith in
    let e : y ≡ a * s + (y - a * s) = omega arith in
    ap (λ n. n / s) e ∙ div-mul-add a s (y - a * s) r

-- a cell lies in one row of degrees
pub same_row : (h y y' : ℕ) → h ≤ 34 → step h ∣ y → y ≤ y' → y' < y + step h → y' / degree ≡ y / degree
same_row h y y' le d low high =
    let a : y / step h * step h ≡ y = div-mul_cancel (step h) d in
    let q : y' / step h ≡ y / step h = quotient_of (y / step h) (step h) y' (omega arith) (omega arith) in
    let whole : step h * 2 ^ (34 - h) ≡ degree = mul_comm (step h) (2 ^ (34 - h)) ∙ steps-in-degree h le in
    let in_degrees : (n : ℕ) → n / degree ≡ n / step h / 2 ^ (34 - h) = λ n.
    ap (λ m. n / m) (sym whole) ∙ sym (div-div-eq-div-mul n (step h) (2 ^ (34 - h))) in
    in_degrees y' ∙ ap (λ n. n / 2 ^ (34 - h)) q ∙ sym (in_degrees y)

-- the whole globe is a whole number of steps, both ways
pub step-dvd-globe : (h : ℕ) → h ≤ 34 → step h ∣ 180 * degree
step-dvd-globe h le = dvd_trans (step h) (step-dvd-degree h le) (dvd-mul_left degree 180)

pub step_east-dvd-globe : (h : ℕ) (p : Place) → h ≤ 34 → step_east h p ∣ 360 * degree
step_east-dvd-globe h p le = mul-dvd-mul (width_of p) (step h) (width_of-dvd p) (step-dvd-degree h le)

-- a cell ends within the globe
pub cell_within : (h : ℕ) (c : Place) → h ≤ 34 → IsCorner h c
    → (c.north + step h ≤ 180 * degree) × (c.east + step_east h c ≤ 360 * degree)
cell_within h c le k = (
  next_multiple (step h) c.north (180 * degree) k.on_row (step-dvd-globe h le) k.north_within,
  next_multiple (step_east h c) c.east (360 * degree) k.on_column (step_east-dvd-globe h c le) k.east_within,
)

-- the places of a cell have its width
pub cell_width : (h : ℕ) (c q : Place) → h ≤ 34 → IsCorner h c → c.north ≤ q.north → q.north < c.north + step h
    → width_of q ≡ width_of c
cell_width h c q le k low high = same_width q c (same_row h c.north q.north le k.on_row low high)

-- a cell has one corner of its height
pub corner_in_cell : (h : ℕ) (c q : Place) → h ≤ 34 → IsCorner h c → IsCorner h q → IsInCell h c q → q ≡ c
corner_in_cell h c q le k l i =
    let w : width_of q ≡ width_of c = cell_width h c q le k i.south i.north in
    let d : step_east h c ∣ q.east = subst (λ n. n * step h ∣ q.east) w l.on_column in
    same_place q c
    (same_multiple (step h) c.north q.north k.on_row l.on_row i.south i.north)
    (same_multiple (step_east h c) c.east q.east k.on_column d i.west i.east)

-- a part of a cell begins within it
part_below : (i s : ℕ) → i < 2 → i * s + s ≤ 2 * s
part_below i s lt = let m : suc i * s ≤ 2 * s = mul-le-mul_right s lt in omega arith

child_north : (h i : ℕ) (c : Place) → i < 2 → c.north + i * step h + step h ≤ c.north + step (suc h)
child_north h i c lt =
    let e : step (suc h) ≡ 2 * step h = step-suc h in
    let b : i * step h + step h ≤ 2 * step h = part_below i (step h) lt in
    omega arith

step_east-suc : (h : ℕ) (c : Place) → step_east (suc h) c ≡ 2 * step_east h c
step_east-suc h c = let e : step (suc h) ≡ 2 * step h = step-suc h in
    ap (λ s. width_of c * s) e ∙ swap (width_of c) (step h)
  where
    swap : (w s : ℕ) → w * (2 * s) ≡ 2 * (w * s)
    swap w s = omega arith

child_east : (h j : ℕ) (c : Place) → j < 2 → c.east + j * step_east h c + step_east h c ≤ c.east + step_east (suc h) c
child_east h j c lt =
    let e : step_east (suc h) c ≡ 2 * step_east h c = step_east-suc h c in
    let b : j * step_east h c + step_east h c ≤ 2 * step_east h c = part_below j (step_east h c) lt in
    omega arith

-- the parts of a cell have its width
pub child_width : (h i j : ℕ) (c : Place) → h < 34 → i < 2 → IsCorner (suc h) c → width_of (beside h c i j) ≡ width_of c
child_width h i j c lt up k =
    let b : c.north + i * step h + step h ≤ c.north + step (suc h) = child_north h i c up in
    let p : 0 < step h = step-pos h in
    cell_width (suc h) c (beside h c i j) lt k (omega arith) (omega arith)

-- the corners of the four parts of a cell
pub child_corner : (h i j : ℕ) (c : Place) → h < 34 → i < 2 → j < 2 → IsCorner (suc h) c → IsCorner h (beside h c i j)
child_corner h i j c lt up right k =
    let fine : IsCorner h c = IsCorner_finer h (suc h) c (omega arith) k in
    let w : width_of (beside h c i j) ≡ width_of c = child_width h i j c lt up k in
    let ends : (c.north + step (suc h) ≤ 180 * degree) × (c.east + step_east (suc h) c ≤ 360 * degree) =
    cell_within (suc h) c lt k in
    let n : c.north + i * step h + step h ≤ c.north + step (suc h) = child_north h i c up in
    let e : c.east + j * step_east h c + step_east h c ≤ c.east + step_east (suc h) c = child_east h j c right in
    let p : 0 < step h = step-pos h in
    let q : 0 < step_east h c = mul-pos (width_of c) (step h) (width_of-pos c) p in
    record {
      on_row = dvd-add (step h) fine.on_row (dvd-mul_left (step h) i);
      on_column = subst (λ n. n * step h ∣ c.east + j * step_east h c) (sym w)
          (dvd-add (step_east h c) fine.on_column (dvd-mul_left (step_east h c) j));
      north_within = let a = ends.0 in omega arith;
      east_within = let a = ends.1 in omega arith;
    }
  where
    mul-pos : (a b : ℕ) → 0 < a → 0 < b → 0 < a * b
    mul-pos a b x y = let m : 1 * b ≤ a * b = mul-le-mul_right b x in omega arith

-- a part of a cell lies in it
pub in_parent : (h i j : ℕ) (c q : Place) → h < 34 → i < 2 → j < 2 → IsCorner (suc h) c
    → IsInCell h (beside h c i j) q → IsInCell (suc h) c q
in_parent h i j c q lt up right k inside =
    let w : width_of (beside h c i j) ≡ width_of c = child_width h i j c lt up k in
    let n : c.north + i * step h + step h ≤ c.north + step (suc h) = child_north h i c up in
    let e : c.east + j * step_east h c + step_east h c ≤ c.east + step_east (suc h) c = child_east h j c right in
    let l : q.east < c.east + j * step_east h c + step_east h c =
    subst (λ n. q.east < c.east + j * step_east h c + n * step h) w inside.east in
    let s = inside.south in let t = inside.north in let u = inside.west in
    record { south = omega arith; north = omega arith; west = omega arith; east = omega arith }

-- the one part of a cell that holds a place
pub record IsInOne (h : ℕ) (c q : Place) : Type 0 where
  pub up : ℕ
  pub right : ℕ
  pub up_below : up < 2
  pub right_below : right < 2
  pub inside : IsInCell h (beside h c up right) q

record Half (from s at : ℕ) : Type 0 where
  index : ℕ
  below : index < 2
  low : from + index * s ≤ at
  high : at < from + index * s + s

half_of : (from s at : ℕ) → from ≤ at → at < from + 2 * s → Half from s at
half_of from s at low high =
    elim (cases_lt at (from + s)) [
      | inl p ↦ record { index = 0; below = lit< tt; low = omega arith; high = omega arith }
      | inr p ↦ record { index = 1; below = lit< tt; low = omega arith; high = omega arith }
    ]

pub in_child : (h : ℕ) (c q : Place) → h < 34 → IsCorner (suc h) c → IsInCell (suc h) c q → IsInOne h c q
in_child h c q lt k inside =
    let n : q.north < c.north + 2 * step h = subst (λ s. q.north < c.north + s) (step-suc h) inside.north in
    let e : q.east < c.east + 2 * step_east h c = subst (λ s. q.east < c.east + s) (step_east-suc h c) inside.east in
    let a = half_of c.north (step h) q.north inside.south n in
    let b = half_of c.east (step_east h c) q.east inside.west e in
    record {
      up = a.index;
      right = b.index;
      up_below = a.below;
      right_below = b.below;
      inside = record {
        south = a.low;
        north = a.high;
        west = b.low;
        east = subst (λ n. q.east < c.east + b.index * step_east h c + n * step h)
            (sym (child_width h a.index b.index c lt a.below k)) b.high;
      };
    }

twice : (from i s t : ℕ) → t ≡ 2 * s → from + i * t ≡ from + 2 * i * s
twice from i s t e = ap (λ n. from + i * n) e ∙ again
  where
    again : from + i * (2 * s) ≡ from + 2 * i * s
    again = omega arith
