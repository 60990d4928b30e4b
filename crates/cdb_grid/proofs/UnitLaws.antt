-- Laws of widths, steps and counts, over plain numbers.
use Rattle.std.proofs.Common.{◌≡◌, ℕ, suc, ◌+◌, ◌-◌, ◌*◌, ◌/◌, ◌%◌, ◌^◌, ◌<◌, ◌≤◌, min, nat_lt, refl, sym, ◌∙◌, ap, subst, ℤ, pos, negsuc, ◌+ℤ◌, ◌≤ℤ◌, ◌<ℤ◌, arith, lit<}
use Prim.Native.Nat.{◌∣◌}
use Rattle.std.proofs.lemmas.Bool.{cond_both}
use Rattle.std.proofs.lemmas.Int.{ints}
use Rattle.std.proofs.lemmas.Nat.{pow-add, pow_pos, mul-le, one_shl}
use Rattle.std.proofs.Math.Pow.{pow_mono}
use Rattle.std.proofs.lemmas.Nat.Gcd.{dvd_of_mod-eq-zero}
use Rattle.std.proofs.Math.Nat.{mul-div_cancel, dvd-mul_left, mul-le-mul_right, pow-succ'}
use Rattle.cdb_grid.specs.Units.{degree, height_of, step, tiles_of, side_of, width_at}

-- what holds of each of the widths holds of the width at any row
pub at_widths : (P : ℕ → Type 0) → P 1 → P 2 → P 3 → P 4 → P 6 → P 12 → (y : ℕ) → P (width_at y)
unfolding width_at
at_widths P one two three four six twelve y =
    cond_both (nat_lt y 1) 12 _ P (λ _. twelve) (λ _.
    cond_both (nat_lt y 10) 6 _ P (λ _. six) (λ _.
    cond_both (nat_lt y 15) 4 _ P (λ _. four) (λ _.
    cond_both (nat_lt y 20) 3 _ P (λ _. three) (λ _.
    cond_both (nat_lt y 40) 2 _ P (λ _. two) (λ _.
    cond_both (nat_lt y 140) 1 _ P (λ _. one) (λ _.
    cond_both (nat_lt y 160) 2 _ P (λ _. two) (λ _.
    cond_both (nat_lt y 165) 3 _ P (λ _. three) (λ _.
    cond_both (nat_lt y 170) 4 _ P (λ _. four) (λ _.
    cond_both (nat_lt y 179) 6 _ P (λ _. six) (λ _. twelve))))))))))

pub width-pos : (y : ℕ) → 0 < width_at y
width-pos = at_widths (λ w. 0 < w) (lit< tt) (lit< tt) (lit< tt) (lit< tt) (lit< tt) (lit< tt)

-- every width divides the whole circle
pub width-dvd : (y : ℕ) → width_at y ∣ 360
width-dvd = at_widths (λ w. w ∣ 360)
    (dvd_of_mod-eq-zero 1 refl) (dvd_of_mod-eq-zero 2 refl) (dvd_of_mod-eq-zero 3 refl)
    (dvd_of_mod-eq-zero 4 refl) (dvd_of_mod-eq-zero 6 refl) (dvd_of_mod-eq-zero 12 refl)

pub step-pos : (h : ℕ) → 0 < step h
step-pos h = let p : 0 < 2 ^ h = pow_pos h in omega arith

pub step-suc : (h : ℕ) → step (suc h) ≡ 2 * step h
step-suc h = let e : 2 ^ suc h ≡ 2 * 2 ^ h = pow-succ' 2 h in omega arith

-- a step is a power of two of any finer one
pub step-more : (k j : ℕ) → step (k + j) ≡ 2 ^ j * step k
step-more k j = let e : 2 ^ (k + j) ≡ 2 ^ k * 2 ^ j = pow-add 2 k j in omega arith

pub step-dvd : (k h : ℕ) → k ≤ h → step k ∣ step h
step-dvd k h le =
    let e : k + (h - k) ≡ h = omega arith in
    subst (λ n. step k ∣ n) (sym (step-more k (h - k)) ∙ ap step e) (dvd-mul_left (step k) (2 ^ (h - k)))

-- how many steps of a height a degree has
pub steps-in-degree : (h : ℕ) → h ≤ 34 → 2 ^ (34 - h) * step h ≡ degree
steps-in-degree h le =
    let e : h + (34 - h) ≡ 34 = omega arith in
    sym (step-more h (34 - h)) ∙ ap step e

pub step-dvd-degree : (h : ℕ) → h ≤ 34 → step h ∣ degree
step-dvd-degree h le = step-dvd h 34 le

-- the tiles of a height along a side of a geocell, and the elements along theirs, are its rows
pub rows-in-cell : (h : ℕ) → tiles_of h * side_of h ≡ 2 ^ (34 - h)
rows-in-cell h =
    let e : (24 - h) + min 10 (34 - h) ≡ 34 - h = omega arith in
    sym (pow-add 2 (24 - h) (min 10 (34 - h))) ∙ ap (λ n. 2 ^ n) e

pub all_rows : (h : ℕ) → h ≤ 34 → tiles_of h * side_of h * step h ≡ degree
all_rows h le = ap (λ n. n * step h) (rows-in-cell h) ∙ steps-in-degree h le

-- the step at an index of a tile ends within the degree
pub along_inside : (h tile index : ℕ) → h ≤ 34 → tile < tiles_of h → index < side_of h
    → (tile * side_of h + index) * step h + step h ≤ degree
along_inside h tile index le below under =
    let whole : tiles_of h * side_of h * step h ≡ degree = all_rows h le in
    let rows : suc tile * side_of h ≤ tiles_of h * side_of h = mul-le-mul_right (side_of h) below in
    let last : tile * side_of h + index + 1 ≤ tiles_of h * side_of h = omega arith in
    let steps : (tile * side_of h + index + 1) * step h ≤ tiles_of h * side_of h * step h =
    mul-le-mul_right (step h) last in
    omega arith

-- the one number of which a is a multiple by d is their quotient
pub only_quotient : (u d a : ℕ) → 0 < d → u * d ≡ a → a / d ≡ u
only_quotient u d a p e = ap (λ n. n / d) (sym e) ∙ mul-div_cancel u p

-- one shifted by a height, as 64 bits hold it
pub shifted : (h : ℕ) → h ≤ 34 → (1 * 2 ^ h) % 2 ^ 64 ≡ 2 ^ h
shifted h le = let lt : h < 64 = omega arith in one_shl h 64 lt

-- the powers of two that heights and sides give
pub power_pos : (h : ℕ) → 1 ≤ 2 ^ h
power_pos h = pow_pos h

pub power_most : (h : ℕ) → h ≤ 34 → 2 ^ h ≤ 17179869184
power_most h high = pow_mono {j = 34} high

pub side-pos : (h : ℕ) → 1 ≤ side_of h
side-pos h = pow_pos (min 10 (34 - h))

-- the tiles of a height together fill a degree, so one is at most that
pub tiles-pos : (h : ℕ) → 1 ≤ tiles_of h
tiles-pos h = pow_pos (24 - h)

pub extent-le : (h : ℕ) → h ≤ 34 → side_of h * step h ≤ degree
extent-le h le =
    let e : tiles_of h * side_of h * step h ≡ degree = all_rows h le in
    let m : 1 * (side_of h * step h) ≤ tiles_of h * (side_of h * step h) = mul-le-mul_right (side_of h * step h)
    (tiles-pos h) in
    omega arith

pub extent-pos : (h : ℕ) → 1 ≤ side_of h * step h
extent-pos h = mul-le 1 1 (side_of h) (step h) (side-pos h) (step-pos h)

-- a shift by at most ten, as 32 bits hold it
pub shift_most : (k : ℕ) → k ≤ 10 → (1 * 2 ^ k) % 2 ^ 32 ≤ 1024
shift_most k le =
    let lt : k < 32 = omega arith in
    let m : 2 ^ k ≤ 2 ^ 10 = pow_mono le in
    rw (one_shl k 32 lt) m

-- the heights of levels
pub height-least : (l : ℤ) → l ≤ℤ pos 23 → 1 ≤ height_of l
height-least (pos l) le = omega (arith, ints)
height-least (negsuc l) le = omega arith

pub height-most : (l : ℤ) → negsuc 9 ≤ℤ l → height_of l ≤ 34
height-most (pos l) le = omega arith
height-most (negsuc l) le = omega (arith, ints)

-- one level finer is one height less
pub height-finer : (k l : ℤ) → l ≤ℤ pos 23 → k +ℤ pos 1 ≡ l → height_of k ≡ suc (height_of l)
height-finer (pos k) (pos l) le e = omega (arith, ints)
height-finer (pos k) (negsuc l) le e = omega (arith, ints)
height-finer (negsuc k) (pos l) le e = omega (arith, ints)
height-finer (negsuc k) (negsuc l) le e = omega (arith, ints)

-- one level has one height
pub height-same : (k l : ℤ) → k ≤ℤ pos 23 → l ≤ℤ pos 23 → height_of k ≡ height_of l → k ≡ l
height-same (pos k) (pos l) a b e = omega (arith, ints)
height-same (pos k) (negsuc l) a b e = omega (arith, ints)
height-same (negsuc k) (pos l) a b e = omega (arith, ints)
height-same (negsuc k) (negsuc l) a b e = omega (arith, ints)

pub tiles-le : (h : ℕ) → tiles_of h ≤ 16777216
tiles-le h = let le : 24 - h ≤ 24 = omega arith in pow_mono {j = 24} le

-- one shifted by at most 23, as 32 bits hold it
pub shifted_32 : (h : ℕ) → 1 ≤ h → (1 * 2 ^ (24 - h)) % 2 ^ 32 ≡ tiles_of h
shifted_32 h le = let lt : 24 - h < 32 = omega arith in one_shl (24 - h) 32 lt

pub tiles_least : (h : ℕ) → 1 ≤ 2 ^ (24 - h)
tiles_least h = pow_pos (24 - h)

pub tiles_most : (h : ℕ) → 1 ≤ h → tiles_of h ≤ 8388608
tiles_most h le = let m : 24 - h ≤ 23 = omega arith in pow_mono {j = 23} m

-- the tiles of a level along a side of a geocell, by its number
pub tiles_below_zero : (l : ℤ) → l <ℤ pos 0 → tiles_of (height_of l) ≡ 1
tiles_below_zero (pos l) lt = absurd (omega (arith, ints))
tiles_below_zero (negsuc l) lt = let e : 24 - (25 + l) ≡ 0 = omega arith in ap (λ n. 2 ^ n) e

pub tiles_from_zero : (l : ℕ) → l ≤ 23 → tiles_of (height_of (pos l)) ≡ 2 ^ l
tiles_from_zero l le = let e : 24 - (24 - l) ≡ l = omega arith in ap (λ n. 2 ^ n) e
