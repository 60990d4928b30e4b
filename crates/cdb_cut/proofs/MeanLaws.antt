-- The weighted mean of four posts.
use Rattle.std.proofs.Common.{◌≡◌, ℕ, ◌+◌, ◌-◌, ◌*◌, ◌^◌, ◌<◌, ◌≤◌, ℤ, pos, negsuc, ◌+ℤ◌, ◌*ℤ◌, arith, refl, sym, ap, ◌∙◌, to_z, of_z, Option, Some, None, IfSome, true, false, cond}
use Rattle.std.specs.Prelude.{unsigned_abs, nat_eq, option_and_then}
use Rattle.std.specs.Option.{option_map}
use Rattle.std.specs.Int.{int_div_euclid}
use Rattle.std.proofs.lemmas.Int.{ints, unsigned_abs-mul, to_z-of_z, to_z_pos}
use Rattle.std.proofs.lemmas.Nat.{div_below}
use Rattle.std.proofs.lemmas.Bool.Decides.{nat_tests}
use Rattle.std.proofs.Math.Nat.{mul-le-mul_left}
use mir.Syntax.{w16, w128}
use mir.Val.{SFits}
use Rattle.cdb_source.specs.Sample.{plus, rounded}

four : (c d a b : ℕ) → 0 + c * d + c * b + a * d + a * b ≡ (c + a) * (d + b)
four c d a b = omega arith

-- the weights of the four posts add up to the product of the steps
pub four_weights : (m n a b : ℕ) → a ≤ m → b ≤ n → 0 + (m - a) * (n - b) + (m - a) * b + a * (n - b) + a * b ≡ m * n
four_weights m n a b h k =
    let e : m - a + a ≡ m = omega arith in
    let f : n - b + b ≡ n = omega arith in
    four (m - a) (n - b) a b ∙ ap (λ x. x * (n - b + b)) e ∙ ap (λ y. m * y) f

near_sum : (n t : ℤ) (s w : ℕ) → unsigned_abs n ≤ 32767 * s → unsigned_abs t ≤ 32767 * w
    → unsigned_abs (n +ℤ t) ≤ 32767 * (s + w)
near_sum n t s w h k = omega (arith, ints)

-- a sum of posts stays near: each post is at most 32767 in size
near_more : (n v : ℤ) (s w : ℕ) → unsigned_abs n ≤ 32767 * s → unsigned_abs v ≤ 32767
    → unsigned_abs (n +ℤ pos w *ℤ v) ≤ 32767 * (s + w)
near_more n v s w h k =
    let size : unsigned_abs (pos w *ℤ v) ≡ w * unsigned_abs v = unsigned_abs-mul (pos w) v in
    let most : w * unsigned_abs v ≤ w * 32767 = mul-le-mul_left w k in
    near_sum n (pos w *ℤ v) s w h (omega arith)

still_near : (w s : ℕ) (sum : Option ℤ) → IfSome sum (λ n. unsigned_abs n ≤ 32767 * s)
    → IfSome sum (λ n. unsigned_abs n ≤ 32767 * (s + w))
still_near w s None h = tt
still_near w s (Some n) h = omega (arith, h)

near_added : (w s : ℕ) (post sum : Option ℤ) → IfSome sum (λ n. unsigned_abs n ≤ 32767 * s)
    → IfSome post (λ v. unsigned_abs v ≤ 32767)
    → IfSome (option_and_then (λ n. option_map (λ v. n +ℤ pos w *ℤ v) post) sum) (λ n. unsigned_abs n ≤ 32767 * (s + w))
near_added w s post None h k = tt
near_added w s None (Some n) h k = tt
near_added w s (Some v) (Some n) h k = near_more n v s w h k

pub near_plus : (w s : ℕ) (post sum : Option ℤ) → IfSome sum (λ n. unsigned_abs n ≤ 32767 * s)
    → IfSome post (λ v. unsigned_abs v ≤ 32767) → IfSome (plus w post sum) (λ n. unsigned_abs n ≤ 32767 * (s + w))
near_plus w s post sum h k =
    elim (nat_eq w 0) as (λ b. IfSome (cond b sum (option_and_then (λ n. option_map (λ v. n +ℤ pos w *ℤ v) post) sum))
    (λ n. unsigned_abs n ≤ 32767 * (s + w))) [
      | true ↦ still_near w s sum h
      | false ↦ near_added w s post sum h k
    ]

-- a quotient of a number between -32768 and 32768 divisors
quotient_fits : (x : ℤ) (m : ℕ) → 0 < m → unsigned_abs x < 32768 * m → SFits w16 (int_div_euclid x (pos m))
quotient_fits (pos a) m h k = let q = div_below a m 32768 h k in omega (arith, ints)
quotient_fits (negsuc a) m h k = let l : a < 32768 * m = omega (arith, k) in
    let q = div_below a m 32768 h l in omega (arith, ints)

-- what is known of a total and a weight whose mean is taken
pub record IsNear (n : ℤ) (d : ℕ) : Type 0 where
  pub least : 1 ≤ d
  pub most : d ≤ 2 ^ 98
  pub near : unsigned_abs n ≤ 32767 * d

pub mean_fits : (n : ℤ) (d : ℕ) → IsNear n d → SFits w16 (rounded d n)
unfolding rounded
mean_fits n d k = let a = k.least in
    let b = k.near in quotient_fits (pos 2 *ℤ n +ℤ pos d) (2 * d) (omega arith) (omega (arith, ints))

-- the program's quotient, in 128 bits
mean_is : (n : ℤ) (d : ℕ) → IsNear n d
    → int_div_euclid (to_z w128 (of_z w128 (to_z w128 (of_z w128 (pos 2 *ℤ to_z w128 (of_z w128 n))) +ℤ to_z w128 d)))
    (to_z w128 (of_z w128 (pos 2 *ℤ to_z w128 d))) ≡ rounded d n
unfolding rounded
mean_is n d k =
    let a = k.least in let b = k.near in let m = k.most in
    let fn : SFits w128 n = omega (arith, ints) in
    let ft : SFits w128 (pos 2 *ℤ n) = omega (arith, ints) in
    let fs : SFits w128 (pos 2 *ℤ n +ℤ pos d) = omega (arith, ints) in
    let fd : SFits w128 (pos 2 *ℤ pos d) = omega (arith, ints) in
    rw (
      to_z-of_z w128 n fn,
      to_z_pos w128 d (omega arith),
      to_z-of_z w128 (pos 2 *ℤ n) ft,
      to_z-of_z w128
          (pos 2 *ℤ n +ℤ pos d) fs,
      to_z-of_z w128 (pos 2 *ℤ pos d) fd,
    ) refl

pub quotient_is : (n q : ℤ) (d : ℕ)
    → q ≡ int_div_euclid
    (to_z w128 (of_z w128 (to_z w128 (of_z w128 (pos 2 *ℤ to_z w128 (of_z w128 n))) +ℤ to_z w128 d)))
    (to_z w128 (of_z w128 (pos 2 *ℤ to_z w128 d)))
    → 1 ≤ d → d ≤ 2 ^ 98 → unsigned_abs n ≤ 32767 * d → q ≡ rounded d n
quotient_is n q d e a m b = e ∙ mean_is n d (record { least = a; most = m; near = b })

-- and back in 16 bits
pub mean_back : (q : ℤ) (n : ℤ) (d : ℕ) → IsNear n d → q ≡ rounded d n
    → to_z w16 (of_z w16 (to_z w128 (of_z w128 q))) ≡ rounded d n
mean_back q n d k e =
    let short : SFits w16 (rounded d n) = mean_fits n d k in
    let long : SFits w128 (rounded d n) = omega (arith, ints) in
    rw (e, to_z-of_z w128 (rounded d n) long, to_z-of_z w16 (rounded d n) short) refl

pub back_fits : (q : ℤ) (n : ℤ) (d : ℕ) → IsNear n d → q ≡ rounded d n → SFits w16 (to_z w128 (of_z w128 q))
back_fits q n d k e =
    let short : SFits w16 (rounded d n) = mean_fits n d k in
    let long : SFits w128 (rounded d n) = omega (arith, ints) in
    rw (e, to_z-of_z w128 (rounded d n) long) short

-- the program's sum, in 128 bits
sum_exact : (w : ℕ) (n v : ℤ) → w ≤ 2 ^ 98 → unsigned_abs n ≤ 32767 * 2 ^ 100 → unsigned_abs v ≤ 32767
    → to_z w128
    (of_z w128
    (to_z w128 (of_z w128 n) +ℤ to_z w128
    (of_z w128 (to_z w128 w *ℤ to_z w128 (of_z w128 (to_z w16 (of_z w16 v))))))) ≡ n +ℤ pos w *ℤ v
sum_exact w n v h k l =
    let size : unsigned_abs (pos w *ℤ v) ≡ w * unsigned_abs v = unsigned_abs-mul (pos w) v in
    let most : w * unsigned_abs v ≤ w * 32767 = mul-le-mul_left w l in
    let fv : SFits w16 v = omega (arith, ints) in
    let fw : SFits w128 v = omega (arith, ints) in
    let fn : SFits w128 n = omega (arith, ints) in
    let ft : SFits w128 (pos w *ℤ v) = term_fits (pos w *ℤ v) (omega arith) in
    let fs : SFits w128 (n +ℤ pos w *ℤ v) = sum_fits n (pos w *ℤ v) k (omega arith) in
    rw (
      to_z-of_z w16 v fv,
      to_z-of_z w128 v fw,
      to_z_pos w128 w (omega arith),
      to_z-of_z w128 (pos w *ℤ v) ft,
      to_z-of_z w128 n fn,
      to_z-of_z w128 (n +ℤ pos w *ℤ v) fs,
    ) refl
  where
    term_fits : (t : ℤ) → unsigned_abs t ≤ 2 ^ 98 * 32767 → SFits w128 t
    term_fits t h = omega (arith, ints)

    sum_fits : (n t : ℤ) → unsigned_abs n ≤ 32767 * 2 ^ 100 → unsigned_abs t ≤ 2 ^ 98 * 32767 → SFits w128 (n +ℤ t)
    sum_fits n t h k = omega (arith, ints)

pub plus_is : (w : ℕ) (n v : ℤ) (post sum : Option ℤ) → (w ≡ 0 → ⊥) → sum ≡ Some n → post ≡ Some v → plus w post sum
    ≡ Some (n +ℤ pos w *ℤ v)
plus_is w n v post sum some e f = rw (e, f, other) refl
  where
    other : nat_eq w 0 ≡ false
    other = grind (arith, nat_tests)

pub sum_is : (w : ℕ) (n v : ℤ) (post sum : Option ℤ) → w ≤ 2 ^ 98 → (w ≡ 0 → ⊥) → sum ≡ Some n → post ≡ Some v
    → IfSome sum (λ m. unsigned_abs m ≤ 32767 * 2 ^ 100) → IfSome post (λ u. unsigned_abs u ≤ 32767)
    → Some (to_z w128
    (of_z w128
    (to_z w128 (of_z w128 n) +ℤ to_z w128
    (of_z w128 (to_z w128 w *ℤ to_z w128 (of_z w128 (to_z w16 (of_z w16 v)))))))) ≡ plus w post sum
sum_is w n v post sum h some e f near_n near_v =
    let k : unsigned_abs n ≤ 32767 * 2 ^ 100 = rw e at near_n in
    let l : unsigned_abs v ≤ 32767 = rw f at near_v in
    ap (λ (z : ℤ). Some z) (sum_exact w n v h k l) ∙ sym (plus_is w n v post sum some e f)
