-- The parts of an axis that hold a multiple of a step between two numbers.
use Rattle.std.proofs.Common.{◌≡◌, ℕ, suc, ◌+◌, ◌-◌, ◌*◌, ◌/◌, ◌%◌, ◌<◌, ◌≤◌, ◌↔◌, inl, inr, min, sym, subst, arith}
use Prim.Native.Nat.{◌∣◌}
use Rattle.std.proofs.lemmas.Bool.{cases_lt}
use Rattle.std.proofs.lemmas.Grind.{div_ceil_times}
use Rattle.std.proofs.lemmas.Nat.{div-add-mod', mod_below, div_below, le-div}
use Rattle.std.proofs.Math.Nat.{dvd-mul_left, dvd-add, mul-le-mul_right}
use Rattle.std.proofs.lemmas.Nat.Gcd.{dvd_trans}
use Rattle.cdb_grid.proofs.GridLaws.{next_multiple}
use Rattle.cdb_source.specs.declared.kind.Kind.{Kind}
use Rattle.cdb_source.specs.declared.kind.Kind.TheVariants.{Elevation, Material}
use Rattle.cdb_touch.specs.inside.Axis.{HasPlaceOnAxis, HoldsMultiple, inset_of}

-- the first multiple of a step that isn't below a number
pub record IsFirst (step low first : ℕ) : Type 0 where
  pub multiple : step ∣ first
  pub above : low ≤ first
  pub near : first < low + step

pub first_of : (step low first : ℕ) → 1 ≤ step → first ≡ (low / step + min 1 (low % step)) * step
    → IsFirst step low first
first_of step low first p e =
    let t : (low ≤ (low / step + min 1 (low % step)) * step) × ((low / step + min 1 (low % step)) * step < low + step) =
    div_ceil_times low step p in
    record {
      multiple = subst (λ n. step ∣ n) (sym e) (dvd-mul_left step (low / step + min 1 (low % step)));
      above = subst (λ n. low ≤ n) (sym e) t.0;
      near = subst (λ n. n < low + step) (sym e) t.1;
    }

-- no multiple stands before the first one
pub first_least : (step low first at : ℕ) → IsFirst step low first → step ∣ at → low ≤ at → first ≤ at
first_least step low first at f d le =
    elim (cases_lt at first) [
      | inl p ↦ let q : at + step ≤ first = next_multiple step at first d f.multiple p in let n = f.near in omega arith
      | inr p ↦ p
    ]

-- the parts that do run from the one of the first multiple to the one of the last
pub holds_to : (step low high extent first number : ℕ) → 1 ≤ extent → IsFirst step low first
    → HoldsMultiple step low high extent number
    → (first < high) × (first / extent ≤ number) × (number < (high - 1) / extent + 1)
holds_to step low high extent first number p f m =
    let least : first ≤ m.at = first_least step low first m.at f m.multiple m.above in
    let a = m.below in let b = m.south in let c = m.north in
    let one : first / extent < number + 1 = div_below first extent (number + 1) p (omega arith) in
    let last : number ≤ (high - 1) / extent = le-div number (high - 1) extent p (omega arith) in
    (omega arith, omega arith, omega arith)

pub holds_from : (step low high extent first number : ℕ) → 1 ≤ extent → step ∣ extent → IsFirst step low first
    → first < high → first / extent ≤ number → number < (high - 1) / extent + 1
    → HoldsMultiple step low high extent number
holds_from step low high extent first number p d f lt ge le =
    let q : first / extent * extent + first % extent ≡ first = div-add-mod' first extent in
    let r : first % extent < extent = mod_below first extent p in
    let s : (high - 1) / extent * extent + (high - 1) % extent ≡ high - 1 = div-add-mod' (high - 1) extent in
    let one : first / extent * extent ≤ number * extent = mul-le-mul_right extent ge in
    let two : number * extent ≤ (high - 1) / extent * extent = mul-le-mul_right extent (omega arith) in
    let above = f.above in
    elim (cases_lt first (number * extent)) [
      | inl before ↦ record {
        at = number * extent;
        multiple = dvd_trans step d (dvd-mul_left extent number);
        above = omega arith;
        below = omega arith;
        south = omega arith;
        north = omega arith;
      }
      | inr after ↦ record {
        at = first;
        multiple = f.multiple;
        above = f.above;
        below = lt;
        south = after;
        north = omega arith;
      }
    ]

pub inset-below : (kind : Kind) (step : ℕ) → 1 ≤ step → inset_of kind step < step
inset-below Elevation step p = p
inset-below Material step p = omega arith

-- where a place stands in a part, the corner of its cell does
pub corner_in_part : (step extent n corner inset : ℕ) → step ∣ extent → step ∣ corner → inset < step
    → n * extent ≤ corner + inset → n * extent ≤ corner
corner_in_part step extent n corner inset d e lt le =
    elim (cases_lt corner (n * extent)) [
      | inl p ↦ let q : corner + step ≤ n * extent = next_multiple step corner (n * extent) e
          (dvd_trans step d (dvd-mul_left extent n)) p in omega arith
      | inr p ↦ p
    ]

-- and where the corner stands in a part, the place does
pub place_in_part : (step extent n corner inset : ℕ) → step ∣ extent → step ∣ corner → inset < step
    → corner < n * extent + extent → corner + inset < n * extent + extent
place_in_part step extent n corner inset d e lt le =
    let f : step ∣ n * extent + extent = dvd-add step (dvd_trans step d (dvd-mul_left extent n)) d in
    let q : corner + step ≤ n * extent + extent = next_multiple step corner (n * extent + extent) e f le in
    omega arith

-- one past the corners of the cells whose places aren't past the far edge
abbrev pub past_corners : Kind → ℕ → ℕ → ℕ → ℕ
past_corners Elevation step far globe = min (far + 1) globe
past_corners Material step far globe = far - step / 2

pub place_to : (kind : Kind) (step near far extent globe n : ℕ) → 1 ≤ step → step ∣ extent → (n + 1) * extent ≤ globe
    → HasPlaceOnAxis kind step near far extent n
    → HoldsMultiple step (near - inset_of kind step) (past_corners kind step far globe) extent n
place_to Elevation step near far extent globe n p d within h =
    let a = h.from_low in let b = h.below_high in let x = h.from_near in let y = h.to_far in
    record {
      at = h.corner;
      multiple = h.on_grid;
      above = omega arith;
      below = omega arith;
      south = omega arith;
      north = omega arith;
    }
place_to Material step near far extent globe n p d within h =
    let a = h.from_low in let b = h.below_high in let x = h.from_near in let y = h.to_far in
    let low : n * extent ≤ h.corner = corner_in_part step extent n h.corner (step / 2) d h.on_grid (omega arith) a in
    record {
      at = h.corner;
      multiple = h.on_grid;
      above = omega arith;
      below = omega arith;
      south = low;
      north = omega arith;
    }

pub place_from : (kind : Kind) (step near far extent globe n : ℕ) → 1 ≤ step → step ∣ extent
    → HoldsMultiple step (near - inset_of kind step) (past_corners kind step far globe) extent n
    → HasPlaceOnAxis kind step near far extent n
place_from Elevation step near far extent globe n p d m =
    let a = m.above in let b = m.below in let x = m.south in let y = m.north in
    record {
      corner = m.at;
      on_grid = m.multiple;
      from_low = omega arith;
      below_high = omega arith;
      from_near = omega arith;
      to_far = omega arith;
    }
place_from Material step near far extent globe n p d m =
    let a = m.above in let b = m.below in let x = m.south in let y = m.north in
    let high : m.at + step / 2 < n * extent + extent =
    place_in_part step extent n m.at (step / 2) d m.multiple (omega arith) y in
    record {
      corner = m.at;
      on_grid = m.multiple;
      from_low = omega arith;
      below_high = high;
      from_near = omega arith;
      to_far = omega arith;
    }

pub each_place : (kind : Kind) (step near far extent globe low high first end n : ℕ) → 1 ≤ step → step ∣ extent
    → low ≡ near - inset_of kind step → high ≡ past_corners kind step far globe
    → HoldsMultiple step low high extent n ↔ ((first ≤ n) × (n < end)) → (n + 1) * extent ≤ globe
    → HasPlaceOnAxis kind step near far extent n ↔ ((first ≤ n) × (n < end))
each_place kind step near far extent globe low high first end n p d el eh i within = (
  (λ h. i.0 (subst (λ m. HoldsMultiple step m high extent n) (sym el)
      (subst (λ m. HoldsMultiple step (near - inset_of kind step) m extent n) (sym eh)
      (place_to kind step near far extent globe n p d within h)))),
  (λ b. place_from kind step near far extent globe n p d
      (subst (λ m. HoldsMultiple step (near - inset_of kind step) m extent n) eh
      (subst (λ m. HoldsMultiple step m high extent n) el (i.1 b)))),
)

-- the same parts by equal numbers
pub place_same : (kind : Kind) (s s' a a' b b' e e' n : ℕ) (B : Type 0) → s ≡ s' → a ≡ a' → b ≡ b' → e ≡ e'
    → HasPlaceOnAxis kind s a b e n ↔ B → HasPlaceOnAxis kind s' a' b' e' n ↔ B
place_same kind s s' a a' b b' e e' n B es ea eb ee i =
    subst (λ m. HasPlaceOnAxis kind s' a' b' m n ↔ B) ee
    (subst (λ m. HasPlaceOnAxis kind s' a' m e n ↔ B) eb
    (subst (λ m. HasPlaceOnAxis kind s' m b e n ↔ B) ea
    (subst (λ m. HasPlaceOnAxis kind m a b e n ↔ B) es i)))

pub dvd_same : (s s' e e' : ℕ) → s ≡ s' → e ≡ e' → s' ∣ e' → s ∣ e
dvd_same s s' e e' es ee d = subst (λ m. m ∣ e) (sym es) (subst (λ m. s' ∣ m) (sym ee) d)

-- as many parts as fill the globe
pub part_inside : (n all e globe : ℕ) → n < all → all * e ≡ globe → (n + 1) * e ≤ globe
part_inside n all e globe lt fill = let m : suc n * e ≤ all * e = mul-le-mul_right e lt in omega arith
