-- The range of a frame in its block.
use Rattle.std.proofs.Common.{◌≡◌, ℕ, ◌+◌, ◌*◌, ◌-◌, ◌≤◌, ◌^◌, List, ◌++◌, take, drop, length, Bool, true, Some, ◌≢◌, ◌⊎◌, inl, inr, slice_get, slice_range, ap, ◌∙◌, arith, length-drop, length-append}
use Rattle.std.proofs.lemmas.Option.{slice_get_within}
use Rattle.std.proofs.lemmas.Nat.{row_fits}
use Rattle.std.proofs.lemmas.Bool.{cases_lt}
use Rattle.std.proofs.lemmas.List.{length-take-le, take-append-le}
use Rattle.cdb_pool.specs.Frames.{IsWholeBlock}

-- where a frame that is out lies
pub record Lies {T : Type 0} (items : List T) (frame_length k : ℕ) : Type 0 where
  pub within : k * frame_length + frame_length ≤ length items
  pub small : length items ≤ 2 ^ 28

pub lies : {T : Type 0} (items : List T) (frame_length : ℕ) (out : List Bool) (k : ℕ) {now : Bool}
    → IsWholeBlock items frame_length out → slice_get out k ≡ Some now → Lies items frame_length k
lies items m out k {now = now} whole there =
    let below = slice_get_within out k now there in
    let fits = row_fits k m (length out) m below (omega arith) in
    record { within = omega (arith, fits, whole.all); small = whole.most }

pub length_of : {T : Type 0} (items : List T) (m k : ℕ) → Lies items m k → length (take m (drop (k * m) items)) ≡ m
length_of items m k l = length-take-le m (drop (k * m) items) (omega (arith, length-drop (k * m) items, l.within))

pub range_is : {T : Type 0} (items : List T) (m k : ℕ) → slice_range items (k * m) (k * m + m)
    ≡ take m (drop (k * m) items)
range_is items m k = ap (λ n. take n (drop (k * m) items)) (let e : k * m + m - k * m ≡ m = omega arith in e)

-- what a write from a place on leaves
pub over : {T : Type 0} (items w : List T) (start n : ℕ) → start ≤ length items → n ≡ length items →
    let all = take start items ++ (w ++ drop (length w) (drop start items)) in take n (all ++ drop (length all) items)
    ≡ take (length items) all
over items w start n fits e =
    let rest = drop (length w) (drop start items) in
    let all = take start items ++ (w ++ rest) in
    let long : length items ≤ length all =
    omega (
      arith,
      length-append (take start items) (w ++ rest),
      length-append w rest,
      length-take-le start items
          fits,
      length-drop (length w) (drop start items),
      length-drop start items,
    ) in
    ap (λ k. take k (all ++ drop (length all) items)) e
    ∙ take-append-le (length items) all (drop (length all) items) long

-- two different frames don't meet
pub apart : (m t f : ℕ) → t ≢ f → (t * m + m ≤ f * m) ⊎ (f * m + m ≤ t * m)
apart m t f other = elim (cases_lt t f) as (λ _. (t * m + m ≤ f * m) ⊎ (f * m + m ≤ t * m)) [
  | inl low ↦ inl (row_fits t m f m low (omega arith))
  | inr high ↦ inr (row_fits f m t m (omega arith) (omega arith))
]
