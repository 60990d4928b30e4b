-- Numbers of all digits that follow, without a leading zero.
use Rattle.std.proofs.Common.{◌≡◌, ℕ, zero, suc, ◌+◌, ◌-◌, ◌<◌, ◌≤◌, ◌^◌, Bool, true, false, cond, ◌&&◌, not, [], ◌∷◌, ◌++◌, length, take, drop, Some, refl, ap, sym, subst, ◌∙◌, arith, length-append}
use Rattle.std.specs.Prelude.{nat_lt, ◌==◌, ◌||◌, slice_index}
use Rattle.std.specs.Char.{is_ascii_digit}
use Rattle.std.specs.Fmt.{decimal}
use Rattle.std.specs.Str.{all_ascii_digits}
use Rattle.std.specs.Str.Parse.{digits_value}
use Rattle.std.proofs.lemmas.Bool.{ltb-true, lt-ltb, and_parts}
use Rattle.std.proofs.lemmas.Bool.Decides.{nat_tests}
use Rattle.std.proofs.lemmas.Fmt.{decimal_digit, decimal_nonempty, first_decimal, digits_decimal, digits_value-decimal, decimal-digits_value, length-decimal-le}
use Rattle.std.proofs.lemmas.Int.{ints}
use Rattle.std.proofs.Math.Nat.{pow-le-pow_right}
use lib.IntN.{ℤ, pos, negsuc}
use lib.Signed.{◌≤ℤ◌}
use Rattle.std.proofs.lemmas.List.{take-append-drop, take_at, drop_at}
use Rattle.std.proofs.lemmas.Str.Parse.{IsNumeralModel, numerals_by_value, tells_all_ascii_digits}
use Rattle.std.proofs.lemmas.Option.{cond_some}
use Rattle.cdb_grid.specs.Units.{height_of}
use Rattle.cdb_grid.specs.declared.tile.Tile.{Tile}
use Rattle.cdb_model.specs.Names.{Text, begins_with_digit}
use Rattle.cdb_names.specs.Fields.{digits_len, bounded_number, bounded_number_at}
use Rattle.cdb_names.proofs.Tools.{map_some, pair_is}

pub own : IsNumeralModel (λ ds. all_ascii_digits ds ≡ true) (digits_value 10)
own = numerals_by_value (λ ds. all_ascii_digits ds ≡ true) tells_all_ascii_digits

-- the first byte after the digits is no digit
pub rest_begins : (text : Text) → begins_with_digit (drop (digits_len text) text) ≡ false
rest_begins [] = refl
rest_begins (c ∷ text) = by (rest_begins text) (is_ascii_digit c) refl
  where
    by : begins_with_digit (drop (digits_len text) text) ≡ false → (b : Bool) → is_ascii_digit c ≡ b
        → begins_with_digit (drop (cond b (1 + digits_len text) 0) (c ∷ text)) ≡ false
    by rest true e = let k : 1 + digits_len text ≡ suc (digits_len text) = omega arith in rw k rest
    by rest false e = e

-- the digits at the front are digits
pub all_front : (text : Text) → all_ascii_digits (take (digits_len text) text) ≡ true
all_front [] = refl
all_front (c ∷ text) = by (all_front text) (is_ascii_digit c) refl
  where
    by : all_ascii_digits (take (digits_len text) text) ≡ true → (b : Bool) → is_ascii_digit c ≡ b
        → all_ascii_digits (take (cond b (1 + digits_len text) 0) (c ∷ text)) ≡ true
    by rest true e = let k : 1 + digits_len text ≡ suc (digits_len text) = omega arith in rw (k, e) rest
    by rest false e = refl

-- the tests of number_of, and its value
pub number_value : (limit : ℕ) (ds : Text) (n : ℕ) → all_ascii_digits ds ≡ true → limit ≤ 2 ^ 32
    → bounded_number limit ds ≡ Some n → (ds ≡ decimal n) × (n < limit)
number_value limit ds n digits small e =
    let g = cond_some
    (nat_lt 0 (length ds)
    && (((length ds == 1) || not (slice_index ds 0 == 48)) && nat_lt (digits_value 10 ds) limit))
    (digits_value 10 ds) n e in
    let t = and_parts (nat_lt 0 (length ds))
    (((length ds == 1) || not (slice_index ds 0 == 48)) && nat_lt (digits_value 10 ds) limit) g.0 in
    let u = and_parts ((length ds == 1) || not (slice_index ds 0 == 48)) (nat_lt (digits_value 10 ds) limit) t.1 in
    let some : 0 < length ds = ltb-true 0 (length ds) t.0 in
    let lt : digits_value 10 ds < limit = ltb-true (digits_value 10 ds) limit u.1 in
    let d : decimal (digits_value 10 ds) ≡ ds = decimal-digits_value own ds digits some
    (λ z. one_digit (length ds) (slice_index ds 0) z u.0) (omega arith) in
    (sym d ∙ ap decimal g.1, subst (λ (k : ℕ). k < limit) g.1 lt)
  where
    one_digit : (k first : ℕ) → first ≡ 48 → ((k == 1) || not (first == 48)) ≡ true → k ≡ 1
    one_digit k first z h = grind (arith, nat_tests)

-- a number that was read, spelled again
pub number_takes : (limit : ℕ) (text : Text) (n : ℕ) (rest : Text) → limit ≤ 2 ^ 32 → bounded_number_at limit text
    ≡ Some (n, rest) → (n < limit) × (text ≡ decimal n ++ rest) × (begins_with_digit rest ≡ false)
unfolding bounded_number_at
number_takes limit text n rest small e =
    let m = map_some (bounded_number limit (take (digits_len text) text))
    (λ n. (n, drop (digits_len text) text)) (n, rest) e in
    let p = pair_is m.0 n (drop (digits_len text) text) rest m.2 in
    let v = number_value limit (take (digits_len text) text) m.0 (all_front text) small m.1 in
    let split = sym (take-append-drop (digits_len text) text) in
    let whole : text ≡ decimal m.0 ++ drop (digits_len text) text = split
    ∙ ap (λ (r : Text). r ++ drop (digits_len text) text) v.0 in (
      subst (λ (k : ℕ). k < limit) p.0 v.1,
      subst (λ (k : ℕ). text ≡ decimal k ++ rest)
          p.0 (subst (λ (r : Text). text ≡ decimal m.0 ++ r) p.1 whole),
      subst (λ (r : Text). begins_with_digit r ≡ false)
          p.1 (rest_begins text),
    )

-- a number below ten millions has at most seven digits
pub near_value : (limit : ℕ) (text : Text) (n : ℕ) → limit ≤ 10 ^ 7 → bounded_number limit (take (digits_len text) text)
    ≡ Some n → length text ≤ length (drop (digits_len text) text) + 7
near_value limit text n small e =
    let ds = take (digits_len text) text in
    let rest = drop (digits_len text) text in
    let v = number_value limit ds n (all_front text) (omega arith) e in
    let k : length (decimal n) ≤ 7 = length-decimal-le 7 n (omega arith) (omega (arith, v.1)) (omega (arith, v.1)) in
    omega (arith, k, ap length v.0, ap length (take-append-drop (digits_len text) text), length-append ds rest)

-- digits, and then no digit
pub digits_len-append : (ds rest : Text) → all_ascii_digits ds ≡ true → begins_with_digit rest ≡ false
    → digits_len (ds ++ rest) ≡ length ds
digits_len-append [] [] h e = refl
digits_len-append [] (c ∷ rest) h e = rw e refl
digits_len-append (d ∷ ds) rest h e =
    let t = and_parts (is_ascii_digit d) (all_ascii_digits ds) h in
    rw t.0 (omega (arith, digits_len-append ds rest t.1 e))

number_again_value : (limit n : ℕ) → n < limit → limit ≤ 2 ^ 32 → bounded_number limit (decimal n) ≡ Some n
number_again_value limit n lt small =
    let v : digits_value 10 (decimal n) ≡ n = digits_value-decimal own n (omega arith) in
    let a : nat_lt 0 (length (decimal n)) ≡ true = lt-ltb 0 (length (decimal n)) (decimal_nonempty n (omega arith)) in
    let b : nat_lt n limit ≡ true = lt-ltb n limit lt in
    rw (v, a, b, no_zero n (omega arith)) refl
  where
    no_zero : (n : ℕ) → n < 2 ^ 64 → ((length (decimal n) == 1) || not (slice_index (decimal n) 0 == 48)) ≡ true
    no_zero zero h = rw (decimal_digit 0 (omega arith)) refl
    no_zero (suc n) h = let f : 48 < slice_index (decimal (suc n)) 0 = first_decimal (suc n) (omega arith) h in
        by (length (decimal (suc n))) (slice_index (decimal (suc n)) 0) f
      where
        by : (k first : ℕ) → 48 < first → ((k == 1) || not (first == 48)) ≡ true
        by k first h = grind (arith, nat_tests)

-- a spelled number, read again
pub number_again : (limit n : ℕ) (rest : Text) → n < limit → limit ≤ 2 ^ 32 → begins_with_digit rest ≡ false
    → bounded_number_at limit (decimal n ++ rest) ≡ Some (n, rest)
unfolding bounded_number_at
number_again limit n rest lt small e =
    let ds : all_ascii_digits (decimal n) ≡ true = digits_decimal own n (omega arith) in
    let k = digits_len-append (decimal n) rest ds e in
    rw (
      k,
      take_at (decimal n) rest (length (decimal n)) refl,
      drop_at (decimal n) rest (length (decimal n)) refl,
      number_again_value limit n lt small,
    ) refl

-- a row and a column of a tile have at most seven digits
across_few : (z : ℤ) → z ≤ℤ pos 23 → 2 ^ (24 - height_of z) ≤ 2 ^ 23
across_few z high =
    let bound : 24 - height_of z ≤ 23 = by z high in
    let some : 0 < 2 = omega arith in
    pow-le-pow_right {n = 2} some bound
  where
    by : (z : ℤ) → z ≤ℤ pos 23 → 24 - height_of z ≤ 23
    by (pos n) high = omega (arith, ints)
    by (negsuc n) high = omega arith

pub up_small : (t : Tile) → t.up < 10000000
up_small t = omega (arith, across_few t.level.number t.level.finest, t.up_in_range)

pub right_small : (t : Tile) → t.right < 10000000
right_small t = omega (arith, across_few t.level.number t.level.finest, t.right_in_range)
