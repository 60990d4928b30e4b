-- The lesser of two elevations, by one comparison of lowered numbers.
use Rattle.std.proofs.Common.{◌≡◌, ◌≢◌, ℤ, pos, negsuc, ◌+ℤ◌, ◌-ℤ◌, ◌≤ℤ◌, Bool, true, false, if◌then◌else◌, Some, None, refl, sym, ap, ◌∙◌, arith}
use Rattle.std.specs.Prelude.{FitsSigned, int_lt}
use Rattle.std.specs.Ordering.{int_eq}
use Rattle.std.specs.Int.{w16, int_wrap}
use Rattle.std.proofs.lemmas.Int.{ints, int_wrap_fits}
use Rattle.cdb_source.specs.declared.kind.Kind.TheVariants.{Elevation}
use Rattle.cdb_source.specs.Posts.{coded}
use Rattle.cdb_source.specs.Values.{lesser}
use Rattle.cdb_source.specs.Folds.{lesser_number}

at_least : (z : ℤ) → FitsSigned w16 z → negsuc 32767 ≤ℤ z
at_least z f = omega (arith, ints, f)

at_most : (z : ℤ) → FitsSigned w16 z → z ≤ℤ pos 32767
at_most z f = omega (arith, ints, f)

-- a number lowered by one, where no value becomes the greatest number
lowered_none : (z p : ℤ) → z ≡ negsuc 32767 → p ≡ int_wrap w16 (z -ℤ pos 1) → p ≡ pos 32767
unfolding int_wrap
lowered_none z p e is = is ∙ ap (λ n. int_wrap w16 (n -ℤ pos 1)) e

lowered_some : (z p : ℤ) → FitsSigned w16 z → z ≢ negsuc 32767 → p ≡ int_wrap w16 (z -ℤ pos 1) → p ≡ z -ℤ pos 1
lowered_some z p f some is =
    let least = at_least z f in let most = at_most z f in is ∙ int_wrap_fits w16 (z -ℤ pos 1) (omega (arith, ints))

raised_none : (p r : ℤ) → p ≡ pos 32767 → r ≡ int_wrap w16 (p +ℤ pos 1) → r ≡ negsuc 32767
unfolding int_wrap
raised_none p r e is = is ∙ ap (λ n. int_wrap w16 (n +ℤ pos 1)) e

raised_some : (z p r : ℤ) → FitsSigned w16 z → p ≡ z -ℤ pos 1 → r ≡ int_wrap w16 (p +ℤ pos 1) → r ≡ z
raised_some z p r f e is =
    let back : p +ℤ pos 1 ≡ z = omega (arith, ints) in
    is ∙ ap (int_wrap w16) back ∙ int_wrap_fits w16 z f

-- where the lowered second number is the lesser one, and where it isn't
module _ (a b p q : ℤ) (fa : FitsSigned w16 a) (fb : FitsSigned w16 b)
    (first : p ≡ int_wrap w16 (a -ℤ pos 1)) (second : q ≡ int_wrap w16 (b -ℤ pos 1)) where
  lesser_second : (r : ℤ) → int_lt q p ≡ true → r ≡ int_wrap w16 (q +ℤ pos 1) → r ≡ lesser_number a b
  lesser_second r less is = by (int_eq a (negsuc 32767)) (int_eq b (negsuc 32767)) refl refl
    where
      value : b ≢ negsuc 32767 → r ≡ b
      value ne = raised_some b q r fb (lowered_some b q fb ne second) is

      by : (d e : Bool) → int_eq a (negsuc 32767) ≡ d → int_eq b (negsuc 32767) ≡ e
          → r ≡ coded Elevation (lesser (if d then None else Some a) (if e then None else Some b))
      by true true ea eb =
          let na : a ≡ negsuc 32767 = grind (arith, ints) in let nb : b ≡ negsuc 32767 = grind (arith, ints) in
          let np = lowered_none a p na first in let nq = lowered_none b q nb second in absurd (grind (arith, ints))
      by true false ea eb = let nb : b ≢ negsuc 32767 = grind (arith, ints) in value nb
      by false true ea eb =
          let na : a ≢ negsuc 32767 = grind (arith, ints) in let nb : b ≡ negsuc 32767 = grind (arith, ints) in
          let some = lowered_some a p fa na first in let nq = lowered_none b q nb second in
          let most = at_most a fa in absurd (grind (arith, ints))
      by false false ea eb =
          let na : a ≢ negsuc 32767 = grind (arith, ints) in let nb : b ≢ negsuc 32767 = grind (arith, ints) in
          let la = lowered_some a p fa na first in let lb = lowered_some b q fb nb second in
          let l : int_lt b a ≡ true = grind (arith, ints) in
          value nb ∙ ap (λ x. if x then b else a) (sym l)

  lesser_first : (r : ℤ) → int_lt q p ≡ false → r ≡ int_wrap w16 (p +ℤ pos 1) → r ≡ lesser_number a b
  lesser_first r less is = by (int_eq a (negsuc 32767)) (int_eq b (negsuc 32767)) refl refl
    where
      value : a ≢ negsuc 32767 → r ≡ a
      value ne = raised_some a p r fa (lowered_some a p fa ne first) is

      by : (d e : Bool) → int_eq a (negsuc 32767) ≡ d → int_eq b (negsuc 32767) ≡ e
          → r ≡ coded Elevation (lesser (if d then None else Some a) (if e then None else Some b))
      by true true ea eb =
          let na : a ≡ negsuc 32767 = grind (arith, ints) in raised_none p r (lowered_none a p na first) is
      by true false ea eb =
          let na : a ≡ negsuc 32767 = grind (arith, ints) in let nb : b ≢ negsuc 32767 = grind (arith, ints) in
          let np = lowered_none a p na first in let some = lowered_some b q fb nb second in
          let most = at_most b fb in absurd (grind (arith, ints))
      by false true ea eb = let na : a ≢ negsuc 32767 = grind (arith, ints) in value na
      by false false ea eb =
          let na : a ≢ negsuc 32767 = grind (arith, ints) in let nb : b ≢ negsuc 32767 = grind (arith, ints) in
          let la = lowered_some a p fa na first in let lb = lowered_some b q fb nb second in
          let l : int_lt b a ≡ false = grind (arith, ints) in
          value na ∙ ap (λ x. if x then b else a) (sym l)

  pub lesser_is : (m r : ℤ) → m ≡ (if int_lt q p then q else p) → r ≡ int_wrap w16 (m +ℤ pos 1) → r ≡ lesser_number a b
  lesser_is m r least is = by (int_lt q p) refl least
    where
      by : (l : Bool) → int_lt q p ≡ l → m ≡ (if l then q else p) → r ≡ lesser_number a b
      by true less e = lesser_second r less (is ∙ ap (λ n. int_wrap w16 (n +ℤ pos 1)) e)
      by false less e = lesser_first r less (is ∙ ap (λ n. int_wrap w16 (n +ℤ pos 1)) e)
