-- The canonical writing of a number, a fraction and a list of posts reads back.
use Rattle.std.proofs.Common.{◌≡◌, ℕ, suc, ◌^◌, ◌<◌, ◌≤◌, Bool, true, false, cond, not, List, [], ◌∷◌, ◌++◌, length, map, Some, length-append, refl, ap, sym, ◌∙◌, arith}
use Rattle.std.specs.Prelude.{ℤ, pos, negsuc, nat_abs, ◌≤ℤ◌, nat_lt, nat_le, ◌==◌, All, option_map}
use Rattle.std.specs.Char.{is_ascii_digit}
use Rattle.std.specs.Fmt.{decimal, signed_decimal}
use Rattle.std.specs.List.{list_all, position_or_len}
use Rattle.std.specs.Ordering.{int_eq}
use Rattle.std.proofs.Math.Seq.{take-length, take-append_seam, drop-append-add}
use Rattle.std.proofs.lemmas.Bool.{lt-ltb, le-leb, and_parts}
use Rattle.std.proofs.lemmas.Bool.Decides.{nat_tests, Decides-int_eq}
use Rattle.std.proofs.lemmas.Fmt.{decimal_nonempty, length-decimal-le, digits_decimal, digits_value-decimal}
use Rattle.std.proofs.lemmas.Int.{ints}
use Rattle.std.proofs.lemmas.List.{length-map}
use Rattle.std.proofs.lemmas.List.Elements.{All-head, All-tail}
use Rattle.std.proofs.lemmas.List.Folds.{list_all-append}
use Rattle.cdb_grid.specs.declared.fraction.Fraction.{Fraction}
use Rattle.cdb_model.specs.Text.{Text}
use Rattle.cdb_model.specs.Words.{digits, signed, is_space}
use Rattle.cdb_model.specs.Grammar.{fraction, is_slash, each, posts}
use Rattle.cdb_model.specs.Writing.{fraction_text, HasDigits, IsWritableFraction}
use Rattle.cdb_commands.proofs.Digits.{own}
use Rattle.cdb_commands.proofs.JoinedWords.{is_clear}

pub all_digits : (n : ℕ) → n < 2 ^ 64 → list_all is_ascii_digit (decimal n) ≡ true
all_digits n wide = digits_decimal own n wide

pub digits_back : (most n : ℕ) → 0 < most → n < 10 ^ most → n < 2 ^ 64 → digits most (decimal n) ≡ Some n
unfolding digits
digits_back most n some short wide =
    let a : nat_lt 0 (length (decimal n)) ≡ true = lt-ltb 0 (length (decimal n)) (decimal_nonempty n wide) in
    let b : nat_le (length (decimal n)) most ≡ true =
    le-leb (length (decimal n)) most (length-decimal-le most n some short wide) in
    rw (a, b, all_digits n wide, digits_value-decimal own n wide) refl

-- a text that begins with a digit begins with no minus
pub plain_signed : (most : ℕ) (w : Text) (n : ℕ) → 0 < length w → list_all is_ascii_digit w ≡ true → digits most w
    ≡ Some n → signed most w ≡ Some (pos n)
unfolding signed
plain_signed most [] n some all e = absurd (omega arith)
plain_signed most (c ∷ w) n some all e =
    let t = and_parts (is_ascii_digit c) (list_all is_ascii_digit w) all in
    let no_minus : (c == 45) ≡ false = not_minus c t.0 in
    rw (no_minus, e) refl
  where
    not_minus : (c : ℕ) → is_ascii_digit c ≡ true → (c == 45) ≡ false
    not_minus c h = grind (arith, nat_tests)

pub signed_back : (most : ℕ) (z : ℤ) → 0 < most → HasDigits most z → nat_abs z < 2 ^ 64
    → signed most (signed_decimal z) ≡ Some z
unfolding signed
signed_back most (pos n) some short wide = plain_signed most (decimal n) n (decimal_nonempty n wide) (all_digits n wide)
    (digits_back most n some short wide)
signed_back most (negsuc n) some short wide = rw (digits_back most (suc n) some short wide) refl

-- no byte is a slash or a space
pub weaker : (p q : ℕ → Bool) (w : Text) → ((c : ℕ) → p c ≡ true → q c ≡ true) → list_all p w ≡ true
    → list_all q w ≡ true
weaker p q [] f h = refl
weaker p q (c ∷ w) f h = let t = and_parts (p c) (list_all p w) h in rw (f c t.0) (weaker p q w f t.1)

pub digits_clear : (s : ℕ) (w : Text) → s < 48 → list_all is_ascii_digit w ≡ true → is_clear (λ c. c == s) w ≡ true
digits_clear s w low h = weaker is_ascii_digit (λ c. not (c == s)) w (λ c d. apart c s low d) h
  where
    apart : (c s : ℕ) → s < 48 → is_ascii_digit c ≡ true → not (c == s) ≡ true
    apart c s low d = grind (arith, nat_tests)

pub decimal_clear : (s n : ℕ) → s < 48 → n < 2 ^ 64 → is_clear (λ c. c == s) (decimal n) ≡ true
decimal_clear s n low wide = digits_clear s (decimal n) low (all_digits n wide)

pub signed_clear : (s : ℕ) (z : ℤ) → s < 48 → not (45 == s) ≡ true → nat_abs z < 2 ^ 64
    → is_clear (λ c. c == s) (signed_decimal z) ≡ true
signed_clear s (pos n) low other wide = decimal_clear s n low wide
signed_clear s (negsuc n) low other wide = rw other (decimal_clear s (suc n) low wide)

place_of_slash : (w rest : Text) → is_clear is_slash w ≡ true → position_or_len is_slash (w ++ 47 ∷ rest) ≡ length w
place_of_slash [] rest h = refl
place_of_slash (c ∷ w) rest h = let t = and_parts (not (is_slash c)) (is_clear is_slash w) h in
    rw (t.0, place_of_slash w rest t.1) (omega arith)

no_slash : (w : Text) → is_clear is_slash w ≡ true → position_or_len is_slash w ≡ length w
no_slash [] h = refl
no_slash (c ∷ w) h =
    let t = and_parts (not (is_slash c)) (is_clear is_slash w) h in rw (t.0, no_slash w t.1) (omega arith)

pub whole_back : (w : Text) → is_clear is_slash w ≡ true
    → fraction w ≡ option_map (λ n. record { n = n; d = pos 1 }) (signed 18 w)
unfolding fraction
whole_back w h =
    let k = no_slash w h in
    let most : nat_lt (length w) (length w) ≡ false = grind (arith, nat_tests) in
    rw (k, most, take-length) refl

pub ratio_back : (top bottom : Text) (n : ℤ) (d : ℕ) → is_clear is_slash top ≡ true → signed 18 top ≡ Some n
    → digits 18 bottom ≡ Some d → fraction (top ++ 47 ∷ bottom) ≡ Some (record { n = n; d = pos d })
unfolding fraction
ratio_back top bottom n d h a b =
    let k = place_of_slash top bottom h in
    let inside : nat_lt (length top) (length (top ++ 47 ∷ bottom)) ≡ true =
    lt-ltb (length top) (length (top ++ 47 ∷ bottom)) (omega (arith, length-append top (47 ∷ bottom))) in
    rw (k, inside, take-append_seam, drop-append-add, a, b) refl

number_back : (n d : ℤ) → HasDigits 18 n → HasDigits 18 d → pos 0 ≤ℤ d
    → fraction (fraction_text (record { n = n; d = d })) ≡ Some (record { n = n; d = d })
number_back n (negsuc d) top bottom no_minus = absurd (omega (arith, ints))
number_back n (pos d) top bottom no_minus = by (int_eq (pos d) (pos 1)) refl
  where
    clear : is_clear is_slash (signed_decimal n) ≡ true
    clear = signed_clear 47 n (omega arith) refl (omega arith)

    by : (b : Bool) → int_eq (pos d) (pos 1) ≡ b
        → fraction (cond b (signed_decimal n) (signed_decimal n ++ 47 ∷ decimal d)) ≡ Some (record { n = n; d = pos d })
    by true e =
        let one : pos d ≡ pos 1 = (rw e at (Decides-int_eq (pos d) (pos 1))).0 refl in
        whole_back (signed_decimal n) clear ∙ ap (option_map (λ n. record { n = n; d = pos 1 }))
        (signed_back 18 n (omega arith) top (omega arith))
        ∙ ap (λ (d : ℤ). let f : Fraction = record { n = n; d = d } in Some f) (sym one)
    by false e = ratio_back (signed_decimal n) (decimal d) n d clear (signed_back 18 n (omega arith) top (omega arith))
        (digits_back 18 d (omega arith) bottom (omega arith))

pub fraction_back : (f : Fraction) → IsWritableFraction f → fraction (fraction_text f) ≡ Some f
fraction_back f is = number_back f.n f.d is.top is.bottom is.no_minus

pub fraction_clear : (f : Fraction) → IsWritableFraction f → is_clear is_space (fraction_text f) ≡ true
fraction_clear f is = by (int_eq f.d (pos 1))
  where
    top : is_clear is_space (signed_decimal f.n) ≡ true
    top = let short : nat_abs f.n < 10 ^ 18 = is.top in signed_clear 32 f.n (omega arith) refl (omega arith)

    bottom : is_clear is_space (signed_decimal f.d) ≡ true
    bottom = let short : nat_abs f.d < 10 ^ 18 = is.bottom in signed_clear 32 f.d (omega arith) refl (omega arith)

    by : (b : Bool) → is_clear is_space (cond b (signed_decimal f.n) (signed_decimal f.n ++ 47 ∷ signed_decimal f.d))
        ≡ true
    by true = top
    by false = list_all-append (λ c. not (is_space c)) (signed_decimal f.n) (47 ∷ signed_decimal f.d)
        ∙ rw (top, bottom) refl

pub each_back : (zs : List ℤ) → All (HasDigits 6) zs → each (signed 6) (map signed_decimal zs) ≡ Some zs
each_back [] h = refl
each_back (z ∷ zs) h =
    let short : nat_abs z < 10 ^ 6 = All-head (HasDigits 6) z zs h in
    rw (signed_back 6 z (omega arith) short (omega arith), each_back zs (All-tail (HasDigits 6) z zs h)) refl

pub posts_clear : (zs : List ℤ) → All (HasDigits 6) zs
    → list_all (λ w. is_clear is_space w) (map signed_decimal zs) ≡ true
posts_clear [] h = refl
posts_clear (z ∷ zs) h =
    let short : nat_abs z < 10 ^ 6 = All-head (HasDigits 6) z zs h in
    rw (signed_clear 32 z (omega arith) refl (omega arith)) (posts_clear zs (All-tail (HasDigits 6) z zs h))

pub posts_back : (zs : List ℤ) → 0 < length zs → length zs ≤ 64 → All (HasDigits 6) zs
    → posts (map signed_decimal zs) ≡ Some zs
unfolding posts
posts_back zs some few h =
    let a : nat_lt 0 (length zs) ≡ true = lt-ltb 0 (length zs) some in
    let b : nat_le (length zs) 64 ≡ true = le-leb (length zs) 64 few in
    rw (length-map, a, b) (each_back zs h)
