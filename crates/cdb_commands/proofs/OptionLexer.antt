-- Words as the grammar of the options and as `clap` take them apart.
use Rattle.std.proofs.Common.{◌≡◌, ℕ, suc, ◌+◌, Bool, true, false, cond, not, ◌&&◌, ◌||◌, List, [], ◌∷◌, length, take, drop, Option, Some, None, refl, ap, ap₂, sym, ◌∙◌, arith}
use Rattle.std.specs.Prelude.{nat_lt, ◌==◌, is_some, option_map, option_and_then}
use Rattle.std.specs.List.{list_any, position_or_len, after_first}
use Rattle.std.proofs.lemmas.Bool.Decides.{nat_tests}
use Rattle.clap.specs.Lexer.{long_of, long_of_rest, short_of, short_of_rest, strip_byte, has_byte, name_and_value as clap_name_and_value}
use Rattle.cdb_model.specs.Text.{Text}
use Rattle.cdb_commands.specs.OptionWords.{is_equals, behind_equals, behind_hyphens, name_and_value, is_short}

-- one place further in a text that is one byte longer
one_further : (n m : ℕ) → nat_lt (1 + n) (suc m) ≡ nat_lt n m
one_further n m = by (nat_lt n m) refl
  where
    by : (b : Bool) → nat_lt n m ≡ b → nat_lt (1 + n) (suc m) ≡ b
    by true e = grind (arith, nat_tests)
    by false e = grind (arith, nat_tests)

-- a text has a byte where its place lies inside it
has_inside : (text : Text) → nat_lt (position_or_len is_equals text) (length text) ≡ has_byte 61 text
has_inside [] = refl
has_inside (c ∷ text) = by (is_equals c) (has_inside text)
  where
    by : (b : Bool) → nat_lt (position_or_len is_equals text) (length text) ≡ has_byte 61 text
        → nat_lt (cond (not b) (1 + position_or_len is_equals text) 0) (length (c ∷ text)) ≡ (b || has_byte 61 text)
    by true e = grind (arith, nat_tests)
    by false e = one_further (position_or_len is_equals text) (length text) ∙ e

abbrev split : Text → Text × Option Text
split text = (take (position_or_len is_equals text) text, behind_equals text)

split_is : (text : Text) → split text ≡ clap_name_and_value text
split_is text =
    ap (λ (b : Bool). let p : Text
    × Option Text =
    (take (position_or_len is_equals text) text, cond b (Some (drop (position_or_len is_equals text + 1) text)) None) in
    p) (has_inside text)

pub word_is : (word : Text) → name_and_value word ≡ long_of word
word_is [] = refl
word_is (a ∷ []) = by (a == 45)
  where
    by : (x : Bool) → None ≡ option_and_then long_of_rest (option_and_then (strip_byte 45) (cond x (Some []) None))
    by true = refl
    by false = refl
word_is (a ∷ b ∷ []) = by (a == 45)
  where
    second : (y : Bool) → None ≡ option_and_then long_of_rest (cond y (Some []) None)
    second true = refl
    second false = refl

    by : (x : Bool)
        → None ≡ option_and_then long_of_rest (option_and_then (strip_byte 45) (cond x (Some (b ∷ [])) None))
    by true = second (b == 45)
    by false = refl
word_is (a ∷ b ∷ c ∷ rest) = by (a == 45)
  where
    second : (y : Bool) → option_map split (cond y (Some (c ∷ rest)) None)
        ≡ option_and_then long_of_rest (cond y (Some (c ∷ rest)) None)
    second true = ap Some (split_is (c ∷ rest))
    second false = refl

    by : (x : Bool) → option_map split (cond (x && (b == 45)) (Some (c ∷ rest)) None)
        ≡ option_and_then long_of_rest (option_and_then (strip_byte 45) (cond x (Some (b ∷ c ∷ rest)) None))
    by true = second (b == 45)
    by false = refl

pub no_short : (word : Text) → is_short word ≡ false → short_of word ≡ None
no_short [] e = refl
no_short (a ∷ []) e = by (a == 45)
  where
    by : (x : Bool) → option_and_then short_of_rest (cond x (Some []) None) ≡ None
    by true = refl
    by false = refl
no_short (a ∷ b ∷ rest) e = by (a == 45) e
  where
    second : (y : Bool) → not y ≡ false → cond y None (Some (b ∷ rest)) ≡ None
    second true e = refl
    second false e = absurd cc

    by : (x : Bool) → (x && not (b == 45)) ≡ false
        → option_and_then short_of_rest (cond x (Some (b ∷ rest)) None) ≡ None
    by true e = second (b == 45) e
    by false e = refl
